-- Add on an accepted track: the last sector, the track that is written, and the answers in their order.
use mathlib.Core.Path.{◌≡◌, sym, ap, ap₂, ◌∙◌, subst}
use Prim.Native.Nat.{ℕ, suc, ◌+◌, ◌-◌, ◌≤◌, ◌<◌}
use native.Mathlib.Omega.{arith}
use mathlib.Core.Bool.{true, false}
use mathlib.Core.List.{List, [], ◌∷◌, ◌++◌, append_assoc, append-nil}
use lib.ListN.{length, take, replicate, length-replicate}
use borrow.Author.Tests.{le-leb, lt-leb}
use Rattle.format.specs.Answer.{wanted_wrong, sector_repeated, room_missing}
use Rattle.format.specs.Judged.{good, refused}
use Rattle.format.specs.Lent.{cells, bytes_of, marks_of}
use Rattle.format.specs.Home.{Home}
use Rattle.format.specs.Span.{joined}
use Rattle.format.specs.Sector.{Sector}
use Rattle.format.specs.Accept.{Placed, accept_cells, end_of, from_number, last_of}
use Rattle.format.specs.GapRule.{GapRule, gap_by, wanted_right}
use Rattle.format.specs.Written.{gap_after, written_sector, as_pair, sector_size}
use Rattle.format.specs.Add.{judge_absent, added_flag, added_sector, added_to, add_cells}
use Rattle.format.proofs.Track.Pairs.{pair_of, accepted_pair, length_bytes, length_marks}
use Rattle.format.proofs.Track.Sectors.{list_suffices}
use Rattle.format.proofs.Add.NewSector.{add_need, kept_cells, length_kept, added_room}
use Rattle.sector.specs.As.{as_address}
use Rattle.base.specs.Laid.{laid_over, laid_at}
use Rattle.encode.specs.Room.{sector_from}
use Rattle.encode.proofs.Cells.{bytes_append, marks_append}
use Rattle.sectors.specs.declared.SectorAt.{SectorAt as SectorCode}
use Rattle.sectors.specs.SectorAt.{SectorAt, sector_at, as_sector_at}
use Rattle.sectors.specs.From.{SectorsFrom}
use Rattle.sectors.proofs.From.{accepted_start}
use Rattle.writer.specs.Filled.{filled_span}
use Rattle.writer.specs.Remaining.{Readable}
use Rattle.writer.proofs.Filled.{bytes_gap, marks_gap, filled_length, laid_to_end, take_laid, take_over}
use Rattle.writer.proofs.Corrected.{some_remaining, readable_steps, readable_remaining}

-- The new track in bytes: the kept front, the gap, and the new sector with the gap to index.
module _ (end to l : ℕ) (s : Sector) (h : end ≤ to) (room : to + length (written_sector s) ≤ l) (kept old one two last : List ℕ) (k : length kept ≡ end)
    (e : one ≡ laid_over kept old) (long1 : length one ≡ l) (long2 : length two ≡ l) where
  pub added_bytes : two ≡ laid_at end (replicate (to - end) 0xFF) one → last ≡ laid_at to (bytes_of (filled_span (l - to) s)) two
      → last ≡ kept ++ bytes_of (replicate (to - end) 0xFF ++ filled_span (l - to) s)
  added_bytes f g =
      let w : List ℕ = filled_span (l - to) s in
      let z : List ℕ = replicate (to - end) 0xFF in
      let n : length (bytes_of w) ≡ l - to = length_bytes w ∙ filled_length (l - to) s (omega arith) in
      g ∙ laid_to_end to (bytes_of w) two (omega (arith, n))
      ∙ ap (λ (y : List ℕ). y ++ bytes_of w)
      (ap (take to) f ∙ take_laid end to z one (omega arith) (omega (arith, length-replicate {A = ℕ} (to - end) 0xFF))
      ∙ ap₂ (λ (y v : List ℕ). y ++ v) (ap (take end) e ∙ take_over end kept old k) (sym (bytes_gap (to - end))))
      ∙ append_assoc kept (bytes_of z) (bytes_of w) ∙ ap (λ (y : List ℕ). kept ++ y) (sym (bytes_append z w))

  -- And in marks.
  pub added_marks : two ≡ laid_at end (replicate (to - end) 0) one → last ≡ laid_at to (marks_of (filled_span (l - to) s)) two
      → last ≡ kept ++ marks_of (replicate (to - end) 0xFF ++ filled_span (l - to) s)
  added_marks f g =
      let w : List ℕ = filled_span (l - to) s in
      let z : List ℕ = replicate (to - end) 0xFF in
      let n : length (marks_of w) ≡ l - to = length_marks w ∙ filled_length (l - to) s (omega arith) in
      g ∙ laid_to_end to (marks_of w) two (omega (arith, n))
      ∙ ap (λ (y : List ℕ). y ++ marks_of w)
      (ap (take to) f ∙ take_laid end to (replicate (to - end) 0) one (omega arith) (omega (arith, length-replicate {A = ℕ} (to - end) 0))
      ∙ ap₂ (λ (y v : List ℕ). y ++ v) (ap (take end) e ∙ take_over end kept old k) (sym (marks_gap (to - end))))
      ∙ append_assoc kept (marks_of z) (marks_of w) ∙ ap (λ (y : List ℕ). kept ++ y) (sym (marks_append z w))

-- Add on an accepted track, by its tests in their order.
module _ (rule : GapRule) (t m : List ℕ) (start : ℕ) (r : Readable t m start) (b7 s : ℕ) (key body : List ℕ) where
  abbrev c : List ℕ
  c = cells t m

  judged : accept_cells c ≡ good r.accepted
  judged = (accepted_pair t m r.accepted r.is_accepted).1

  -- 14 where B7 is no bit,
  pub add_overflow : 1 < b7 → as_pair (add_cells rule c b7 s key body) ≡ refused wanted_wrong
  unfolding add_cells as_pair
  add_overflow h = rw (judged, lt-leb b7 1 h)

  module _ (bit : b7 ≤ 1) where
    -- or the rule, the key or the data is out of range.
    pub add_wanted : wanted_right rule key body ≡ false → as_pair (add_cells rule c b7 s key body) ≡ refused wanted_wrong
    unfolding add_cells as_pair
    add_wanted e = rw (judged, le-leb b7 1 bit, e)

    module _ (right : wanted_right rule key body ≡ true) where
      -- 13 where a sector carries S.
      pub add_repeated : (x : Placed) (xs : List Placed) (q : ℕ) → from_number s r.accepted.sectors ≡ x ∷ xs → x.place ≡ q
          → as_pair (add_cells rule c b7 s key body) ≡ refused (sector_repeated q)
      unfolding add_cells judge_absent as_pair
      add_repeated x xs q e at = rw (judged, le-leb b7 1 bit, right, e, at)

      -- What Add writes behind the sectors x and xs, the last of which ends at `end` and has the gap up to `to`.
      module _ (absent : from_number s r.accepted.sectors ≡ []) (x : Placed) (xs : List Placed) (all : r.accepted.sectors ≡ x ∷ xs) (end to : ℕ)
          (end_is : end ≡ end_of (last_of x xs)) (to_is : to ≡ end + gap_after (gap_by rule) (last_of x xs).sector) (low : end ≤ length c) where
        -- The new sector.
        abbrev pub new : Sector
        new = added_sector r.accepted.home (suc (0 + length xs)) (last_of x xs) b7 s key body

        add_is : add_cells rule c b7 s key body ≡ added_to (gap_by rule) c r.accepted.home 0 b7 s key body (x ∷ xs)
        unfolding add_cells judge_absent
        add_is = rw (judged, le-leb b7 1 bit, right, absent, all)

        need_is : add_need (gap_by rule) (x ∷ xs) key body ≡ to + sector_size false (length key) (length body) + 13
        unfolding sector_size
        need_is = omega (arith, end_is, to_is)

        -- 15 where its block would end later than 13 bytes before index.
        pub add_short : length c < to + sector_size false (length key) (length body) + 13 → as_pair (add_cells rule c b7 s key body) ≡ refused room_missing
        unfolding as_pair
        add_short h =
            ap as_pair (add_is ∙ added_room (gap_by rule) c r.accepted.home 0 b7 s key body x xs (omega (arith, end_is)))
            ∙ rw (need_is, lt-leb (to + sector_size false (length key) (length body) + 13) (length c) h)

        whole_is : kept_cells (gap_by rule) c (x ∷ xs) ++ joined ((written_sector new ++ replicate (length c - length (kept_cells (gap_by rule) c (x ∷ xs)) - length (written_sector new)) 0xFF) ∷ [])
            ≡ take end c ++ (replicate (to - end) 0xFF ++ filled_span (length c - to) new)
        unfolding filled_span
        whole_is =
            let k : length (kept_cells (gap_by rule) c (x ∷ xs)) ≡ to = length_kept (gap_by rule) c (x ∷ xs) (omega (arith, end_is)) ∙ omega (arith, end_is, to_is) in
            let g : gap_after (gap_by rule) (last_of x xs).sector ≡ to - end = omega (arith, to_is) in
            let w : List ℕ = written_sector new in
            append_assoc (take (end_of (last_of x xs)) c) (replicate (gap_after (gap_by rule) (last_of x xs).sector) 0xFF) ((w ++ replicate (length c - length (kept_cells (gap_by rule) c (x ∷ xs)) - length w) 0xFF) ++ [])
            ∙ ap (λ (z : List ℕ). take (end_of (last_of x xs)) c ++ (replicate (gap_after (gap_by rule) (last_of x xs).sector) 0xFF ++ z))
            (append-nil (w ++ replicate (length c - length (kept_cells (gap_by rule) c (x ∷ xs)) - length w) 0xFF)
            ∙ ap (λ (n : ℕ). w ++ replicate (length c - n - length w) 0xFF) k)
            ∙ ap₂ (λ (i j : ℕ). take i c ++ (replicate j 0xFF ++ (w ++ replicate (length c - to - length w) 0xFF))) (sym end_is) g

        -- Else the new track.
        pub add_done : to + sector_size false (length key) (length body) + 13 ≤ length c
            → as_pair (add_cells rule c b7 s key body) ≡ good (pair_of (take end c ++ (replicate (to - end) 0xFF ++ filled_span (length c - to) new)))
        unfolding as_pair
        add_done h =
            ap as_pair (add_is ∙ added_room (gap_by rule) c r.accepted.home 0 b7 s key body x xs (omega (arith, end_is)))
            ∙ rw (need_is, le-leb (to + sector_size false (length key) (length body) + 13) (length c) h) (ap (λ (z : List ℕ). good (pair_of z)) whole_is)

-- All sectors of a readable track, of which there is at least one.
pub record AllSectors (t m : List ℕ) (start : ℕ) (r : Readable t m start) : Type 0 where
  pub x : Placed
  pub xs : List Placed
  pub all : r.accepted.sectors ≡ x ∷ xs
  pub steps : SectorsFrom t m start (x ∷ xs)

-- Sector 0 opens on the track.
pub readable_low : (t m : List ℕ) (start : ℕ) → Readable t m start → start < length t
readable_low t m start r =
    let z = accepted_start t m r.accepted r.is_accepted in
    omega (arith, z.start_most, z.length_least, r.starts)

-- Every readable track has them.
pub all_sectors : (t m : List ℕ) (start : ℕ) (r : Readable t m start) → AllSectors t m start r
all_sectors t m start r =
    let f = readable_steps t m start r in
    let u = readable_remaining t m start r in
    let z = some_remaining t m start r.accepted.sectors f (omega (arith, readable_low t m start r, u.cells_length)) in
    record { x = z.0; xs = z.1.0; all = z.1.1; steps = subst (SectorsFrom t m start) z.1.1 f }

-- The last sector of a readable track with n sectors: what was read of it, and where it ends.
pub record LastRead (rule : GapRule) (t m : List ℕ) (start : ℕ) (r : Readable t m start) (n : ℕ) (l : SectorCode) : Type 0 where
  pub x : Placed
  pub xs : List Placed
  pub all : r.accepted.sectors ≡ x ∷ xs
  pub position_is : n ≡ suc (length xs)
  pub position_fits : n ≤ 67
  pub key_fits : l.key_length ≤ 255
  pub data_fits : l.data_length ≤ 65535
  pub address_is : as_address l.address ≡ (last_of x xs).sector.address
  pub end_is : l.end ≡ end_of (last_of x xs)
  pub end_inside : l.end + 13 ≤ length t
  pub gap_is : gap_by rule l.key_length l.data_length ≡ gap_after (gap_by rule) (last_of x xs).sector

-- What is read at its place is the last sector.
pub last_read : (rule : GapRule) (t m : List ℕ) (start : ℕ) (r : Readable t m start) (at n : ℕ) (l : SectorCode)
    → ((x : Placed) (xs : List Placed) → SectorsFrom t m start (x ∷ xs) → SectorsFrom t m at (last_of x xs ∷ []) × (n ≡ suc (length xs)))
    → as_sector_at l ≡ sector_at at (cells t m) → LastRead rule t m start r n l
unfolding gap_after
last_read rule t m start r at n l g e =
    let z = all_sectors t m start r in
    let h = g z.x z.xs z.steps in
    let v = h.0.0 in
    let kl : l.key_length ≡ length (last_of z.x z.xs).sector.key_bytes = ap (λ (w : SectorAt). w.key_length) e ∙ v.key_length_is in
    let dl : l.data_length ≡ length (last_of z.x z.xs).sector.data_bytes = ap (λ (w : SectorAt). w.data_length) e ∙ v.data_length_is in
    let end : l.end ≡ end_of (last_of z.x z.xs) = ap (λ (w : SectorAt). w.end) e ∙ v.end_is in
    record {
      x = z.x;
      xs = z.xs;
      all = z.all;
      position_is = h.1;
      position_fits = omega (arith, h.1, ap length z.all, list_suffices t m r.accepted r.is_accepted);
      key_fits = omega (arith, kl, v.key_fits);
      data_fits = omega (arith, dl, v.data_fits);
      address_is = ap (λ (w : SectorAt). w.address) e ∙ v.address_is;
      end_is = end;
      end_inside = omega (arith, end, v.end_inside, v.span_inside, (readable_remaining t m start r).cells_length);
      gap_is = ap₂ (gap_by rule) kl dl;
    }

-- The sector that is written behind it.
pub added_made : (rule : GapRule) (t m : List ℕ) (start : ℕ) (r : Readable t m start) (n : ℕ) (l : SectorCode) (v : LastRead rule t m start r n l) (h : Home) (flag b7 s : ℕ) (key body : List ℕ)
    → flag ≡ added_flag h.flag n b7
    → sector_from false flag l.address.cylinder l.address.head s key body ≡ added_sector h (suc (0 + length v.xs)) (last_of v.x v.xs) b7 s key body
unfolding added_sector
added_made rule t m start r n l v h flag b7 s key body e =
    let at : n ≡ suc (0 + length v.xs) = omega (arith, v.position_is) in
    let fl : flag ≡ added_flag h.flag (suc (0 + length v.xs)) b7 = e ∙ ap (λ (i : ℕ). added_flag h.flag i b7) at in
    λ j. record { first = false; flag = fl j; address = v.address_is j; number = s; key_bytes = key; data_bytes = body }
