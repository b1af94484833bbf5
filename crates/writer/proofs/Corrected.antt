-- Correct on an accepted track: the sector that is corrected, the track that is written, and the answers in their order.
use mathlib.Core.Path.{◌≡◌, refl, sym, ap, ap₂, ◌∙◌, subst}
use Prim.Native.Nat.{ℕ, ◌+◌, ◌-◌, ◌/◌, ◌%◌, ◌≤◌, ◌<◌}
use native.Mathlib.Omega.{arith}
use mathlib.Core.Bool.{Bool, true, false}
use mathlib.Core.List.{List, [], ◌∷◌, ◌++◌}
use lib.ListN.{length, take}
use lib.Seq.{length-take-le}
use borrow.Author.Tests.{le-leb, lt-leb}
use Rattle.base.specs.Pick.{pick}
use Rattle.format.specs.Answer.{sector_missing, wanted_wrong, room_missing}
use Rattle.format.specs.Judged.{good, refused}
use Rattle.format.specs.Lent.{cells, bytes_of, marks_of, unmarked}
use Rattle.format.specs.Block.{least_gap}
use Rattle.format.specs.Span.{none}
use Rattle.format.specs.Sector.{Sector}
use Rattle.format.specs.Accept.{Placed, accept_cells, from_number, sectors_of}
use Rattle.format.specs.GapRule.{GapRule, gap_by, wanted_right}
use Rattle.format.specs.Written.{gap_after, written_sector, reach, written_behind, as_pair, sector_size}
use Rattle.format.specs.Correct.{with_content, rewritten_from, correct_cells}
use Rattle.base.proofs.Lists.{take_map}
use Rattle.format.proofs.Track.Pairs.{pair_of, accepted_pair, bytes_cells, marks_cells}
use Rattle.sector.specs.As.{as_address}
use Rattle.base.specs.Laid.{laid_over, laid_at}
use Rattle.encode.specs.Room.{sector_from}
use Rattle.encode.proofs.Cells.{bytes_append, marks_append}
use Rattle.format.proofs.Sector.ReadBack.{length_written}
use Rattle.sectors.specs.declared.SectorAt.{SectorAt as SectorCode}
use Rattle.sectors.specs.SectorAt.{SectorAt, last_first_count, opens_first, sector_at, as_sector_at}
use Rattle.sectors.specs.From.{SectorsFrom, Remaining}
use Rattle.sectors.proofs.From.{step_at, steps_end, accepted_start}
use Rattle.writer.specs.Filled.{filled_span}
use Rattle.writer.specs.Remaining.{Readable, ReadAt, RoomFor, later_cells, farthest, corrected_end, corrected_cells}
use Rattle.writer.proofs.Filled.{over_front}
use Rattle.writer.proofs.Farthest.{farthest_from}
use Rattle.writer.proofs.Later.{span_end, room_split, none_sectors, bytes_more, marks_more}

-- The sectors of a readable track.
pub readable_steps : (t m : List ℕ) (start : ℕ) (r : Readable t m start) → SectorsFrom t m start r.accepted.sectors
readable_steps t m start r =
    subst (λ (p : ℕ). SectorsFrom t m p r.accepted.sectors) (sym r.starts) (accepted_start t m r.accepted r.is_accepted).steps

-- They are what remains from its sector 0 on.
pub readable_remaining : (t m : List ℕ) (start : ℕ) → Readable t m start → Remaining t m start
readable_remaining t m start r =
    let z = accepted_start t m r.accepted r.is_accepted in
    record {
      sectors = r.accepted.sectors;
      steps = readable_steps t m start r;
      cells_length = z.cells_length;
      length_most = z.length_most;
    }

-- Such a track has at least 3,815 bytes and as many marks.
pub readable_lengths : (t m : List ℕ) (start : ℕ) → Readable t m start → (3815 ≤ length t) × (length m ≡ length t)
readable_lengths t m start r = let z = accepted_start t m r.accepted r.is_accepted in (z.length_least, z.marks_length)

-- Before the end there is a sector.
pub some_remaining : (t m : List ℕ) (p : ℕ) (xs : List Placed) → SectorsFrom t m p xs → p < length (cells t m)
    → (x : Placed) × ((later : List Placed) × (xs ≡ x ∷ later))
some_remaining t m p [] e l = absurd (omega arith)
some_remaining t m p (x ∷ xs) e l = (x, (xs, refl))

-- The first of the sectors that remain before the end.
pub record FirstRemaining (t m : List ℕ) (q : ℕ) : Type 0 where
  pub sector : Placed
  pub later : List Placed
  pub steps : SectorsFrom t m q (sector ∷ later)

-- Where a sector is read there is one.
pub first_remaining : (t m : List ℕ) (q : ℕ) (x : SectorCode) → ReadAt t m q x → FirstRemaining t m q
first_remaining t m q x w =
    let u = w.remaining in
    let z = some_remaining t m q u.sectors u.steps (omega (arith, w.inside, u.cells_length)) in
    record { sector = z.0; later = z.1.0; steps = subst (SectorsFrom t m q) z.1.1 u.steps }

-- The sectors that remain behind a sector that is read.
pub later_remaining : (t m : List ℕ) (q : ℕ) (x : SectorCode) → ReadAt t m q x → Remaining t m x.next × (last_first_count < x.next)
later_remaining t m q x w =
    let u = w.remaining in
    let v = step_at t m q u.sectors x u.steps (omega (arith, w.inside, u.cells_length)) w.is_read in
    (record { sectors = v.later; steps = v.rest; cells_length = u.cells_length; length_most = u.length_most }, v.rest_behind)

-- The found one is read where the search ends before index.
pub found_read : (t m : List ℕ) (start s : ℕ) (r : Readable t m start) (q : ℕ) (x : SectorCode) → SectorsFrom t m q (from_number s r.accepted.sectors) → q < length t
    → as_sector_at x ≡ sector_at q (cells t m) → ReadAt t m q x
found_read t m start s r q x f l e =
    let u = readable_remaining t m start r in
    record {
      remaining = record { sectors = from_number s r.accepted.sectors; steps = f; cells_length = u.cells_length; length_most = u.length_most };
      inside = l;
      is_read = e;
    }

-- The found one itself.
pub record FoundAt (t m : List ℕ) (start q s : ℕ) (r : Readable t m start) : Type 0 where
  pub sector : Placed
  pub later : List Placed
  pub split : from_number s r.accepted.sectors ≡ sector ∷ later
  pub steps : SectorsFrom t m q (sector ∷ later)
  pub place_is : sector.place ≡ q

-- It is found where the search ends before index.
pub found_at : (t m : List ℕ) (start q s : ℕ) (r : Readable t m start) → SectorsFrom t m q (from_number s r.accepted.sectors) → q < length t → FoundAt t m start q s r
found_at t m start q s r f l =
    let u = readable_remaining t m start r in
    let z = some_remaining t m q (from_number s r.accepted.sectors) f (omega (arith, u.cells_length)) in
    let g : SectorsFrom t m q (z.0 ∷ z.1.0) = subst (SectorsFrom t m q) z.1.1 f in
    record { sector = z.0; later = z.1.0; split = z.1.1; steps = g; place_is = g.0.place_is }

-- None is found where the search ends at index.
pub found_none : (t m : List ℕ) (start q s : ℕ) (r : Readable t m start) → SectorsFrom t m q (from_number s r.accepted.sectors) → length t ≤ q → from_number s r.accepted.sectors ≡ []
found_none t m start q s r f l =
    let u = readable_remaining t m start r in
    steps_end t m q (from_number s r.accepted.sectors) f (omega (arith, u.cells_length))

-- The bytes of the first n cells of a track.
pub bytes_front : (n : ℕ) (t m : List ℕ) → length m ≡ length t → unmarked t ≡ true → bytes_of (take n (cells t m)) ≡ take n t
unfolding bytes_of
bytes_front n t m e u = sym (take_map (λ (x : ℕ). x % 256) n (cells t m)) ∙ ap (take n) (bytes_cells t m e u)

-- And their marks.
pub marks_front : (n : ℕ) (t m : List ℕ) → length m ≡ length t → unmarked t ≡ true → marks_of (take n (cells t m)) ≡ take n m
unfolding marks_of
marks_front n t m e u = sym (take_map (λ (x : ℕ). x / 256) n (cells t m)) ∙ ap (take n) (marks_cells t m e u)

-- The sector x stands at place q, with the sectors xs behind it, and s is what was read there.
module _ (t m : List ℕ) (q : ℕ) (x : Placed) (xs : List Placed) (f : SectorsFrom t m q (x ∷ xs)) (s : SectorCode) (e : as_sector_at s ≡ sector_at q (cells t m)) where
  -- The later ones start where the next span does.
  pub later_steps : SectorsFrom t m s.next xs
  later_steps =
      let n : s.next ≡ q + length x.span = ap (λ (z : SectorAt). z.next) e ∙ f.0.next_is in
      subst (λ (p : ℕ). SectorsFrom t m p xs) (sym n) f.1

  -- `first` says that it is sector 0, and it gets a new key and data.
  module _ (rule : GapRule) (first : Bool) (place : first ≡ opens_first q) (key body : List ℕ) where
    abbrev new : Sector
    new = with_content key body x.sector

    -- What it takes with the new key and data.
    pub size_new : length (written_sector new) ≡ sector_size first (length key) (length body)
    unfolding with_content
    size_new = length_written new ∙ ap (λ (b : Bool). sector_size b (length key) (length body)) (f.0.first_is ∙ sym place)

    -- And its gap.
    pub gap_new : gap_after (gap_by rule) new ≡ gap_by rule (length key) (length body)
    unfolding gap_after with_content
    gap_new = refl

    -- The end, summed from its own block on.
    pub end_new : (end gap r : ℕ) → end ≡ q + sector_size first (length key) (length body) → gap ≡ gap_by rule (length key) (length body)
        → r ≡ farthest rule end gap xs → r ≡ corrected_end rule q key body x xs
    unfolding corrected_end
    end_new end gap r n g k =
        k ∙ ap₂ (λ (i j : ℕ). farthest rule i j xs) (n ∙ ap (λ (i : ℕ). q + i) (sym size_new)) (g ∙ sym gap_new) ∙ sym (farthest_from rule q new xs)

    -- The sector that is written.
    pub content_made : sector_from first s.flag s.address.cylinder s.address.head s.number key body ≡ new
    unfolding with_content
    content_made =
        let fi : first ≡ x.sector.first = place ∙ sym f.0.first_is in
        let fl : s.flag ≡ x.sector.flag = ap (λ (z : SectorAt). z.flag) e ∙ f.0.flag_is in
        let ad : as_address s.address ≡ x.sector.address = ap (λ (z : SectorAt). z.address) e ∙ f.0.address_is in
        let nu : s.number ≡ x.sector.number = ap (λ (z : SectorAt). z.number) e ∙ f.0.number_is in
        λ i. record {
          first = fi i;
          flag = fl i;
          address = ad i;
          number = nu i;
          key_bytes = key;
          data_bytes = body;
        }

    module _ (l to : ℕ) (g : to ≡ pick s.last l (q + sector_size first (length key) (length body) + gap_by rule (length key) (length body)))
        (room : corrected_end rule q key body x xs ≤ l) where
      end_made : to ≡ span_end rule l q new (sectors_of xs)
      end_made =
          let last : s.last ≡ none (sectors_of xs) = ap (λ (z : SectorAt). z.last) e ∙ f.0.last_is ∙ none_sectors xs in
          g ∙ ap (λ (b : Bool). pick b l (q + sector_size first (length key) (length body) + gap_by rule (length key) (length body))) last
          ∙ ap₂ (λ (i j : ℕ). pick (none (sectors_of xs)) l (q + i + j)) (sym size_new) (sym gap_new)

      split : (q + length (written_sector new) ≤ to) × (to ≤ l) × RoomFor rule l to xs
      unfolding corrected_end
      split = room_split rule l q to new xs end_made room

      -- There is room for the sector and those behind it.
      pub content_room : (q + sector_size first (length key) (length body) ≤ to) × (to ≤ l) × RoomFor rule l to xs
      content_room = (omega (arith, split.0, size_new), split.1, split.2)

      module _ (old one two last kept : List ℕ) (ql : q ≤ length old) (qk : length kept ≡ q) (over : last ≡ laid_over kept two) where
        -- The bytes of the new track: the sector, those behind it, and the kept ones over what stood before it.
        pub content_bytes : one ≡ laid_at q (bytes_of (filled_span (to - q) (sector_from first s.flag s.address.cylinder s.address.head s.number key body))) old
            → two ≡ take to one ++ bytes_of (later_cells rule (l - to) xs) → last ≡ kept ++ bytes_of (corrected_cells rule l q key body x xs)
        unfolding corrected_cells
        content_bytes n z =
            over_front q kept old two last _ ql qk over
            (z ∙ bytes_more rule l q to new (sectors_of xs) end_made split.0 old one _ ql
            (n ∙ ap (λ (w : Sector). laid_at q (bytes_of (filled_span (to - q) w)) old) content_made) refl)

        -- And the marks.
        pub content_marks : one ≡ laid_at q (marks_of (filled_span (to - q) (sector_from first s.flag s.address.cylinder s.address.head s.number key body))) old
            → two ≡ take to one ++ marks_of (later_cells rule (l - to) xs) → last ≡ kept ++ marks_of (corrected_cells rule l q key body x xs)
        unfolding corrected_cells
        content_marks n z =
            over_front q kept old two last _ ql qk over
            (z ∙ marks_more rule l q to new (sectors_of xs) end_made split.0 old one _ ql
            (n ∙ ap (λ (w : Sector). laid_at q (marks_of (filled_span (to - q) w)) old) content_made) refl)

-- A front that is kept and cells behind it, as bytes.
pub kept_bytes : (q : ℕ) (t m W X T : List ℕ) → length m ≡ length t → unmarked t ≡ true → W ≡ X → T ≡ take q t ++ bytes_of W → T ≡ bytes_of (take q (cells t m) ++ X)
kept_bytes q t m W X T e u z h =
    h ∙ ap₂ (λ (a b : List ℕ). a ++ bytes_of b) (sym (bytes_front q t m e u)) z ∙ sym (bytes_append (take q (cells t m)) X)

-- And as marks.
pub kept_marks : (q : ℕ) (t m W X M : List ℕ) → length m ≡ length t → unmarked t ≡ true → W ≡ X → M ≡ take q m ++ marks_of W → M ≡ marks_of (take q (cells t m) ++ X)
kept_marks q t m W X M e u z h =
    h ∙ ap₂ (λ (a b : List ℕ). a ++ marks_of b) (sym (marks_front q t m e u)) z ∙ sym (marks_append (take q (cells t m)) X)

-- Correct on an accepted track, by its tests in their order.
module _ (rule : GapRule) (t m : List ℕ) (start : ℕ) (r : Readable t m start) (s : ℕ) (key body : List ℕ) where
  abbrev c : List ℕ
  c = cells t m

  judged : accept_cells c ≡ good r.accepted
  judged = (accepted_pair t m r.accepted r.is_accepted).1

  -- 14 where a wanted field is out of rule.
  pub correct_wanted : wanted_right rule key body ≡ false → as_pair (correct_cells rule c s key body) ≡ refused wanted_wrong
  unfolding correct_cells as_pair
  correct_wanted e = rw (judged, e)

  module _ (right : wanted_right rule key body ≡ true) where
    -- 12 where no sector carries S.
    pub correct_missing : from_number s r.accepted.sectors ≡ [] → as_pair (correct_cells rule c s key body) ≡ refused sector_missing
    unfolding correct_cells rewritten_from as_pair
    correct_missing e = rw (judged, right, e)

    module _ (x : Placed) (xs : List Placed) (e : from_number s r.accepted.sectors ≡ x ∷ xs) (q : ℕ) (at : x.place ≡ q) (within : q ≤ length c) where
      need : length (take x.place c) + reach (gap_by rule) (with_content key body x.sector ∷ sectors_of xs) + 13 ≡ corrected_end rule q key body x xs + 13
      unfolding corrected_end
      need = ap (λ (n : ℕ). n + reach (gap_by rule) (with_content key body x.sector ∷ sectors_of xs) + 13) (length-take-le x.place c (omega arith) ∙ at)

      -- 15 where the last block would end later than 13 bytes before index.
      pub correct_short : length c < corrected_end rule q key body x xs + 13 → as_pair (correct_cells rule c s key body) ≡ refused room_missing
      unfolding correct_cells rewritten_from written_behind least_gap as_pair
      correct_short h = rw (judged, right, e, need, lt-leb (corrected_end rule q key body x xs + 13) (length c) h)

      -- Else the new track.
      pub correct_done : corrected_end rule q key body x xs + 13 ≤ length c
          → as_pair (correct_cells rule c s key body) ≡ good (pair_of (take q c ++ corrected_cells rule (length c) q key body x xs))
      unfolding correct_cells rewritten_from written_behind least_gap as_pair corrected_cells
      correct_done h =
          let z : length (take q c) ≡ q = length-take-le q c within in
          rw (judged, right, e, need, le-leb (corrected_end rule q key body x xs + 13) (length c) h, at, z)
