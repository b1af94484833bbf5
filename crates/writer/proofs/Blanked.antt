-- What Blank gives, by its tests in their order, and the whole track that it writes.
use mathlib.Core.Path.{◌≡◌, sym, ap, ◌∙◌}
use Prim.Native.Nat.{ℕ, ◌+◌, ◌-◌, ◌≤◌, ◌<◌}
use native.Mathlib.Omega.{arith}
use mathlib.Core.Bool.{true, false, ◌&&◌}
use mathlib.Core.List.{List, ◌++◌, append-nil}
use lib.ListN.{length, take}
use lib.Dec.{leb, eqb}
use borrow.Author.Tests.{leb-true, le-leb, lt-leb, eqb-true}
use Rattle.format.specs.Answer.{lent_wrong, wanted_wrong, room_missing}
use Rattle.format.specs.Judged.{good, refused}
use Rattle.format.specs.Lent.{length_right, lent_for_writing, bytes_of, marks_of}
use Rattle.format.specs.Address.{Address, address_in_range, address_right}
use Rattle.format.specs.Block.{least_gap}
use Rattle.format.specs.Sector.{Sector, content_right}
use Rattle.format.specs.Written.{written_sector, reach, written_spans, written_behind, as_pair, sector_size}
use Rattle.format.specs.Blank.{named_by, blank_right, written_head, blank_sector, blank}
use Rattle.base.proofs.Tests.{and_both}
use Rattle.format.proofs.Track.Pairs.{pair_of, length_bytes, length_marks}
use Rattle.base.specs.Laid.{laid_over, laid_at}
use Rattle.format.proofs.Sector.ReadBack.{length_written}
use Rattle.format.proofs.Written.WrittenHome.{head_length_holds}
use Rattle.encode.proofs.Cells.{bytes_append, marks_append}
use Rattle.writer.specs.Filled.{filled_span}
use Rattle.encode.proofs.Sectors.{content_bounds}
use Rattle.writer.proofs.Filled.{laid_to_end, take_over, filled_length}

-- Wanted fields within the rule have content within the rule.
pub blank_content : (own : Address) (flag : ℕ) (partner : Address) (key body : List ℕ) → blank_right own flag partner key body ≡ true
    → (length key ≤ 255) × (length body ≤ 65535)
unfolding blank_right
blank_content own flag partner key body e =
    content_bounds key body
    (and_both ((address_in_range own && leb flag 3) && address_right flag own (named_by flag own partner)) (content_right key body) e).1

-- A pair lent for writing within the rule has as many marks as bytes.
pub lent_same : (l k : ℕ) → lent_for_writing l k ≡ true → k ≡ l
unfolding lent_for_writing
lent_same l k e = eqb-true k l (and_both (length_right l) (eqb k l) e).1

-- And 3,815 of them at least.
pub lent_least : (l k : ℕ) → lent_for_writing l k ≡ true → 3815 ≤ l
unfolding lent_for_writing length_right
lent_least l k e = leb-true 3815 l (and_both (leb 3815 l) (leb l 4002) (and_both (length_right l) (eqb k l) e).0).0

module _ (l k : ℕ) (own : Address) (flag : ℕ) (partner : Address) (s : ℕ) (key body : List ℕ) where
  -- 1 where the pair is lent out of rule.
  pub blank_lent : lent_for_writing l k ≡ false → blank l k own flag partner s key body ≡ refused lent_wrong
  unfolding blank
  blank_lent e = rw e

  -- 14 where a wanted field is out of rule.
  pub blank_wanted : lent_for_writing l k ≡ true → blank_right own flag partner key body ≡ false → blank l k own flag partner s key body ≡ refused wanted_wrong
  unfolding blank
  blank_wanted e f = rw (e, f)

  module _ (lent : lent_for_writing l k ≡ true) (right : blank_right own flag partner key body ≡ true) where
    abbrev sector0 : Sector
    sector0 = blank_sector flag (named_by flag own partner) s key body

    size_is : length (written_sector sector0) ≡ sector_size true (length key) (length body)
    unfolding blank_sector
    size_is = length_written sector0

    -- 15 where the block would end later than 13 bytes before index.
    pub blank_short : l < 55 + sector_size true (length key) (length body) + 13 → blank l k own flag partner s key body ≡ refused room_missing
    unfolding blank written_behind reach least_gap as_pair
    blank_short h =
        rw (lent, right, lt-leb (length (written_head flag own) + (length (written_sector sector0) + 0) + 13) l (omega (arith, head_length_holds flag own, size_is)))

    -- Else home, sector 0 and the gap behind it to index.
    pub blank_done : 55 + sector_size true (length key) (length body) + 13 ≤ l
        → blank l k own flag partner s key body ≡ good (pair_of (written_head flag own ++ filled_span (l - 55) sector0))
    unfolding blank written_behind reach least_gap written_spans as_pair filled_span
    blank_done h =
        rw (
          lent,
          right,
          le-leb (length (written_head flag own) + (length (written_sector sector0) + 0) + 13) l (omega (arith, head_length_holds flag own, size_is)),
          append-nil,
          head_length_holds flag own,
        )

-- A list laid from 55 to index behind one of 55 that was laid over the front.
pub behind_head : (h w old new last : List ℕ) → length h ≡ 55 → 55 + length w ≡ length new → new ≡ laid_over h old → last ≡ laid_at 55 w new → last ≡ h ++ w
behind_head h w old new last e f g q =
    q ∙ laid_to_end 55 w new f ∙ ap (λ (z : List ℕ). z ++ w) (ap (take 55) g ∙ take_over 55 h old e)

module _ (flag : ℕ) (own : Address) (x : Sector) (l n : ℕ) (same : n ≡ l) (room : 55 + length (written_sector x) ≤ l) where
  -- The bytes of home and sector 0, written one behind the other in a buffer of l bytes.
  pub blank_bytes : (old new last : List ℕ) → length new ≡ l
      → new ≡ laid_over (bytes_of (written_head flag own)) old → last ≡ laid_at 55 (bytes_of (filled_span (n - 55) x)) new
      → last ≡ bytes_of (written_head flag own ++ filled_span (l - 55) x)
  blank_bytes old new last e g q =
      let w : List ℕ = filled_span (l - 55) x in
      behind_head (bytes_of (written_head flag own)) (bytes_of w) old new last
      (length_bytes (written_head flag own) ∙ head_length_holds flag own) (omega (arith, length_bytes w, filled_length (l - 55) x (omega arith))) g
      (q ∙ ap (λ (i : ℕ). laid_at 55 (bytes_of (filled_span (i - 55) x)) new) same)
      ∙ sym (bytes_append (written_head flag own) w)

  -- And their marks.
  pub blank_marks : (old new last : List ℕ) → length new ≡ l
      → new ≡ laid_over (marks_of (written_head flag own)) old → last ≡ laid_at 55 (marks_of (filled_span (n - 55) x)) new
      → last ≡ marks_of (written_head flag own ++ filled_span (l - 55) x)
  blank_marks old new last e g q =
      let w : List ℕ = filled_span (l - 55) x in
      behind_head (marks_of (written_head flag own)) (marks_of w) old new last
      (length_marks (written_head flag own) ∙ head_length_holds flag own) (omega (arith, length_marks w, filled_length (l - 55) x (omega arith))) g
      (q ∙ ap (λ (i : ℕ). laid_at 55 (marks_of (filled_span (i - 55) x)) new) same)
      ∙ sym (marks_append (written_head flag own) w)
