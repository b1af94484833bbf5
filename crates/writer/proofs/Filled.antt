-- A written sector and the gap behind it: its length, bytes and marks, and where it is laid.
use mathlib.Core.Path.{◌≡◌, sym, ap, ◌∙◌}
use Prim.Native.Nat.{ℕ, ◌+◌, ◌-◌, ◌≤◌}
use native.Mathlib.Omega.{arith}
use mathlib.Core.Bool.{Bool, true, false}
use mathlib.Core.List.{List, [], ◌++◌, append-nil, append_assoc}
use lib.ListN.{length, take, drop, replicate, length-append, length-replicate, drop_of_length-le}
use lib.Seq.{take_at, drop_at, length-take-le}
use lib.Dec.{lit<, eqb}
use borrow.Rule.Slice.PartMut.{put_mid}
use Rattle.format.specs.Lent.{bytes_of, marks_of}
use Rattle.format.specs.Block.{key_size}
use Rattle.format.specs.GapRule.{GapRule, wanted_right}
use Rattle.format.specs.Written.{data_size, written_sector, sector_size}
use Rattle.format.specs.Sector.{Sector, opening_length}
use Rattle.base.proofs.Tests.{cases}
use Rattle.format.proofs.Cells.Opening.{unmarked_replicate}
use Rattle.format.proofs.Written.Gap.{wanted_parts}
use Rattle.format.proofs.Track.Pairs.{length_bytes, length_marks, bytes_unmarked}
use Rattle.base.specs.Laid.{laid_over, laid_at, laid_if, laid_at_if}
use Rattle.base.proofs.Laid.{laid_behind, laid_back_if}
use Rattle.encode.proofs.Sectors.{content_bounds}
use Rattle.encode.proofs.Cells.{bytes_append, marks_append, marks_unmarked}
use Rattle.writer.specs.Filled.{filled_span}

-- A writer that answered true laid its list,
pub wrote_over : (r : Bool) (xs old ys : List ℕ) → r ≡ true → ys ≡ laid_if r xs old → ys ≡ laid_over xs old
wrote_over r xs old ys e q = q ∙ ap (λ (b : Bool). laid_if b xs old) e

-- also from a place on,
pub wrote_at : (r : Bool) (a : ℕ) (xs old ys : List ℕ) → r ≡ true → ys ≡ laid_at_if r a xs old → ys ≡ laid_at a xs old
wrote_at r a xs old ys e q = q ∙ ap (λ (b : Bool). laid_at_if b a xs old) e

-- and in a part that was lent from a place on.
pub wrote_back : (r : Bool) (a : ℕ) (xs old ys : List ℕ) → r ≡ true → ys ≡ laid_if r xs (take (length old - a) (drop a old))
    → put_mid a (length old - a) old ys ≡ laid_at a xs old
wrote_back r a xs old ys e q = wrote_at r a xs old (put_mid a (length old - a) old ys) e (laid_back_if r a xs old ys q)

-- The content of what Add and Correct are told is within the rule.
pub wanted_bounds : (rule : GapRule) (key body : List ℕ) → wanted_right rule key body ≡ true → (length key ≤ 255) × (length body ≤ 65535)
wanted_bounds rule key body e = content_bounds key body (wanted_parts rule key body e).1

opening_most : (b : Bool) → opening_length b ≤ 8
opening_most true = omega arith
opening_most false = omega arith

key_most : (n : ℕ) → key_size n ≤ n + 20
unfolding key_size
key_most n = cases (eqb n 0) (λ e. rw e (omega arith)) (λ e. rw e (omega arith))

data_most : (n : ℕ) → data_size n ≤ n + 9
unfolding data_size
data_most n = cases (eqb n 0) (λ e. rw e (omega arith)) (λ e. rw e (omega arith))

-- What a sector takes at most.
pub size_most : (b : Bool) (kl dl : ℕ) → sector_size b kl dl ≤ kl + dl + 60
unfolding sector_size
size_most b kl dl = omega (arith, opening_most b, key_most kl, data_most dl)

-- The bytes of a gap of FF.
pub bytes_gap : (n : ℕ) → bytes_of (replicate n 0xFF) ≡ replicate n 0xFF
bytes_gap n = bytes_unmarked (replicate n 0xFF) (unmarked_replicate n 0xFF (lit< tt))

-- Its marks.
pub marks_gap : (n : ℕ) → marks_of (replicate n 0xFF) ≡ replicate n 0
marks_gap n =
    marks_unmarked (replicate n 0xFF) (unmarked_replicate n 0xFF (lit< tt))
    ∙ ap (λ (k : ℕ). replicate k 0) (length-replicate {A = ℕ} n 0xFF)

-- A filled span has the cells that it is given.
pub filled_length : (n : ℕ) (s : Sector) → length (written_sector s) ≤ n → length (filled_span n s) ≡ n
unfolding filled_span
filled_length n s h =
    omega (arith, length-append (written_sector s) (replicate (n - length (written_sector s)) 0xFF), length-replicate {A = ℕ} (n - length (written_sector s)) 0xFF)

-- A list laid up to the end of another stands behind what is kept of it.
pub laid_to_end : (p : ℕ) (w old : List ℕ) → p + length w ≡ length old → laid_at p w old ≡ take p old ++ w
unfolding laid_at
laid_to_end p w old h =
    let z : drop (p + length w) old ≡ [] = drop_of_length-le old {i = p + length w} (omega arith) in
    rw (z, append-nil)

-- What stands up to the end of a laid list.
pub take_laid : (p n : ℕ) (w old : List ℕ) → p ≤ length old → n ≡ p + length w → take n (laid_at p w old) ≡ take p old ++ w
unfolding laid_at
take_laid p n w old h e =
    ap (take n) (sym (append_assoc (take p old) w (drop (p + length w) old)))
    ∙ take_at (take p old ++ w) (drop (p + length w) old) n (omega (arith, length-append (take p old) w, length-take-le p old h))

-- The front of what is laid over the front.
pub take_over : (n : ℕ) (w old : List ℕ) → length w ≡ n → take n (laid_over w old) ≡ w
unfolding laid_over
take_over n w old e = take_at w (drop (length w) old) n e

-- What is laid over a front of the same length leaves what stands behind it.
pub over_front : (n : ℕ) (w old new last rest : List ℕ) → n ≤ length old → length w ≡ n → last ≡ laid_over w new → new ≡ take n old ++ rest → last ≡ w ++ rest
unfolding laid_over
over_front n w old new last rest h e f g =
    f ∙ ap (λ (z : List ℕ). w ++ drop (length w) z) g
    ∙ ap (λ (z : List ℕ). w ++ z) (drop_at (take n old) rest (length w) (length-take-le n old h ∙ sym e))

module _ (p to n : ℕ) (s : Sector) (e : n ≡ length (written_sector s)) where
  -- The bytes of a sector laid at p and a gap behind it are those of a filled span.
  pub span_bytes : (old new last : List ℕ) → p ≤ length old
      → new ≡ laid_at p (bytes_of (written_sector s)) old → last ≡ laid_at (p + n) (replicate (to - (p + n)) 0xFF) new
      → last ≡ laid_at p (bytes_of (filled_span (to - p) s)) old
  unfolding filled_span
  span_bytes old new last h f g =
      let w : List ℕ = written_sector s in
      let a : p + n ≡ p + length (bytes_of w) = omega (arith, length_bytes w) in
      let k : to - (p + n) ≡ to - p - length w = omega arith in
      let z : bytes_of w ++ replicate (to - (p + n)) 0xFF ≡ bytes_of (w ++ replicate (to - p - length w) 0xFF) =
      ap (λ (i : ℕ). bytes_of w ++ replicate i 0xFF) k ∙ ap (λ (l : List ℕ). bytes_of w ++ l) (sym (bytes_gap (to - p - length w)))
      ∙ sym (bytes_append w (replicate (to - p - length w) 0xFF)) in
      g ∙ ap (laid_at (p + n) (replicate (to - (p + n)) 0xFF)) f
      ∙ ap (λ (i : ℕ). laid_at i (replicate (to - (p + n)) 0xFF) (laid_at p (bytes_of w) old)) a
      ∙ laid_behind p (bytes_of w) (replicate (to - (p + n)) 0xFF) old h
      ∙ ap (λ (l : List ℕ). laid_at p l old) z

  -- And so are the marks.
  pub span_marks : (old new last : List ℕ) → p ≤ length old
      → new ≡ laid_at p (marks_of (written_sector s)) old → last ≡ laid_at (p + n) (replicate (to - (p + n)) 0) new
      → last ≡ laid_at p (marks_of (filled_span (to - p) s)) old
  unfolding filled_span
  span_marks old new last h f g =
      let w : List ℕ = written_sector s in
      let a : p + n ≡ p + length (marks_of w) = omega (arith, length_marks w) in
      let k : to - (p + n) ≡ to - p - length w = omega arith in
      let z : marks_of w ++ replicate (to - (p + n)) 0 ≡ marks_of (w ++ replicate (to - p - length w) 0xFF) =
      ap (λ (i : ℕ). marks_of w ++ replicate i 0) k ∙ ap (λ (l : List ℕ). marks_of w ++ l) (sym (marks_gap (to - p - length w)))
      ∙ sym (marks_append w (replicate (to - p - length w) 0xFF)) in
      g ∙ ap (laid_at (p + n) (replicate (to - (p + n)) 0)) f
      ∙ ap (λ (i : ℕ). laid_at i (replicate (to - (p + n)) 0) (laid_at p (marks_of w) old)) a
      ∙ laid_behind p (marks_of w) (replicate (to - (p + n)) 0) old h
      ∙ ap (λ (l : List ℕ). laid_at p l old) z
