-- Outcomes by their answers: number 0 is given exactly for what is good.
use mathlib.Core.Path.{◌≡◌, refl, sym, ap, ◌∙◌}
use Prim.Native.Nat.{ℕ, zero, suc, ◌+◌, ◌%◌}
use native.Mathlib.Omega.{arith}
use mathlib.Core.Bool.{Bool, false}
use mathlib.Core.List.{List, ◌∷◌}
use lib.ListN.{length, drop}
use lib.Dec.{eqb}
use borrow.Author.Tests.{ne_eqb, eqb-true, eqb-false}
use Rattle.format.specs.Answer.{Answer, span_too_short, count_check_wrong, count_fields_wrong}
use Rattle.format.specs.Judged.{good, answer_of}
use Rattle.format.specs.Flag.{sequence_right}
use Rattle.format.specs.Address.{Address}
use Rattle.format.specs.Home.{Home}
use Rattle.format.specs.Count.{Settled, settled, count_fits, count_closed, count_fields_right}
use Rattle.format.specs.Span.{none}
use Rattle.format.specs.Sector.{opening_length, is_first, sector_in, settle, judge_count, read_blocks, judge_sector, read_span}
use Rattle.format.specs.Accept.{read_spans}
use Rattle.base.proofs.Tests.{cases}
use Rattle.format.specs.Blocks.{the_key, the_data, blocks_at, judge_fit, part_in}
use Rattle.format.proofs.Sector.BlocksJudged.{fit_zero, part_zero}
use Rattle.format.proofs.Base.Judged.{require_zero, then_zero, refusal_stays, answer_then}

-- The count is good where its answer is 0.
pub count_zero : (h : Home) (i : ℕ) (x : Settled) (p : ℕ) (r : List ℕ) → (answer_of (judge_count h i x p r)).number ≡ 0 → judge_count h i x p r ≡ good tt
unfolding judge_count
count_zero h i x p r e =
    let a = require_zero (count_fits r) (span_too_short p) _ (λ q. omega arith) e in
    let b = require_zero (count_closed r) (count_check_wrong p) _ (λ q. omega arith) a.1 in
    let d = require_zero (count_fields_right h i x r) (count_fields_wrong p) (good tt) (λ q. omega arith) b.1 in
    rw (a.0, b.0, d.0)

-- The blocks are good where their answer is 0.
pub blocks_zero : (first : Bool) (p : ℕ) (last : Bool) (r : List ℕ) → (answer_of (read_blocks first p last r)).number ≡ 0 → read_blocks first p last r ≡ good (sector_in first r)
unfolding read_blocks
blocks_zero first p last r e =
    let q : ℕ = p + opening_length first in
    let a : judge_fit p last r ≡ good tt = fit_zero p last r (then_zero (judge_fit p last r) _ e) in
    let f = rw a at e in
    let b : (blocks_at q r).key ≡ good (part_in the_key q r) = part_zero the_key q r (then_zero (blocks_at q r).key _ f) in
    let g = rw b at f in
    let d : (blocks_at q r).body ≡ good (part_in the_data q r) = part_zero the_data q r (then_zero (blocks_at q r).body _ g) in
    rw (a, b, d)

-- A position is the first by the test for 0.
pub first_test : (i : ℕ) → is_first i ≡ eqb i 0
first_test zero = refl
first_test (suc i) = sym (ne_eqb (suc i) 0 (λ q. omega arith))

-- A sector in position i and at place p, of which r follows the count's opening.
module _ (h : Home) (i : ℕ) (x : Settled) (p : ℕ) (last : Bool) (r : List ℕ) where
  -- Its count is refused by b.
  pub sector_count : (b : Answer) → b ≡ answer_of (judge_count h i x p r) → (b.number ≡ 0 → ⊥) → b ≡ answer_of (judge_sector h i x p last r)
  unfolding judge_sector
  sector_count b e n =
      e ∙ sym (refusal_stays (judge_count h i x p r) (λ _. read_blocks (is_first i) p last r) (λ z. n (ap (λ (a : Answer). a.number) e ∙ z)))

  -- Its count is good, by the answer b.
  pub sector_blocks : (b : Answer) → b ≡ answer_of (judge_count h i x p r) → b.number ≡ 0 → answer_of (read_blocks (eqb i 0) p last r) ≡ answer_of (judge_sector h i x p last r)
  unfolding judge_sector
  sector_blocks b e z = sym (rw (count_zero h i x p r (ap (λ (a : Answer). a.number) (sym e) ∙ z), first_test i))

  -- It is good where its answer is 0.
  pub sector_zero : (answer_of (judge_sector h i x p last r)).number ≡ 0 → judge_sector h i x p last r ≡ good (sector_in (is_first i) r)
  unfolding judge_sector
  sector_zero e =
      cases (eqb (answer_of (judge_count h i x p r)).number 0)
      (λ z.
      let c : judge_count h i x p r ≡ good tt = count_zero h i x p r (eqb-true _ _ z) in
      rw c (blocks_zero (is_first i) p last r (rw c at e)))
      (λ z.
      let n : (answer_of (judge_count h i x p r)).number ≡ 0 → ⊥ = eqb-false _ _ z in
      absurd (n (ap (λ (a : Answer). a.number) (sym (refusal_stays (judge_count h i x p r) (λ _. read_blocks (is_first i) p last r) n)) ∙ e)))

-- A later span is good where its answer is 0.
later_good : (h : Home) (i : ℕ) (x : Settled) (p : ℕ) (last : Bool) (g : List ℕ) → (answer_of (judge_sector h (suc i) x p last (drop 8 g))).number ≡ 0
    → read_span h (suc i) x p last g ≡ good (sector_in false (drop 8 g))
unfolding read_span
later_good h i x p last g z = sector_zero h (suc i) x p last (drop 8 g) z

-- B8 in a later position is that of the second position after it.
pub sequence_two : (i f : ℕ) → sequence_right (suc i) f ≡ sequence_right (suc (suc (suc i))) f
unfolding sequence_right
sequence_two i f =
    let e : suc (suc (suc i)) % 2 ≡ suc i % 2 = omega arith in
    rw (e, ne_eqb (suc i) 0 (λ q. omega arith), ne_eqb (suc (suc (suc i))) 0 (λ q. omega arith))

-- The later spans of which g is the first, where a is settled.
module _ (h : Home) (i : ℕ) (a : Address) (p : ℕ) (g : List ℕ) (gs : List (List ℕ)) where
  -- The first of them is refused by b.
  pub spans_refused : (b : Answer) → b ≡ answer_of (judge_sector h (suc i) (settled a) p (none gs) (drop 8 g)) → (b.number ≡ 0 → ⊥)
      → b ≡ answer_of (read_spans h (suc i) (settled a) p (g ∷ gs))
  unfolding read_spans read_span
  spans_refused b e n = e ∙ sym (refusal_stays (read_span h (suc i) (settled a) p (none gs) g) _ (λ z. n (ap (λ (a : Answer). a.number) e ∙ z)))

  -- The first of them is good, by the answer b.
  pub spans_good : (b : Answer) → b ≡ answer_of (judge_sector h (suc i) (settled a) p (none gs) (drop 8 g)) → b.number ≡ 0
      → answer_of (read_spans h (suc (suc i)) (settled a) (p + length g) gs) ≡ answer_of (read_spans h (suc i) (settled a) p (g ∷ gs))
  unfolding read_spans settle
  spans_good b e z =
      sym
      (rw (later_good h i (settled a) p (none gs) g (ap (λ (a : Answer). a.number) (sym e) ∙ z))
      (answer_then (read_spans h (suc (suc i)) (settled a) (p + length g) gs) _))
