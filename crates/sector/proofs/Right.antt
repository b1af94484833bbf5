-- What the tests of a sector, taken together, say of its judgement.
use mathlib.Core.Path.{◌≡◌, refl, sym}
use Prim.Native.Nat.{ℕ, ◌+◌}
use native.Mathlib.Omega.{arith}
use mathlib.Core.Bool.{Bool, true, false, ◌&&◌}
use mathlib.Core.List.{List}
use Rattle.format.specs.Answer.{key_wrong, data_wrong}
use Rattle.format.specs.Fault.{Tested, sound, faulty}
use Rattle.format.specs.Judged.{good, then, require_sound, answer_of}
use Rattle.format.specs.Home.{Home}
use Rattle.format.specs.Count.{Settled, count_fits, count_closed, count_fields_right}
use Rattle.format.specs.Block.{key_offset, data_offset, blocks_fit, test_key, test_data}
use Rattle.format.specs.Blocks.{the_key, the_data, part_in, blocks_at, judge_fit}
use Rattle.format.specs.Sector.{opening_length, is_first, sector_in, judge_count, read_blocks, judge_sector}
use Rattle.base.proofs.Tests.{cases, and_both, false-true}
use Rattle.sector.specs.Right.{is_sound, blocks_right, sector_right}

-- A test of a block by whether nothing is at fault.
sound_is : (t : Tested) → is_sound t ≡ true → t ≡ sound
sound_is sound e = refl
sound_is (faulty f) e = false-true e

-- Blocks that are right are good.
blocks_good : (first : Bool) (p : ℕ) (last : Bool) (r : List ℕ) → blocks_right last r ≡ true → read_blocks first p last r ≡ good (sector_in first r)
unfolding blocks_right read_blocks judge_fit blocks_at
blocks_good first p last r e =
    let a = and_both (blocks_fit last r) _ e in
    let b = and_both (is_sound (test_key r)) (is_sound (test_data r)) a.1 in
    rw (a.0, sound_is (test_key r) b.0, sound_is (test_data r) b.1)

-- A sector in position i and at place p, of which r follows the count's opening.
module _ (h : Home) (i : ℕ) (x : Settled) (p : ℕ) (last : Bool) (r : List ℕ) where
  -- It is good where all tests hold.
  pub right_good : sector_right h i x last r ≡ true → judge_sector h i x p last r ≡ good (sector_in (is_first i) r)
  unfolding sector_right judge_sector judge_count
  right_good e =
      let a = and_both (count_fits r) _ e in
      let b = and_both (count_closed r) _ a.1 in
      let d = and_both (count_fields_right h i x r) (blocks_right last r) b.1 in
      rw (a.0, b.0, d.0) (blocks_good (is_first i) p last r d.1)

-- Blocks of which one test fails are refused by a number that is not 0.
blocks_refused : (first : Bool) (p : ℕ) (last : Bool) (r : List ℕ) → blocks_right last r ≡ false → (answer_of (read_blocks first p last r)).number ≡ 0 → ⊥
unfolding blocks_right read_blocks judge_fit blocks_at
blocks_refused first p last r e z =
    cases (blocks_fit last r)
    (λ f. go (test_key r) (test_data r) (rw f at e) (rw f at z))
    (λ f. let y : 9 ≡ 0 = rw f at z in omega arith)
  where
    q : ℕ
    q = p + opening_length first

    go : (k d : Tested) → (is_sound k && is_sound d) ≡ false
        → (answer_of (then (require_sound k (λ f. key_wrong f (q + key_offset)) (good (part_in the_key q r))) (λ _. then (require_sound d (λ f. data_wrong f (q + data_offset r)) (good (part_in the_data q r))) (λ _. good (sector_in first r))))).number ≡ 0 → ⊥
    go sound sound u v = false-true (sym u)
    go sound (faulty f) u v = omega arith
    go (faulty f) d u v = omega arith

-- And so is a sector of which one test fails.
pub right_not : (h : Home) (i : ℕ) (x : Settled) (p : ℕ) (last : Bool) (r : List ℕ) → sector_right h i x last r ≡ false → (answer_of (judge_sector h i x p last r)).number ≡ 0 → ⊥
unfolding sector_right judge_sector judge_count
right_not h i x p last r e z =
    cases (count_fits r)
    (λ a. cases (count_closed r)
    (λ b. cases (count_fields_right h i x r)
    (λ d. blocks_refused (is_first i) p last r (rw (a, b, d) at e) (rw (a, b, d) at z))
    (λ d. let y : 8 ≡ 0 = rw (a, b, d) at z in omega arith))
    (λ b. let y : 7 ≡ 0 = rw (a, b) at z in omega arith))
    (λ a. let y : 9 ≡ 0 = rw a at z in omega arith)
