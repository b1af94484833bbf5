-- The key or the data block in what follows a count's opening, whichever is asked for: its offset, length and test, and what its judgement tells.
use mathlib.Core.Path.{◌≡◌, refl, sym, ap, ◌∙◌}
use Prim.Native.Nat.{ℕ, ◌+◌, ◌≤◌}
use native.Mathlib.Omega.{arith}
use mathlib.Core.Bool.{Bool, true, false}
use mathlib.Core.List.{List}
use lib.ListN.{length, drop}
use lib.Dec.{eqb}
use Rattle.format.specs.Answer.{span_too_short}
use Rattle.format.specs.Fault.{Fault, sound, faulty}
use Rattle.format.specs.Judged.{good, refused, require_sound, answer_of}
use Rattle.format.specs.Block.{blocks_fit, test_block, test_key, test_data}
use Rattle.format.specs.Blocks.{Wanted, the_key, the_data, offset_of, length_of, test_of, wrong_at, Part, part_at, part_in, blocks_at, wanted_part, judge_fit}
use Rattle.format.proofs.Base.Judged.{good_inj, require_good, require_zero, sound_good, sound_zero}
use Rattle.format.proofs.Sector.Sizes.{gap_least}
use Rattle.format.proofs.Sector.BlockEnd.{key_in_offset, data_in_end, end_in_span}

-- That answer has a number of the table that is not 0, and the place p.
pub wrong_row : (w : Wanted) (f : Fault) (p : ℕ) → (1 ≤ (wrong_at w f p).number) × ((wrong_at w f p).number ≤ 16) × ((wrong_at w f p).place ≡ p)
wrong_row the_key f p = (omega arith, omega arith, refl)
wrong_row the_data f p = (omega arith, omega arith, refl)

-- The block asked for ends in what follows the opening.
pub block_fits : (w : Wanted) (last : Bool) (r : List ℕ) → blocks_fit last r ≡ true → offset_of w r + 6 + length_of w r + 3 ≤ length r
block_fits the_key last r e = omega (arith, end_in_span r last e, key_in_offset r, data_in_end r, gap_least last)
block_fits the_data last r e = omega (arith, end_in_span r last e, data_in_end r, gap_least last)

-- A test of a block with some information is that of its opening, check and closing byte.
pub test_block_lem : (w : Wanted) (r : List ℕ) → eqb (length_of w r) 0 ≡ false → test_of w r ≡ test_block (length_of w r) (drop (offset_of w r) r)
unfolding test_key test_data
test_block_lem the_key r z = rw z
test_block_lem the_data r z = rw z

-- The blocks and the least gap fit where they are judged so.
pub fit_good : (p : ℕ) (last : Bool) (r : List ℕ) (u : Unit {0}) → judge_fit p last r ≡ good u → blocks_fit last r ≡ true
unfolding judge_fit
fit_good p last r u e = (require_good (blocks_fit last r) (span_too_short p) (good tt) u e).0

-- They are judged so where the answer is 0.
pub fit_zero : (p : ℕ) (last : Bool) (r : List ℕ) → (answer_of (judge_fit p last r)).number ≡ 0 → judge_fit p last r ≡ good tt
unfolding judge_fit
fit_zero p last r e = rw (require_zero (blocks_fit last r) (span_too_short p) (good tt) (λ q. omega arith) e).0

-- The block asked for in r, which follows a count's opening from place q on.
module _ (w : Wanted) (q : ℕ) (r : List ℕ) where
  -- The part that its information takes.
  pub part_in_is : part_in w q r ≡ part_at (q + offset_of w r + 6) (length_of w r)
  part_in_is = go w
    where
      go : (v : Wanted) → part_in v q r ≡ part_at (q + offset_of v r + 6) (length_of v r)
      go the_key = refl
      go the_data = refl

  -- It is judged by its test.
  pub part_judged : wanted_part w (blocks_at q r) ≡ require_sound (test_of w r) (λ f. wrong_at w f (q + offset_of w r)) (good (part_in w q r))
  unfolding blocks_at
  part_judged = go w
    where
      go : (v : Wanted) → wanted_part v (blocks_at q r) ≡ require_sound (test_of v r) (λ f. wrong_at v f (q + offset_of v r)) (good (part_in v q r))
      go the_key = refl
      go the_data = refl

  -- Where it is sound it is found.
  pub part_right : test_of w r ≡ sound → wanted_part w (blocks_at q r) ≡ good (part_in w q r)
  part_right e = part_judged ∙ rw e

  -- Where it is not it is refused, with what is at fault.
  pub part_wrong : (f : Fault) → test_of w r ≡ faulty f → wanted_part w (blocks_at q r) ≡ refused (wrong_at w f (q + offset_of w r))
  part_wrong f e = part_judged ∙ rw e

  -- Where it is found it is sound.
  pub part_good : (part : Part) → wanted_part w (blocks_at q r) ≡ good part → (test_of w r ≡ sound) × (part_in w q r ≡ part)
  part_good part e =
      let a = sound_good (test_of w r) (λ f. wrong_at w f (q + offset_of w r)) (good (part_in w q r)) part (sym part_judged ∙ e) in
      (a.0, good_inj (part_in w q r) part a.1)

  -- It is found where the answer is 0.
  pub part_zero : (answer_of (wanted_part w (blocks_at q r))).number ≡ 0 → wanted_part w (blocks_at q r) ≡ good (part_in w q r)
  part_zero e =
      let n = ap (λ j. (answer_of j).number) part_judged in
      part_right (sound_zero (test_of w r) (λ f. wrong_at w f (q + offset_of w r)) (good (part_in w q r)) (λ f z. omega (arith, wrong_row w f (q + offset_of w r))) (sym n ∙ e))
