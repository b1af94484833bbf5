-- The blocks of a count judged one after the other: that they fit, the key, the data block.
use mathlib.Core.Path.{◌≡◌, refl, sym, ap, ◌∙◌}
use Prim.Native.Nat.{ℕ, ◌+◌}
use mathlib.Core.Bool.{Bool}
use mathlib.Core.List.{List}
use Rattle.std.specs.Prelude.{Result, Ok, Err}
use Rattle.std.specs.Result.{MatchResult, IsErrAnd}
use Rattle.format.specs.Answer.{Answer, as_refusal, as_answer}
use Rattle.format.specs.Fault.{as_fault}
use Rattle.format.specs.declared.Fault.{Fault as FaultCode}
use Rattle.format.specs.declared.Refusal.{Refusal}
use Rattle.format.specs.declared.Refusal.TheVariants.{KeyWrong, DataWrong}
use Rattle.format.specs.Judged.{good, answer_of}
use Rattle.format.specs.Blocks.{Wanted, the_key, the_data, offset_of, test_of, wrong_at, wanted_part, blocks_at, judge_fit, part_in}
use Rattle.format.specs.Sector.{opening_length, sector_in, read_blocks}
use Rattle.format.proofs.Base.Judged.{refusal_stays, answer_then}
use Rattle.format.proofs.Sector.BlocksJudged.{fit_zero, part_right, part_wrong, part_zero}
use Rattle.sector.specs.As.{as_tested}

-- The refusal of a block at p in which f is at fault.
abbrev pub refusal_at : Wanted → FaultCode → ℕ → Refusal
refusal_at the_key f p = KeyWrong f p
refusal_at the_data f p = DataWrong f p

-- It is by the answer of the format.
refusal_at_is : (w : Wanted) (f : FaultCode) (p : ℕ) → as_refusal (refusal_at w f p) ≡ wrong_at w (as_fault f) p
refusal_at_is the_key f p = refl
refusal_at_is the_data f p = refl

-- The key or the data block in r, which follows a count's opening from place q on.
module _ (w : Wanted) (q : ℕ) (r : List ℕ) where
  -- Its test t, of which a fault is told at its place p, is its judgement.
  pub part_told : (p : ℕ) (Q : FaultCode → Refusal → Type 0) → ((f : FaultCode) (e : Refusal) → Q f e → e ≡ refusal_at w f p) → (t : Result (Unit {0}) FaultCode) (o : Result (Unit {0}) Refusal) → p ≡ q + offset_of w r → as_tested t ≡ test_of w r
      → MatchResult t (λ u. o ≡ Ok u) (λ f. IsErrAnd o (Q f))
      → as_answer o ≡ answer_of (wanted_part w (blocks_at q r))
  part_told p Q k (Ok u) o a e h = rw h (sym (ap answer_of (part_right w q r (sym e))))
  part_told p Q k (Err f) (Ok v) a e h = absurd h
  part_told p Q k (Err f) (Err d) a e h = rw (k f d h, a, refusal_at_is w f (q + offset_of w r)) (sym (ap answer_of (part_wrong w q r (as_fault f) (sym e))))

-- The count at p, of which r follows the opening.
module _ (first : Bool) (p : ℕ) (last : Bool) (r : List ℕ) where
  -- The place at which r starts.
  abbrev q : ℕ
  q = p + opening_length first

  -- They do not fit: this is the answer.
  pub blocks_short : (a : Answer) → a ≡ answer_of (judge_fit p last r) → (a.number ≡ 0 → ⊥) → a ≡ answer_of (read_blocks first p last r)
  unfolding read_blocks
  blocks_short a e n = e ∙ sym (refusal_stays (judge_fit p last r) _ (λ z. n (ap (λ (b : Answer). b.number) e ∙ z)))

  -- They fit.
  module _ (f : (answer_of (judge_fit p last r)).number ≡ 0) where
    -- The key is wrong: this is the answer.
    pub blocks_key : (a : Answer) → a ≡ answer_of (blocks_at q r).key → (a.number ≡ 0 → ⊥) → a ≡ answer_of (read_blocks first p last r)
    unfolding read_blocks
    blocks_key a e n =
        e ∙ sym (rw (fit_zero p last r f) (refusal_stays (blocks_at q r).key _ (λ z. n (ap (λ (b : Answer). b.number) e ∙ z))))

    -- The key is right: the answer is that of the data block.
    pub blocks_data : (answer_of (blocks_at q r).key).number ≡ 0 → answer_of (blocks_at q r).body ≡ answer_of (read_blocks first p last r)
    unfolding read_blocks
    blocks_data k =
        let e : (blocks_at q r).key ≡ good (part_in the_key q r) = part_zero the_key q r k in
        sym (rw (fit_zero p last r f, e) (answer_then (blocks_at q r).body (λ _. sector_in first r)))
