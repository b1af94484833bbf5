-- Laws of spans.
use mathlib.Core.Path.{◌≡◌, sym, ◌∙◌}
use Prim.Native.Nat.{ℕ, ◌+◌, ◌-◌, ◌≤◌}
use mathlib.Core.Bool.{Bool, true, false}
use mathlib.Core.List.{List}
use native.Mathlib.Omega.{arith}
use lib.Dec.{leb}
use lib.ListN.{length, drop, length-drop, drop_of_length-le}
use borrow.Author.Tests.{leb-true, leb-false, eq-eqb, ne_eqb}
use Rattle.format.specs.Span.{unmarked_run, runs_to_index, span_length}
use Rattle.base.proofs.Tests.{cases}
use Rattle.format.proofs.Find.CandidateBytes.{run_le}

-- The span of an opening of o cells at the front of c.
module _ (o : ℕ) (c : List ℕ) where
  -- Nothing follows the opening.
  pub runs_short : length c ≤ o → runs_to_index o c ≡ true
  unfolding runs_to_index unmarked_run
  runs_short h = rw (drop_of_length-le c {i = o} h)

  -- No marked cell follows the opening.
  pub runs_on : unmarked_run (drop o c) ≡ length (drop o c) → runs_to_index o c ≡ true
  unfolding runs_to_index
  runs_on e = eq-eqb (unmarked_run (drop o c)) (length (drop o c)) e

  -- A marked cell follows the opening.
  pub runs_off : (unmarked_run (drop o c) ≡ length (drop o c) → ⊥) → runs_to_index o c ≡ false
  unfolding runs_to_index
  runs_off e = ne_eqb (unmarked_run (drop o c)) (length (drop o c)) e

  -- A span that runs to index has all cells.
  pub span_last : runs_to_index o c ≡ true → span_length o c ≡ length c
  unfolding span_length
  span_last e = rw e

  -- Another ends five cells before the next mark.
  pub span_inner : runs_to_index o c ≡ false → span_length o c ≡ o + unmarked_run (drop o c) - 5
  unfolding span_length
  span_inner e = rw e

  -- A span has no more cells than there are.
  pub span_le : span_length o c ≤ length c
  span_le =
      cases (runs_to_index o c)
      (λ e. omega (arith, span_last e))
      (λ e. cases (leb o (length c))
      (λ h. omega (arith, leb-true o (length c) h, span_inner e, run_le (drop o c), length-drop o c))
      (λ h. short (omega (arith, leb-false o (length c) h)) e))
    where
      short : length c ≤ o → runs_to_index o c ≡ false → span_length o c ≤ length c
      short h e = let z : ◌≡◌ {A = Bool} true false = sym (runs_short h) ∙ e in let y : ◌≡◌ {A = ℕ} 0 1 = cc in absurd (omega arith)
