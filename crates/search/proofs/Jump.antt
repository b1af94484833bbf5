-- From one mark to the next: an opening stands five cells before a mark, and nowhere else before it.
use mathlib.Core.Path.{◌≡◌, refl}
use Prim.Native.Nat.{ℕ, zero, suc, ◌-◌, ◌≤◌}
use native.Mathlib.Omega.{arith}
use mathlib.Core.Bool.{true, false}
use mathlib.Core.List.{List, [], ◌∷◌}
use lib.Dec.{ltb}
use lib.ListN.{length, drop}
use Rattle.format.specs.Opening.{opens}
use Rattle.format.specs.Span.{unmarked_run}
use Rattle.base.proofs.Tests.{cases}
use Rattle.format.proofs.Cells.Opening.{length_opens}
use Rattle.format.proofs.Spans.SpanAgrees.{run_opens}

-- Where the next mark is not five cells on, no opening stands.
pub no_opening : (c : List ℕ) → (unmarked_run c ≡ 5 → ⊥) → opens c ≡ false
no_opening c h = cases (opens c) (λ o. absurd (h (run_opens c o))) (λ o. o)

-- Nor where no mark is left.
pub no_opening_left : (c : List ℕ) → unmarked_run c ≡ length c → opens c ≡ false
no_opening_left c h = cases (opens c) (λ o. absurd (omega (arith, run_opens c o, length_opens c o))) (λ o. o)

-- The run of no cells,
pub run_nil : unmarked_run [] ≡ 0
unfolding unmarked_run
run_nil = refl

-- of cells that start with an unmarked one,
pub run_on : (x : ℕ) (c : List ℕ) → ltb x 256 ≡ true → unmarked_run (x ∷ c) ≡ suc (unmarked_run c)
unfolding unmarked_run
run_on x c u = rw u

-- and of cells that start with a marked one.
pub run_off : (x : ℕ) (c : List ℕ) → ltb x 256 ≡ false → unmarked_run (x ∷ c) ≡ 0
unfolding unmarked_run
run_off x c u = rw u

-- The run behind n cells of it.
pub run_drop : (n : ℕ) (c : List ℕ) → n ≤ unmarked_run c → unmarked_run (drop n c) ≡ unmarked_run c - n
run_drop zero c h = omega arith
run_drop (suc n) [] h = absurd (omega (arith, run_nil))
run_drop (suc n) (x ∷ c) h =
    cases (ltb x 256)
    (λ u. omega (arith, run_on x c u, run_drop n c (omega (arith, run_on x c u))))
    (λ u. absurd (omega (arith, run_off x c u)))
