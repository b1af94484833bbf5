-- How little and how much a key, a written data block and a gap can take.
use mathlib.Core.Path.{◌≡◌, refl}
use Prim.Native.Nat.{ℕ, ◌+◌, ◌≤◌}
use mathlib.Core.Bool.{Bool, true, false}
use lib.Dec.{eqb}
use native.Mathlib.Omega.{arith}
use borrow.Author.Tests.{eqb-true}
use Rattle.base.specs.Pick.{pick}
use Rattle.format.specs.Block.{key_size, least_gap}
use Rattle.format.specs.Written.{data_size}
use Rattle.base.proofs.Tests.{cases}

-- A key takes at least its own bytes.
pub key_size_least : (n : ℕ) → n ≤ key_size n
unfolding key_size
key_size_least n = cases (eqb n 0) (λ e. rw e (omega (arith, eqb-true n 0 e))) (λ e. rw e (omega arith))

-- A key takes at most 20 bytes beside its own.
pub key_size_most : (n : ℕ) → key_size n ≤ n + 20
unfolding key_size
key_size_most n = cases (eqb n 0) (λ e. rw e (omega arith)) (λ e. rw e (omega arith))

-- A written data block takes at least seven bytes more than its own.
pub data_size_least : (n : ℕ) → n + 7 ≤ data_size n
unfolding data_size
data_size_least n = cases (eqb n 0) (λ e. rw e (omega (arith, eqb-true n 0 e))) (λ e. rw e (omega arith))

-- The least gap is at least 13.
pub gap_least : (last : Bool) → 13 ≤ least_gap last
unfolding least_gap
gap_least true = omega arith
gap_least false = omega arith

-- The least that a count, a data block and the gap after it take behind the count's opening.
pub rest_least : (last : Bool) → 30 + least_gap last ≡ pick last 43 51
unfolding least_gap
rest_least true = refl
rest_least false = refl
