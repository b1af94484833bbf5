-- Legal marks place by place.
use mathlib.Core.Path.{◌≡◌, refl}
use Prim.Native.Nat.{ℕ, zero, suc, ◌<◌}
use native.Mathlib.Omega.{arith}
use mathlib.Core.Bool.{true}
use mathlib.Core.List.{List, [], ◌∷◌}
use lib.ListN.{length, get_or}
use lib.Dec.{ltb}
use borrow.Author.Tests.{ltb-true, lt-ltb}
use Rattle.base.proofs.Tests.{and_both, and_make}
use Rattle.format.specs.Lent.{marks_legal}

-- Where the marks are legal each is 0 or 1,
pub mark_at_lem : (m : List ℕ) → marks_legal m ≡ true → (i : ℕ) → i < length m → get_or m i 0 < 2
unfolding marks_legal
mark_at_lem [] h i l = absurd (omega arith)
mark_at_lem (k ∷ m) h zero l = ltb-true k 2 (and_both (ltb k 2) (marks_legal m) h).0
mark_at_lem (k ∷ m) h (suc i) l = mark_at_lem m (and_both (ltb k 2) (marks_legal m) h).1 i (omega arith)

-- and where each is 0 or 1 they are legal.
pub marks_at : (m : List ℕ) → ((i : ℕ) → i < length m → get_or m i 0 < 2) → marks_legal m ≡ true
unfolding marks_legal
marks_at [] h = refl
marks_at (k ∷ m) h = and_make (lt-ltb k 2 (h 0 (omega arith))) (marks_at m (λ i l. h (suc i) (omega arith)))
