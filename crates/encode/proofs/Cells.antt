-- The bytes and the marks of cells: joined, unmarked, and of a count's opening.
use mathlib.Core.Path.{◌≡◌, refl, ap, ap₂}
use Prim.Native.Nat.{ℕ, ◌/◌, ◌%◌}
use native.Mathlib.Omega.{arith}
use mathlib.Core.Bool.{true}
use mathlib.Core.List.{List, [], ◌∷◌, ◌++◌}
use lib.ListN.{length, replicate}
use lib.Dec.{ltb}
use borrow.Author.Tests.{ltb-true}
use Rattle.format.specs.Lent.{bytes_of, marks_of, unmarked}
use Rattle.base.proofs.Tests.{and_both}

-- The bytes of two lists of cells are joined as the cells are.
pub bytes_append : (xs ys : List ℕ) → bytes_of (xs ++ ys) ≡ bytes_of xs ++ bytes_of ys
unfolding bytes_of
bytes_append [] ys = refl
bytes_append (x ∷ xs) ys = ap (λ (l : List ℕ). x % 256 ∷ l) (bytes_append xs ys)

-- And so are their marks.
pub marks_append : (xs ys : List ℕ) → marks_of (xs ++ ys) ≡ marks_of xs ++ marks_of ys
unfolding marks_of
marks_append [] ys = refl
marks_append (x ∷ xs) ys = ap (λ (l : List ℕ). x / 256 ∷ l) (marks_append xs ys)

-- The marks of unmarked cells are 0.
pub marks_unmarked : (xs : List ℕ) → unmarked xs ≡ true → marks_of xs ≡ replicate (length xs) 0
unfolding marks_of unmarked
marks_unmarked [] u = refl
marks_unmarked (x ∷ xs) u =
    let h = and_both (ltb x 256) (unmarked xs) u in
    let e : x / 256 ≡ 0 = omega (arith, ltb-true x 256 h.0) in
    ap₂ (λ (z : ℕ) (zs : List ℕ). z ∷ zs) e (marks_unmarked xs h.1)
