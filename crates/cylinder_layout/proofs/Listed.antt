-- The sum of a list's elements as a sum by their places.
use Rattle.std.proofs.Common.{◌≡◌, ℕ, zero, suc, ◌+◌, List, [], ◌∷◌, length, get_or, refl, sym, ap, ◌∙◌, arith}
use Rattle.std.specs.List.{sum_by}
use Rattle.std.proofs.lemmas.List.Sums.{sum_by-cons}
use Rattle.base.specs.Indexed.{sum_to}

-- The first of a sum may be taken alone.
sum_front : (f : ℕ → ℕ) (n : ℕ) → sum_to f (suc n) ≡ f 0 + sum_to (λ k. f (suc k)) n
unfolding sum_to
sum_front f zero = omega arith
sum_front f (suc n) = omega (arith, sum_front f n)

-- The sum of what f gives of each element is the sum of what it gives at each place.
pub sum_by_is : (f : ℕ → ℕ) (xs : List ℕ) → sum_by f xs ≡ sum_to (λ k. f (get_or xs k 0)) (length xs)
unfolding sum_to
sum_by_is f [] = refl
sum_by_is f (x ∷ xs) = sum_by-cons f x xs ∙ ap (λ n. f x + n) (sum_by_is f xs) ∙ sym (sum_front (λ k. f (get_or (x ∷ xs) k 0)) (length xs))
