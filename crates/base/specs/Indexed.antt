-- What a function gives for 0, 1, 2 and so on: the sum, one list, and a test of each.
use Rattle.std.specs.Prelude.{ℕ, zero, suc, ◌+◌, Bool, true, ◌&&◌, List, [], ◌∷◌, ◌++◌}

-- The sum of the first n, from f 0 on.
unfoldable pub sum_to : (ℕ → ℕ) → ℕ → ℕ
sum_to f zero = 0
sum_to f (suc n) = sum_to f n + f n

-- Every one of the first n tests holds.
unfoldable pub all_to : (ℕ → Bool) → ℕ → Bool
all_to p zero = true
all_to p (suc n) = all_to p n && p n

-- The first n lists, one behind the other.
unfoldable pub join_to : (ℕ → List ℕ) → ℕ → List ℕ
join_to f zero = []
join_to f (suc n) = join_to f n ++ f n

-- The first n elements.
abbrev pub list_to : (ℕ → ℕ) → ℕ → List ℕ
list_to f n = join_to (λ k. f k ∷ []) n
