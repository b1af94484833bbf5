-- Values made of one place after the other.
use Rattle.std.specs.Prelude.{ℕ, zero, suc, List, [], ◌∷◌}

-- `value` makes a value of a place, and `next` gives the place after it.
module _ {A : Type 0} (value : ℕ → A) (next : ℕ → ℕ) where
  -- The values of n places from place p on.
  abbrev pub run : ℕ → ℕ → List A
  run p zero = []
  run p (suc n) = value p ∷ run (next p) n
