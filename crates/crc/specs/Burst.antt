-- Bits that are altered: the words of the laws on what the check catches and what it does not.
use Rattle.std.specs.Prelude.{◌≡◌, ◌⊎◌, ℕ, ◌+◌, ◌-◌, ◌^◌, ◌≤◌, ◌<◌, List, [], ◌∷◌, ◌++◌, length, get_or, ltb}
use Rattle.std.specs.Int.Bits.{bit_xor}
use Rattle.base.specs.Pick.{pick}
use Rattle.crc.specs.Check.{coefficients}

-- The bits of information bytes and of the two bytes of the check behind them, in a row and first bit first.
abbrev pub checked_bits : List ℕ → ℕ → ℕ → List ℕ
checked_bits bs high low = coefficients (bs ++ high ∷ low ∷ [])

-- The bits xs and ys differ at place i.
abbrev pub DiffersAt : List ℕ → List ℕ → ℕ → Type 0
DiffersAt xs ys i = get_or xs i 0 ≡ get_or ys i 0 → ⊥

-- A burst of k bits makes ys out of xs: they are as many, some k successive places hold every place where they differ, and there is such a place.
pub record Burst (k : ℕ) (xs ys : List ℕ) : Type 0 where
  pub same_length : length xs ≡ length ys
  -- The first of the k places,
  pub start : ℕ
  pub within : (i : ℕ) → DiffersAt xs ys i → (start ≤ i) × (i < start + k)
  -- and one where they differ.
  pub place : ℕ
  pub differs : DiffersAt xs ys place

-- Two single bits k apart make ys out of xs: they are as many, and differ at place i, at place i + k and nowhere else.
pub record TwoApart (k i : ℕ) (xs ys : List ℕ) : Type 0 where
  pub same_length : length xs ≡ length ys
  pub first : DiffersAt xs ys i
  pub second : DiffersAt xs ys (i + k)
  pub nowhere_else : (j : ℕ) → DiffersAt xs ys j → (j ≡ i) ⊎ (j ≡ i + k)

-- The bytes with their bit at place i altered, the first byte's top bit being at place 0; past their end nothing is altered.
unfoldable pub alter_bit : ℕ → List ℕ → List ℕ
alter_bit i [] = []
alter_bit i (b ∷ bs) = let r = alter_bit (i - 8) bs in pick (ltb i 8) (bit_xor b (2 ^ (7 - i)) ∷ bs) (b ∷ r)
