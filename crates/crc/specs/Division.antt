-- What division by x^16 + 1 over GF(2) means: dividend, product, quotient, and which lists are coefficients.
use Rattle.std.specs.Prelude.{ℕ, ◌+◌, ◌*◌, ◌<◌, List, [], ◌∷◌, ltb}
use Rattle.std.specs.Int.Bits.{bit_xor}
use Rattle.base.specs.Pick.{pick}
use Rattle.crc.specs.Check.{bring_down}

-- Every coefficient is 0 or 1.
unfoldable pub Digits : List ℕ → Type 0
Digits [] = Unit {0}
Digits (c ∷ cs) = (c < 2) × Digits cs

-- The number whose binary digits are those of v and then the coefficients cs.
unfoldable pub value : ℕ → List ℕ → ℕ
value v [] = v
value v (c ∷ cs) = value (v * 2 + c) cs

-- The product of q and x^16 + 1.
unfoldable pub times : ℕ → ℕ
times q = bit_xor (q * 65536) q

-- The quotient when the coefficients cs are brought down behind the remainder r and the quotient so far is q: a digit 1 for each step that subtracts the divisor.
unfoldable pub quotient : ℕ → ℕ → List ℕ → ℕ
quotient q r [] = q
quotient q r (c ∷ cs) = quotient (q * 2 + pick (ltb (r * 2 + c) 65536) 0 1) (bring_down r c) cs
