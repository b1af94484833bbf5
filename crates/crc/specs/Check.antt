-- The check of information bytes: the remainder, complemented, of their bits as a polynomial over GF(2) divided by x^16 + 1.
use Rattle.std.specs.Prelude.{ℕ, zero, suc, ◌+◌, ◌-◌, ◌*◌, ◌/◌, ◌%◌, ◌^◌, Bool, ◌&&◌, List, [], ◌∷◌, ◌++◌, ltb, eqb}
use Rattle.std.specs.Int.Bits.{bit_xor}
use Rattle.base.specs.Pick.{pick}

-- The k low binary digits of n, highest first.
unfoldable pub digits : ℕ → ℕ → List ℕ
digits zero n = []
digits (suc k) n = n / 2 ^ k % 2 ∷ digits k n

-- The coefficients of the bytes' polynomial, highest first: the eight bits of each byte, first byte first.
unfoldable pub coefficients : List ℕ → List ℕ
coefficients [] = []
coefficients (b ∷ bs) = digits 8 b ++ coefficients bs

-- The divisor, x^16 + 1, as the number whose binary digits are its coefficients.
unfoldable pub divisor : ℕ
divisor = 65537

-- One step of long division: r x + c, and where that has a term in x^16, the divisor is subtracted, which over GF(2) is exclusive or.
unfoldable pub bring_down : ℕ → ℕ → ℕ
bring_down r c = pick (ltb (r * 2 + c) 65536) (r * 2 + c) (bit_xor divisor (r * 2 + c))

-- The remainder when the coefficients cs are brought down one by one behind the remainder r.
unfoldable pub remainder : ℕ → List ℕ → ℕ
remainder r [] = r
remainder r (c ∷ cs) = remainder (bring_down r c) cs

-- The check as a number of 16 bits: the remainder with every bit complemented.
abbrev pub check_of : List ℕ → ℕ
check_of bs = 65535 - remainder 0 (coefficients bs)

-- The check as it is stored: two bytes, the high one first.
unfoldable pub check_bytes : List ℕ → List ℕ
check_bytes bs = check_of bs / 256 ∷ check_of bs % 256 ∷ []

-- Whether the stored check of the bytes is the byte high and then the byte low.
unfoldable pub agrees : List ℕ → ℕ → ℕ → Bool
agrees bs high low = eqb (check_of bs / 256) high && eqb (check_of bs % 256) low
