-- The two halves of the remainder by bytes: from the end back, the bytes fall in the low half and the high half by turns.
use Rattle.std.specs.Prelude.{ℕ, ◌*◌, ◌%◌, ◌<◌, List, [], ◌∷◌, reverse, eqb, drop}
use Rattle.std.specs.Int.Bits.{bit_xor}
use Rattle.base.specs.Pick.{pick}

-- Every element is a byte.
unfoldable pub AllBytes : List ℕ → Type 0
AllBytes [] = Unit {0}
AllBytes (b ∷ bs) = (b < 256) × AllBytes bs

-- The exclusive or of the first element, the third, the fifth and so on.
unfoldable pub every_other : List ℕ → ℕ
every_other [] = 0
every_other (b ∷ []) = b
every_other (b ∷ c ∷ bs) = bit_xor b (every_other bs)

-- The low half: the last byte, the third from the end, and every second one back from there.
unfoldable pub low_half : List ℕ → ℕ
low_half bs = every_other (reverse bs)

-- The high half: the byte before the last, the fourth from the end, and every second one back from there.
unfoldable pub high_half : List ℕ → ℕ
high_half bs = every_other (drop 1 (reverse bs))

-- The byte b in its half, with n bytes behind it: as it is where n is even, which is the low half, and times 256 where n is odd, the high half.
unfoldable pub in_half : ℕ → ℕ → ℕ
in_half n b = pick (eqb (n % 2) 0) b (b * 256)
