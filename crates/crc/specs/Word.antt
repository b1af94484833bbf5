-- Bytes side by side in one number, and its two lanes.
use Rattle.std.specs.Prelude.{ℕ, zero, suc, ◌+◌, ◌*◌, ◌/◌, ◌%◌, List, [], ◌∷◌, get_or}
use Rattle.std.specs.Int.Bits.{bit_xor}

-- The number whose bytes, lowest first, are these.
unfoldable pub word : List ℕ → ℕ
word [] = 0
word (b ∷ bs) = b + word bs * 256

-- Eight bytes as one number, the first one lowest.
abbrev pub word_of : ℕ → ℕ → ℕ → ℕ → ℕ → ℕ → ℕ → ℕ → ℕ
word_of a b c d e f g h =
    a + b * 0x100 + c * 0x10000 + d * 0x1000000 + e * 0x100000000 + f * 0x10000000000 + g * 0x1000000000000 + h * 0x100000000000000

-- The eight bytes from place i on as one number.
abbrev pub word_at : List ℕ → ℕ → ℕ
word_at bs i =
    word_of (get_or bs i 0) (get_or bs (i + 1) 0) (get_or bs (i + 2) 0) (get_or bs (i + 3) 0)
    (get_or bs (i + 4) 0) (get_or bs (i + 5) 0) (get_or bs (i + 6) 0) (get_or bs (i + 7) 0)

-- The number that the two lowest bytes of w make, the lowest one in the high half.
unfoldable pub pair : ℕ → ℕ
pair w = w % 256 * 256 + w / 256 % 256

-- The two lanes of w, which has k pairs of bytes side by side: the exclusive or of the pairs, each of which has the byte for the high half first.
unfoldable pub lanes : ℕ → ℕ → ℕ
lanes zero w = 0
lanes (suc k) w = bit_xor (pair w) (lanes k (w / 65536))
