-- Packed marks: a byte for every eight of them, from its top bit down, and clear bits where the last byte has no mark.
use Rattle.std.specs.Prelude.{ℕ, zero, suc, ◌+◌, ◌-◌, ◌*◌, ◌/◌, ◌%◌, Bool, List, length, get_or, eqb}
use Rattle.base.specs.Indexed.{all_to, list_to}

-- How many bytes l marks take.
abbrev pub packed_size : ℕ → ℕ
packed_size l = (l + 7) / 8

-- The byte of eight marks, first mark in the top bit.
unfoldable pub octet : ℕ → ℕ → ℕ → ℕ → ℕ → ℕ → ℕ → ℕ → ℕ
octet a b c d e f g h = a % 2 * 128 + b % 2 * 64 + c % 2 * 32 + d % 2 * 16 + e % 2 * 8 + f % 2 * 4 + g % 2 * 2 + h % 2

-- The byte of the eight marks from place p on, 0 for each that is not there.
unfoldable pub octet_at : List ℕ → ℕ → ℕ
octet_at m p =
    octet (get_or m p 0) (get_or m (p + 1) 0) (get_or m (p + 2) 0) (get_or m (p + 3) 0) (get_or m (p + 4) 0) (get_or m (p + 5) 0) (get_or m (p + 6) 0) (get_or m (p + 7) 0)

-- The bytes of the marks m.
unfoldable pub packed : List ℕ → List ℕ
packed m = list_to (λ j. octet_at m (j * 8)) (packed_size (length m))

-- Bit k of a byte, of which the top bit is bit 0.
unfoldable pub bit_of : ℕ → ℕ → ℕ
bit_of x zero = x / 128 % 2
bit_of x (suc zero) = x / 64 % 2
bit_of x (suc (suc zero)) = x / 32 % 2
bit_of x (suc (suc (suc zero))) = x / 16 % 2
bit_of x (suc (suc (suc (suc zero)))) = x / 8 % 2
bit_of x (suc (suc (suc (suc (suc zero))))) = x / 4 % 2
bit_of x (suc (suc (suc (suc (suc (suc zero)))))) = x / 2 % 2
bit_of x (suc (suc (suc (suc (suc (suc (suc k))))))) = x % 2

-- The mark at place i of packed bytes.
unfoldable pub mark_at : List ℕ → ℕ → ℕ
mark_at bs i = bit_of (get_or bs (i / 8) 0) (i % 8)

-- The first l marks of packed bytes.
unfoldable pub unpacked : ℕ → List ℕ → List ℕ
unpacked l bs = list_to (mark_at bs) l

-- No bit behind the first l is set in the bytes that l marks take.
unfoldable pub spare_clear : ℕ → List ℕ → Bool
spare_clear l bs = all_to (λ j. eqb (mark_at bs (l + j)) 0) (packed_size l * 8 - l)
