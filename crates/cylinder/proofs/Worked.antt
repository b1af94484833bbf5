-- Worked values of the file of a cylinder, each computed: the order of the bytes of a number, that of the marks in a byte, and where tracks start.
use mathlib.Core.Path.{◌≡◌, refl}
use Prim.Native.Nat.{ℕ, ◌+◌}
use mathlib.Core.Bool.{true, false}
use mathlib.Core.List.{List, [], ◌∷◌}
use Rattle.base.specs.Indexed.{sum_to, all_to, join_to}
use Rattle.cylinder.specs.Cylinder.{Cylinder, length_of, part_of}
use Rattle.cylinder.specs.Packed.{packed_size, octet, octet_at, packed, bit_of, mark_at, unpacked, spare_clear}
use Rattle.cylinder.specs.File.{two_bytes, four_bytes, offset_of, header, entry, table, stored_track, stored_tracks, cylinder_file}
use Rattle.cylinder.specs.Reading.{two_bytes_at, four_bytes_at}

-- Numbers are written most significant byte first, and read so.
pub numbers_worked :
    (header 3 ≡ 0 ∷ 3 ∷ 0 ∷ 0 ∷ [])
    × (two_bytes 3906 ≡ 0x0F ∷ 0x42 ∷ [])
    × (two_bytes_at (0x0F ∷ 0x42 ∷ []) 0 ≡ 3906)
    × (four_bytes 8709 ≡ 0 ∷ 0 ∷ 0x22 ∷ 0x05 ∷ [])
    × (four_bytes_at (0 ∷ 0 ∷ 0x22 ∷ 0x05 ∷ []) 0 ≡ 8709)
unfolding header two_bytes four_bytes two_bytes_at four_bytes_at
numbers_worked = (refl, refl, refl, refl, refl)

-- Nine marks, of which the first and the last are 1.
abbrev pub nine_marks : List ℕ
nine_marks = 1 ∷ 0 ∷ 0 ∷ 0 ∷ 0 ∷ 0 ∷ 0 ∷ 0 ∷ 1 ∷ []

-- Nine marks take two bytes, of which each has its first mark in the top bit; a set bit behind the ninth mark is found.
pub marks_worked :
    (packed nine_marks ≡ 0x80 ∷ 0x80 ∷ [])
    × (unpacked 9 (0x80 ∷ 0x80 ∷ []) ≡ nine_marks)
    × (spare_clear 9 (0x80 ∷ 0x80 ∷ []) ≡ true)
    × (spare_clear 9 (0x80 ∷ 0x81 ∷ []) ≡ false)
unfolding packed octet_at octet unpacked mark_at bit_of spare_clear join_to all_to
marks_worked = (refl, refl, refl, refl)

-- Two Ls, of 3,815 and 3,906 bytes.
abbrev pub two_lengths : List ℕ
two_lengths = 3815 ∷ 3906 ∷ []

-- The marks of the shortest track take 477 bytes and those of the longest 501; tracks of 3,815 and 3,906 bytes start at 16 and 4,308 in a file of 8,703, and the table says so.
pub places_worked :
    (packed_size 3815 ≡ 477)
    × (packed_size 4002 ≡ 501)
    × (offset_of 2 (length_of two_lengths) 0 ≡ 16)
    × (offset_of 2 (length_of two_lengths) 1 ≡ 16 + 4292)
    × (offset_of 2 (length_of two_lengths) 2 ≡ 8703)
    × (table two_lengths 2 ≡ 0x0E ∷ 0xE7 ∷ 0 ∷ 0 ∷ 0 ∷ 0x10 ∷ 0x0F ∷ 0x42 ∷ 0 ∷ 0 ∷ 0x10 ∷ 0xD4 ∷ [])
unfolding offset_of sum_to table entry two_bytes four_bytes join_to
places_worked = (refl, refl, refl, refl, refl, refl)

-- Two tracks of two bytes and of one: too short to be lent, and so short that their whole file can be written down.
abbrev pub tiny_cylinder : Cylinder
tiny_cylinder = record { tracks = 0xA1 ∷ 0xA2 ∷ 0xB1 ∷ []; marks = 0 ∷ 1 ∷ 1 ∷ []; lengths = 2 ∷ 1 ∷ [] }

-- Their file: header, table, and each track with its marks behind it.
pub file_worked :
    cylinder_file tiny_cylinder
    ≡ 0 ∷ 2 ∷ 0 ∷ 0
    ∷ 0 ∷ 2 ∷ 0 ∷ 0 ∷ 0 ∷ 16
    ∷ 0 ∷ 1 ∷ 0 ∷ 0 ∷ 0 ∷ 19
    ∷ 0xA1 ∷ 0xA2 ∷ 0x40
    ∷ 0xB1 ∷ 0x80 ∷ []
unfolding cylinder_file header table entry stored_tracks stored_track part_of offset_of two_bytes four_bytes packed octet_at octet sum_to join_to
file_worked = refl
