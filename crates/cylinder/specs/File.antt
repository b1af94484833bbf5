-- The file of a cylinder: a header, a table of the tracks, and the tracks with their packed marks.
use Rattle.std.specs.Prelude.{ℕ, ◌+◌, ◌*◌, ◌/◌, ◌%◌, List, [], ◌∷◌, ◌++◌}
use Rattle.base.specs.Indexed.{sum_to, join_to}
use Rattle.cylinder.specs.Cylinder.{Cylinder, track_count, length_of, track_of, track_marks_of}
use Rattle.cylinder.specs.Packed.{packed_size, packed}

-- A number in two bytes, most significant byte first.
unfoldable pub two_bytes : ℕ → List ℕ
two_bytes x = x / 256 ∷ x % 256 ∷ []

-- A number in four bytes, most significant byte first.
unfoldable pub four_bytes : ℕ → List ℕ
four_bytes x = x / 16777216 ∷ x / 65536 % 256 ∷ x / 256 % 256 ∷ x % 256 ∷ []

-- The length of the header: the number of tracks and two zero bytes.
abbrev pub header_length : ℕ
header_length = 4

-- The length of a table entry: L and the offset.
abbrev pub entry_length : ℕ
entry_length = 6

-- Where the table of n tracks ends, and the first track starts.
abbrev pub table_end : ℕ → ℕ
table_end n = header_length + n * entry_length

-- What a track of l bytes takes in the file: its bytes and its packed marks.
abbrev pub stored_size : ℕ → ℕ
stored_size l = l + packed_size l

-- The offset of track k of n tracks with the Ls l, from the file's start; for k = n the file's length.
unfoldable pub offset_of : ℕ → (ℕ → ℕ) → ℕ → ℕ
offset_of n l k = table_end n + sum_to (λ j. stored_size (l j)) k

-- The header of n tracks.
unfoldable pub header : ℕ → List ℕ
header n = two_bytes n ++ (0 ∷ 0 ∷ [])

-- The table entry of track k of n tracks with the Ls l.
unfoldable pub entry : ℕ → (ℕ → ℕ) → ℕ → List ℕ
entry n l k = two_bytes (l k) ++ four_bytes (offset_of n l k)

-- The table.
unfoldable pub table : List ℕ → ℕ → List ℕ
table ls n = join_to (entry n (length_of ls)) n

-- Track k as it stands in the file: its bytes, then its marks eight to a byte.
unfoldable pub stored_track : Cylinder → ℕ → List ℕ
stored_track c k = track_of c k ++ packed (track_marks_of c k)

-- Every track with its marks, each right behind the one before it.
unfoldable pub stored_tracks : Cylinder → List ℕ
stored_tracks c = join_to (stored_track c) (track_count c)

-- The file of a cylinder.
unfoldable pub cylinder_file : Cylinder → List ℕ
cylinder_file c = (header (track_count c) ++ table c.lengths (track_count c)) ++ stored_tracks c
