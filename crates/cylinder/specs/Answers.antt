-- What each answer of writing and of reading says, with all that is tried before it found right: the tests in other words, over the same numbers of the file.
use Rattle.std.specs.Prelude.{◌≡◌, ◌⊎◌, ℕ, ◌*◌, ◌≤◌, ◌<◌, List, length, get_or, eqb}
use Rattle.base.specs.Indexed.{sum_to}
use Rattle.base.specs.Pick.{pick}
use Rattle.format.specs.Layout.{shortest_track, longest_track}
use Rattle.cylinder.specs.Cylinder.{Cylinder, track_count, length_of, start_of}
use Rattle.cylinder.specs.Packed.{packed_size, mark_at}
use Rattle.cylinder.specs.File.{header_length, table_end, cylinder_file}
use Rattle.cylinder.specs.Reading.{track_count_in, zero_field, length_in, offset_in, offset_due, packed_in, Room}

-- The number of tracks is 1 to 10.
abbrev pub OneToTen : ℕ → Type 0
OneToTen n = (1 ≤ n) × (n ≤ 10)

-- The number of tracks is not 1 to 10.
abbrev pub NotOneToTen : ℕ → Type 0
NotOneToTen n = (n < 1) ⊎ (10 < n)

-- Each of the first n of the Ls l is in range.
abbrev pub LengthsAllowed : (ℕ → ℕ) → ℕ → Type 0
LengthsAllowed l n = (k : ℕ) → k < n → (shortest_track ≤ l k) × (l k ≤ longest_track)

-- One of the first n of the Ls l is out of range.
abbrev pub LengthForbidden : (ℕ → ℕ) → ℕ → Type 0
LengthForbidden l n = (k : ℕ) × (k < n) × ((l k < shortest_track) ⊎ (longest_track < l k))

-- Every mark is 0 or 1.
abbrev pub MarksBinary : List ℕ → Type 0
MarksBinary m = (i : ℕ) → i < length m → get_or m i 0 ≤ 1

-- A mark is neither 0 nor 1.
abbrev pub MarkOther : List ℕ → Type 0
MarkOther m = (i : ℕ) × (i < length m) × (1 < get_or m i 0)

-- Every bit behind the first l is zero in the bytes bs that l marks take.
abbrev pub SparesZero : ℕ → List ℕ → Type 0
SparesZero l bs = (i : ℕ) → l ≤ i → i < packed_size l * 8 → mark_at bs i ≡ 0

-- A bit behind the first l is set in the bytes bs that l marks take.
abbrev pub SpareSet : ℕ → List ℕ → Type 0
SpareSet l bs = (i : ℕ) × (l ≤ i) × (i < packed_size l * 8) × (mark_at bs i ≡ 0 → ⊥)

-- Writing gives 18: the number of tracks is not 1 to 10.
abbrev pub WrongTrackCount : Cylinder → Type 0
WrongTrackCount c = NotOneToTen (track_count c)

-- The number of tracks to write is 1 to 10.
abbrev pub RightTrackCount : Cylinder → Type 0
RightTrackCount c = OneToTen (track_count c)

-- Writing gives 1: the number of tracks is right, and an L is out of range, a slice is not as long as the Ls together, or a mark is not 0 or 1.
abbrev pub WrongLent : Cylinder → Type 0
WrongLent c =
    RightTrackCount c
    × (LengthForbidden (length_of c.lengths) (track_count c)
    ⊎ ((length c.tracks ≡ start_of c.lengths (track_count c) → ⊥)
    ⊎ ((length c.marks ≡ start_of c.lengths (track_count c) → ⊥)
    ⊎ MarkOther c.marks)))

-- The number of tracks to write is right, and all that is lent is within the rule.
abbrev pub RightLent : Cylinder → Type 0
RightLent c =
    RightTrackCount c
    × (LengthsAllowed (length_of c.lengths) (track_count c)
    × ((length c.tracks ≡ start_of c.lengths (track_count c))
    × ((length c.marks ≡ start_of c.lengths (track_count c))
    × MarksBinary c.marks)))

-- Writing gives 24: all that is lent is right, and the buffer is shorter than the file.
abbrev pub ShortBuffer : Cylinder → ℕ → Type 0
ShortBuffer c room = RightLent c × (room < length (cylinder_file c))

-- Writing gives 0: all that is lent is right, and the buffer takes the file.
abbrev pub Writable : Cylinder → ℕ → Type 0
Writable c room = RightLent c × (length (cylinder_file c) ≤ room)

-- What answer n of writing says; nothing makes it give another than these four.
abbrev pub WriteMeans : Cylinder → ℕ → ℕ → Type 0
WriteMeans c room n =
    pick (eqb n 0) (Writable c room)
    (pick (eqb n 1) (WrongLent c)
    (pick (eqb n 18) (WrongTrackCount c)
    (pick (eqb n 24) (ShortBuffer c room)
    ⊥)))

-- Reading gives 20: the file ends within its header.
abbrev pub CutHeader : List ℕ → Type 0
CutHeader f = length f < header_length

-- The header of the file is whole.
abbrev pub WholeHeader : List ℕ → Type 0
WholeHeader f = header_length ≤ length f

-- Reading gives 18: the header is whole, and the number of tracks is not 1 to 10 or the zero field is not zero.
abbrev pub WrongHeader : List ℕ → Type 0
WrongHeader f = WholeHeader f × (NotOneToTen (track_count_in f) ⊎ (zero_field f ≡ 0 → ⊥))

-- The header of the file is whole and right.
abbrev pub RightHeader : List ℕ → Type 0
RightHeader f = WholeHeader f × (OneToTen (track_count_in f) × (zero_field f ≡ 0))

-- Reading gives 20: the header is right, and the file ends within its table.
abbrev pub CutTable : List ℕ → Type 0
CutTable f = RightHeader f × (length f < table_end (track_count_in f))

-- The header is right, and the table whole.
abbrev pub WholeTable : List ℕ → Type 0
WholeTable f = RightHeader f × (table_end (track_count_in f) ≤ length f)

-- Reading gives 1: the table is whole, and an L in it is out of range.
abbrev pub WrongLength : List ℕ → Type 0
WrongLength f = WholeTable f × LengthForbidden (length_in f) (track_count_in f)

-- The table is whole, and every L in it is in range.
abbrev pub RightLengths : List ℕ → Type 0
RightLengths f = WholeTable f × LengthsAllowed (length_in f) (track_count_in f)

-- Reading gives 19: the Ls are right, and an offset in the table is not the one that is due.
abbrev pub WrongOffset : List ℕ → Type 0
WrongOffset f = RightLengths f × ((k : ℕ) × (k < track_count_in f) × (offset_in f k ≡ offset_due f k → ⊥))

-- The Ls are right, and every offset is the one that is due.
abbrev pub RightOffsets : List ℕ → Type 0
RightOffsets f = RightLengths f × ((k : ℕ) → k < track_count_in f → offset_in f k ≡ offset_due f k)

-- Reading gives 20: the offsets are right, and the length of the file is not the one that is due.
abbrev pub WrongEnd : List ℕ → Type 0
WrongEnd f = RightOffsets f × (length f ≡ offset_due f (track_count_in f) → ⊥)

-- The offsets are right, and the length of the file is the one that is due.
abbrev pub RightEnd : List ℕ → Type 0
RightEnd f = RightOffsets f × (length f ≡ offset_due f (track_count_in f))

-- Reading gives 21: the length of the file is right, and a spare bit behind the marks of a track is set.
abbrev pub WrongSpare : List ℕ → Type 0
WrongSpare f = RightEnd f × ((k : ℕ) × (k < track_count_in f) × SpareSet (length_in f k) (packed_in f k))

-- The length of the file is right, and every spare bit is zero.
abbrev pub RightSpares : List ℕ → Type 0
RightSpares f = RightEnd f × ((k : ℕ) → k < track_count_in f → SparesZero (length_in f k) (packed_in f k))

-- Reading gives 24: the file is right, and one of the three that are lent for writing is too short.
abbrev pub ShortRoom : List ℕ → Room → Type 0
ShortRoom f r =
    RightSpares f
    × ((r.tracks < sum_to (length_in f) (track_count_in f))
    ⊎ ((r.marks < sum_to (length_in f) (track_count_in f))
    ⊎ (r.lengths < track_count_in f)))

-- Reading gives 0: the file is right, and each of the three that are lent for writing is long enough.
abbrev pub Readable : List ℕ → Room → Type 0
Readable f r =
    RightSpares f
    × ((sum_to (length_in f) (track_count_in f) ≤ r.tracks)
    × ((sum_to (length_in f) (track_count_in f) ≤ r.marks)
    × (track_count_in f ≤ r.lengths)))

-- What answer n of reading says; nothing makes it give another than these seven.
abbrev pub ReadMeans : List ℕ → Room → ℕ → Type 0
ReadMeans f r n =
    pick (eqb n 0) (Readable f r)
    (pick (eqb n 1) (WrongLength f)
    (pick (eqb n 18) (WrongHeader f)
    (pick (eqb n 19) (WrongOffset f)
    (pick (eqb n 20) (CutHeader f ⊎ (CutTable f ⊎ WrongEnd f))
    (pick (eqb n 21) (WrongSpare f)
    (pick (eqb n 24) (ShortRoom f r)
    ⊥))))))
