-- Reading: from the file of a cylinder to its tracks, marks and Ls.
use Rattle.std.specs.Prelude.{ℕ, ◌+◌, ◌*◌, ◌≤◌, Bool, ◌&&◌, List, [], length, take, drop, get_or, leb, eqb}
use Rattle.base.specs.Indexed.{sum_to, all_to, join_to, list_to}
use Rattle.format.specs.Address.{word}
use Rattle.format.specs.Answer.{lent_wrong, header_wrong, offset_wrong, file_length_wrong, spare_bits_set, buffer_too_short}
use Rattle.format.specs.Judged.{Judged, good, then, require, value_or}
use Rattle.cylinder.specs.Cylinder.{Cylinder, track_count_right, lengths_right}
use Rattle.cylinder.specs.Packed.{packed_size, unpacked, spare_clear}
use Rattle.cylinder.specs.File.{header_length, table_end, offset_of}

-- The number in the two bytes from place p on, most significant byte first.
unfoldable pub two_bytes_at : List ℕ → ℕ → ℕ
two_bytes_at f p = word (get_or f p 0) (get_or f (p + 1) 0)

-- The number in the four bytes from place p on.
unfoldable pub four_bytes_at : List ℕ → ℕ → ℕ
four_bytes_at f p = two_bytes_at f p * 65536 + two_bytes_at f (p + 2)

-- The number of tracks that the file names.
unfoldable pub track_count_in : List ℕ → ℕ
track_count_in f = two_bytes_at f 0

-- The number in the two bytes behind the number of tracks, which has to be zero.
unfoldable pub zero_field : List ℕ → ℕ
zero_field f = two_bytes_at f 2

-- L of track k, as the table has it.
unfoldable pub length_in : List ℕ → ℕ → ℕ
length_in f k = two_bytes_at f (table_end k)

-- The offset of track k, as the table has it.
unfoldable pub offset_in : List ℕ → ℕ → ℕ
offset_in f k = four_bytes_at f (table_end k + 2)

-- The offset that the table has to give for track k; for k = n the length that the file has to have.
unfoldable pub offset_due : List ℕ → ℕ → ℕ
offset_due f k = offset_of (track_count_in f) (length_in f) k

-- The bytes of track k.
unfoldable pub track_in : List ℕ → ℕ → List ℕ
track_in f k = take (length_in f k) (drop (offset_due f k) f)

-- The packed marks of track k.
unfoldable pub packed_in : List ℕ → ℕ → List ℕ
packed_in f k = take (packed_size (length_in f k)) (drop (offset_due f k + length_in f k) f)

-- The marks of track k.
unfoldable pub marks_in : List ℕ → ℕ → List ℕ
marks_in f k = unpacked (length_in f k) (packed_in f k)

-- The number of tracks is 1 to 10 and the zero field is zero.
unfoldable pub header_right : List ℕ → Bool
header_right f = track_count_right (track_count_in f) && eqb (zero_field f) 0

-- Every offset is the one that the table has to give.
unfoldable pub offsets_right : List ℕ → Bool
offsets_right f = all_to (λ k. eqb (offset_in f k) (offset_due f k)) (track_count_in f)

-- Every track's spare bits are zero.
unfoldable pub spares_clear : List ℕ → Bool
spares_clear f = all_to (λ k. spare_clear (length_in f k) (packed_in f k)) (track_count_in f)

-- The file by itself, in the order of its answers: 20, 18, 20, 1, 19, 20 and 21.
unfoldable pub judge_file : List ℕ → Judged (Unit {0})
judge_file f =
    require (leb header_length (length f)) file_length_wrong
    (require (header_right f) header_wrong
    (require (leb (table_end (track_count_in f)) (length f)) file_length_wrong
    (require (lengths_right (length_in f) (track_count_in f)) lent_wrong
    (require (offsets_right f) offset_wrong
    (require (eqb (length f) (offset_due f (track_count_in f))) file_length_wrong
    (require (spares_clear f) spare_bits_set
    (good tt)))))))

-- The cylinder that a file holds.
abbrev pub cylinder_in : List ℕ → Cylinder
cylinder_in f =
    record {
      tracks = join_to (track_in f) (track_count_in f);
      marks = join_to (marks_in f) (track_count_in f);
      lengths = list_to (length_in f) (track_count_in f);
    }

-- The lengths of what is lent for writing: of tracks, of marks, and of the list of Ls.
pub record Room : Type 0 where
  pub tracks : ℕ
  pub marks : ℕ
  pub lengths : ℕ

-- What is lent for writing takes the whole cylinder.
abbrev pub Takes : Room → Cylinder → Type 0
Takes r c = (length c.tracks ≤ r.tracks) × (length c.marks ≤ r.marks) × (length c.lengths ≤ r.lengths)

-- What is lent for writing is long enough for the cylinder that a file holds.
unfoldable pub room_for : List ℕ → Room → Bool
room_for f r =
    leb (sum_to (length_in f) (track_count_in f)) r.tracks
    && (leb (sum_to (length_in f) (track_count_in f)) r.marks
    && leb (track_count_in f) r.lengths)

-- Reading a file into what is lent: the file's own refusal, then 24.
unfoldable pub read_cylinder : List ℕ → Room → Judged Cylinder
read_cylinder f r = then (judge_file f) (λ _. require (room_for f r) buffer_too_short (good (cylinder_in f)))

-- The cylinder that was read: the empty one where it is refused.
abbrev pub cylinder_read : Judged Cylinder → Cylinder
cylinder_read j = value_or (record { tracks = []; marks = []; lengths = [] }) j
