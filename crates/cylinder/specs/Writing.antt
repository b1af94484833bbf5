-- Writing: from a lent cylinder to its file.
use Rattle.std.specs.Prelude.{ℕ, List, [], length, leb}
use Rattle.format.specs.Answer.{lent_wrong, header_wrong, buffer_too_short}
use Rattle.format.specs.Judged.{Judged, good, require, value_or}
use Rattle.cylinder.specs.Cylinder.{Cylinder, track_count, track_count_right, cylinder_lent}
use Rattle.cylinder.specs.File.{cylinder_file}

-- The file of a cylinder into a buffer of `room` bytes: 18 for the number of tracks, 1 for what is lent, 24 for the buffer.
unfoldable pub write_cylinder : Cylinder → ℕ → Judged (List ℕ)
write_cylinder c room =
    require (track_count_right (track_count c)) header_wrong
    (require (cylinder_lent c) lent_wrong
    (require (leb (length (cylinder_file c)) room) buffer_too_short
    (good (cylinder_file c))))

-- The file that was written: none where it is refused.
abbrev pub file_bytes : Judged (List ℕ) → List ℕ
file_bytes j = value_or [] j
