-- What the code of reading lends and judges, as the definitions name it.
use Rattle.std.specs.Prelude.{ℕ, Result, Ok, Err, List, length}
use Rattle.base.specs.Indexed.{list_to}
use Rattle.format.specs.Answer.{as_refusal}
use Rattle.format.specs.Judged.{Judged, good, refused}
use Rattle.format.specs.declared.Refusal.{Refusal}
use Rattle.cylinder.specs.Cylinder.{Cylinder}
use Rattle.cylinder.specs.Reading.{Room, track_count_in, length_in, read_cylinder}

-- The Ls of the table of a file.
unfoldable pub lengths_in : List ℕ → List ℕ
lengths_in f = list_to (length_in f) (track_count_in f)

-- Slices and a list of these lengths.
abbrev pub room : ℕ → ℕ → ℕ → Room
room t m n = record { tracks = t; marks = m; lengths = n }

-- Reading a file into two slices and a list.
abbrev pub read_into : List ℕ → List ℕ → List ℕ → List ℕ → Judged Cylinder
read_into f t m ls = read_cylinder f (room (length t) (length m) (length ls))

-- What a value of the code says of a file.
abbrev pub judged_file : Result (Unit {0}) Refusal → Judged (Unit {0})
judged_file (Ok x) = good tt
judged_file (Err e) = refused (as_refusal e)
