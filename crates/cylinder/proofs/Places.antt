-- Reading and writing the file of a cylinder answer at place 0 and with no second number.
use mathlib.Core.Path.{◌≡◌, refl}
use Prim.Native.Nat.{ℕ, ◌≤◌}
use native.Mathlib.Omega.{arith}
use mathlib.Core.Bool.{Bool}
use mathlib.Core.List.{List}
use lib.ListN.{length}
use lib.Dec.{leb, eqb}
use Rattle.base.proofs.Tests.{cases}
use Rattle.format.specs.Answer.{Answer, lent_wrong, header_wrong, offset_wrong, file_length_wrong, spare_bits_set, buffer_too_short}
use Rattle.format.specs.Judged.{Judged, good, refused, then, require, answer_of}
use Rattle.cylinder.specs.Cylinder.{Cylinder, track_count, track_count_right, lengths_right, cylinder_lent}
use Rattle.cylinder.specs.File.{header_length, table_end, cylinder_file}
use Rattle.cylinder.specs.Writing.{write_cylinder}
use Rattle.cylinder.specs.Reading.{track_count_in, length_in, offset_due, header_right, offsets_right, spares_clear, judge_file, cylinder_in, Room, room_for, read_cylinder}

-- An answer of which the number is at most 24, and the second number and the place are 0.
abbrev pub PlaceZero : Answer → Type 0
PlaceZero a = (a.number ≤ 24) × (a.fault ≡ 0) × (a.place ≡ 0)

-- A test answers at place 0, where its refusal does and what follows it does.
places_require : {A : Type 0} (b : Bool) (a : Answer) (j : Judged A) → PlaceZero a → PlaceZero (answer_of j) → PlaceZero (answer_of (require b a j))
places_require b a j h k = cases b (λ e. rw e k) (λ e. rw e h)

-- Judging one thing after another answers at place 0, where each of them does.
places_then : {A B : Type 0} (j : Judged A) (k : A → Judged B) → PlaceZero (answer_of j) → ((x : A) → PlaceZero (answer_of (k x))) → PlaceZero (answer_of (then j k))
places_then (good x) k h f = f x
places_then (refused a) k h f = h

-- The judgement of a cylinder's file answers at place 0.
judge_places : (f : List ℕ) → PlaceZero (answer_of (judge_file f))
unfolding judge_file
judge_places f =
    places_require (leb header_length (length f)) file_length_wrong _ (omega arith, refl, refl)
    (places_require (header_right f) header_wrong _ (omega arith, refl, refl)
    (places_require (leb (table_end (track_count_in f)) (length f)) file_length_wrong _ (omega arith, refl, refl)
    (places_require (lengths_right (length_in f) (track_count_in f)) lent_wrong _ (omega arith, refl, refl)
    (places_require (offsets_right f) offset_wrong _ (omega arith, refl, refl)
    (places_require (eqb (length f) (offset_due f (track_count_in f))) file_length_wrong _ (omega arith, refl, refl)
    (places_require (spares_clear f) spare_bits_set (good (tt {0})) (omega arith, refl, refl) (omega arith, refl, refl)))))))

-- Reading a cylinder's file answers at place 0, and its second number is 0.
pub read_places : (f : List ℕ) (r : Room) → PlaceZero (answer_of (read_cylinder f r))
unfolding read_cylinder
read_places f r =
    places_then (judge_file f) _ (judge_places f) (λ _. places_require (room_for f r) buffer_too_short (good (cylinder_in f)) (omega arith, refl, refl) (omega arith, refl, refl))

-- Writing a cylinder's file answers at place 0, and its second number is 0.
pub write_places : (c : Cylinder) (room : ℕ) → PlaceZero (answer_of (write_cylinder c room))
unfolding write_cylinder
write_places c room =
    places_require (track_count_right (track_count c)) header_wrong _ (omega arith, refl, refl)
    (places_require (cylinder_lent c) lent_wrong _ (omega arith, refl, refl)
    (places_require (leb (length (cylinder_file c)) room) buffer_too_short (good (cylinder_file c)) (omega arith, refl, refl) (omega arith, refl, refl)))
