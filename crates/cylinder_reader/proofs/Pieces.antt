-- Laws of reading: the Ls of a file's table, where the pieces of a sound file lie, and the room that they take.
use Rattle.std.proofs.Common.{◌≡◌, ℕ, ◌+◌, ◌-◌, ◌≤◌, ◌<◌, true, List, length, get_or, take, drop, refl, ap, ◌∙◌, arith}
use Rattle.base.specs.Indexed.{sum_to}
use Rattle.base.proofs.Indexed.{sum_same, all_same, sum_within, length_list, get_d_list}
use Rattle.base.proofs.Lists.{cut_is}
use Rattle.format.specs.Judged.{good}
use Rattle.format.specs.Lent.{length_right}
use Rattle.cylinder.specs.Cylinder.{length_of, start_of, lengths_right}
use Rattle.cylinder.specs.File.{table_end, stored_size, offset_of}
use Rattle.cylinder.specs.Packed.{packed_size, unpacked, spare_clear}
use Rattle.cylinder.specs.Reading.{two_bytes_at, track_count_in, length_in, offset_due, track_in, packed_in, marks_in, header_right, judge_file, Room, room_for}
use Rattle.cylinder.proofs.Decides.{decides_room}
use Rattle.cylinder.proofs.Sound.{file_sound, header_count, piece_within}
use Rattle.cylinder_reader.specs.Reading.{lengths_in}

-- The first two bytes of a file name the number of its tracks.
pub count_is : (f : List ℕ) → two_bytes_at f 0 ≡ track_count_in f
unfolding track_count_in
count_is f = refl

-- The table has an L for each track,
pub length_lengths : (f : List ℕ) → length (lengths_in f) ≡ track_count_in f
unfolding lengths_in
length_lengths f = length_list (length_in f) (track_count_in f)

-- that of track k at k,
pub length_at : (f : List ℕ) (k : ℕ) → k < track_count_in f → get_or (lengths_in f) k 0 ≡ length_in f k
unfolding lengths_in
length_at f k h = get_d_list (length_in f) (track_count_in f) k 0 h

-- in a list of these Ls too,
pub count_in : (f ls : List ℕ) → ls ≡ lengths_in f → length ls ≡ track_count_in f
count_in f ls e = ap length e ∙ length_lengths f

pub entry_in : (f ls : List ℕ) (k : ℕ) → ls ≡ lengths_in f → k < length ls → get_or ls k 0 ≡ length_in f k
entry_in f ls k e h = rw e (length_at f k (omega (arith, count_in f ls e)))

-- so that the same is in range,
pub lengths_right_in : (f : List ℕ) → lengths_right (length_of (lengths_in f)) (length (lengths_in f)) ≡ lengths_right (length_in f) (track_count_in f)
unfolding lengths_right
lengths_right_in f =
    rw (length_lengths f)
    (all_same (λ k. length_right (length_of (lengths_in f) k)) (λ k. length_right (length_in f k)) (track_count_in f) (λ k h. ap length_right (length_at f k h)))

-- the sum is the same,
pub total_in : (f : List ℕ) → start_of (lengths_in f) (length (lengths_in f)) ≡ sum_to (length_in f) (track_count_in f)
total_in f = rw (length_lengths f) (sum_same (length_of (lengths_in f)) (length_in f) (track_count_in f) (length_at f))

-- and the file is due to end at the same place.
pub end_in : (f : List ℕ) → offset_of (length (lengths_in f)) (length_of (lengths_in f)) (length (lengths_in f)) ≡ offset_due f (track_count_in f)
unfolding offset_due offset_of
end_in f =
    rw (length_lengths f)
    (ap (λ (n : ℕ). table_end (track_count_in f) + n)
    (sum_same (λ k. stored_size (length_of (lengths_in f) k)) (λ k. stored_size (length_in f k)) (track_count_in f) (λ k h. ap stored_size (length_at f k h))))

-- A right header names at most ten tracks.
pub count_most : (f : List ℕ) → header_right f ≡ true → track_count_in f ≤ 10
count_most f h = (header_count f h).1

-- A sound file has at most ten tracks, and their table lies in it.
pub table_there : (f : List ℕ) → judge_file f ≡ good tt → (4 ≤ length f) × (track_count_in f ≤ 10) × (table_end (track_count_in f) ≤ length f)
table_there f s = let t = file_sound f s in (t.header_there, count_most f t.header_right_holds, t.table_there)

-- The bytes of a track of a sound file and its packed marks lie in the file, and its L in the sum of all.
pub piece_in : (f : List ℕ) (k : ℕ) → judge_file f ≡ good tt → k < track_count_in f
    → (offset_due f k + length_in f k + packed_size (length_in f k) ≤ length f) × (sum_to (length_in f) k + length_in f k ≤ sum_to (length_in f) (track_count_in f))
piece_in f k s h = (piece_within f (file_sound f s) k h, sum_within (length_in f) k (track_count_in f) h)

-- The bytes from where a track is due up to its L behind are the track.
pub track_cut : (f : List ℕ) (k p l : ℕ) → p ≡ offset_due f k → l ≡ length_in f k → take (p + l - p) (drop p f) ≡ track_in f k
unfolding track_in
track_cut f k p l e h = cut_is p l f ∙ rw (e, h)

-- The bytes that follow it, as many as its marks take, are its packed marks.
packed_cut : (f : List ℕ) (k p l s : ℕ) → p ≡ offset_due f k → l ≡ length_in f k → s ≡ packed_size l → take (p + l + s - (p + l)) (drop (p + l) f) ≡ packed_in f k
unfolding packed_in
packed_cut f k p l s e h q = cut_is (p + l) s f ∙ rw (q, e, h)

-- The spare bits of those bytes are the track's,
pub spare_cut : (f : List ℕ) (k p l s : ℕ) → p ≡ offset_due f k → l ≡ length_in f k → s ≡ packed_size l
    → spare_clear l (take (p + l + s - (p + l)) (drop (p + l) f)) ≡ spare_clear (length_in f k) (packed_in f k)
spare_cut f k p l s e h q = rw (packed_cut f k p l s e h q, h)

-- and the marks in them the track's.
pub marks_cut : (f : List ℕ) (k p l s : ℕ) → p ≡ offset_due f k → l ≡ length_in f k → s ≡ packed_size l → unpacked l (take (p + l + s - (p + l)) (drop (p + l) f)) ≡ marks_in f k
unfolding marks_in
marks_cut f k p l s e h q = rw (packed_cut f k p l s e h q, h)

-- Where the room is enough each slice is.
pub room_enough : (f : List ℕ) (r : Room) → room_for f r ≡ true
    → (sum_to (length_in f) (track_count_in f) ≤ r.tracks) × (sum_to (length_in f) (track_count_in f) ≤ r.marks) × (track_count_in f ≤ r.lengths)
room_enough f r h = let a = (decides_room f r).pass h in (a.0, a.1.0, a.1.1)
