-- The lengths of the file of a cylinder and of its parts.
use mathlib.Core.Path.{◌≡◌, refl, ap, ◌∙◌}
use Prim.Native.Nat.{ℕ, ◌+◌, ◌*◌, ◌≤◌, ◌<◌}
use native.Mathlib.Omega.{arith}
use mathlib.Core.Bool.{true}
use mathlib.Core.List.{List, ◌++◌}
use lib.ListN.{length, length-append}
use Rattle.base.specs.Indexed.{sum_to, join_to}
use Rattle.base.proofs.Lists.{part_length}
use Rattle.base.proofs.Indexed.{sum_within, sum_same, length_join, sum_const}
use Rattle.format.specs.Lent.{marks_legal}
use Rattle.cylinder.specs.Cylinder.{Cylinder, track_count, length_of, start_of, part_of, track_of, track_marks_of, lengths_right, cylinder_lent}
use Rattle.cylinder.specs.Packed.{packed}
use Rattle.cylinder.specs.File.{two_bytes, four_bytes, header_length, entry_length, table_end, stored_size, offset_of, header, entry, table, stored_track, stored_tracks, cylinder_file}
use Rattle.cylinder.proofs.Decides.{decides_lengths, decides_marks, decides_lent}
use Rattle.cylinder.proofs.Packed.{length_packed}

-- The header has four bytes.
pub length_header : (n : ℕ) → length (header n) ≡ header_length
unfolding header two_bytes
length_header n = refl

-- An entry of the table has six bytes.
pub length_entry : (n : ℕ) (l : ℕ → ℕ) (k : ℕ) → length (entry n l k) ≡ entry_length
unfolding entry two_bytes four_bytes
length_entry n l k = refl

-- The first k entries of a table have k times six bytes,
pub length_entries : (n : ℕ) (l : ℕ → ℕ) (k : ℕ) → length (join_to (entry n l) k) ≡ k * entry_length
length_entries n l k = length_join (entry n l) k ∙ sum_same (λ j. length (entry n l j)) (λ j. entry_length) k (λ j h. length_entry n l j) ∙ sum_const entry_length k

-- and the whole table n times six.
length_table : (ls : List ℕ) (n : ℕ) → length (table ls n) ≡ n * entry_length
unfolding table
length_table ls n = length_entries n (length_of ls) n

-- What stands before the tracks ends where the table does.
pub length_front : (c : Cylinder) → length (header (track_count c) ++ table c.lengths (track_count c)) ≡ table_end (track_count c)
length_front c =
    length-append (header (track_count c)) (table c.lengths (track_count c)) ∙ omega (arith, length_header (track_count c), length_table c.lengths (track_count c))

-- The file is as long as that and all tracks in it.
pub length_parts : (c : Cylinder) → length (cylinder_file c) ≡ table_end (track_count c) + length (stored_tracks c)
unfolding cylinder_file
length_parts c =
    length-append (header (track_count c) ++ table c.lengths (track_count c)) (stored_tracks c) ∙ ap (λ (n : ℕ). n + length (stored_tracks c)) (length_front c)

-- What a cylinder that is lent within the rule keeps.
pub record Lent (c : Cylinder) : Type 0 where
  pub lengths_right_holds : lengths_right (length_of c.lengths) (track_count c) ≡ true
  pub tracks_long : length c.tracks ≡ start_of c.lengths (track_count c)
  pub marks_long : length c.marks ≡ start_of c.lengths (track_count c)
  pub marks_legal_holds : marks_legal c.marks ≡ true

-- A cylinder that is lent within the rule keeps these four.
pub cylinder_lent_lem : (c : Cylinder) → cylinder_lent c ≡ true → Lent c
cylinder_lent_lem c e =
    let a = (decides_lent c).pass e in
    record {
      lengths_right_holds = (decides_lengths (length_of c.lengths) (track_count c)).passed a.0;
      tracks_long = a.1.0;
      marks_long = a.1.1.0;
      marks_legal_holds = (decides_marks c.marks).passed a.1.1.1;
    }

-- The part of a slice that belongs to a track has its L.
pub length_part : (ls xs : List ℕ) (k n : ℕ) → length xs ≡ start_of ls n → k < n → length (part_of ls xs k) ≡ length_of ls k
unfolding part_of
length_part ls xs k n e h =
    part_length (start_of ls k) (length_of ls k) xs (omega (arith, sum_within (length_of ls) k n h))

module _ (c : Cylinder) (lent : Lent c) where
  -- A track in the file has its bytes and its packed marks.
  pub length_stored : (k : ℕ) → k < track_count c → length (stored_track c k) ≡ stored_size (length_of c.lengths k)
  unfolding stored_track
  length_stored k h =
      let t = length_part c.lengths c.tracks k (track_count c) lent.tracks_long h in
      let m = length_part c.lengths c.marks k (track_count c) lent.marks_long h in
      length-append (track_of c k) (packed (track_marks_of c k)) ∙ rw (length_packed (track_marks_of c k), t, m)

  -- The first k of them have theirs,
  pub length_joined : (k : ℕ) → k ≤ track_count c → length (join_to (stored_track c) k) ≡ sum_to (λ j. stored_size (length_of c.lengths j)) k
  length_joined k h = length_join (stored_track c) k ∙ sum_same _ _ k (λ j l. length_stored j (omega arith))

  -- and the file has the length at which one more track would start.
  pub length_file : length (cylinder_file c) ≡ offset_of (track_count c) (length_of c.lengths) (track_count c)
  unfolding stored_tracks offset_of
  length_file = length_parts c ∙ ap (λ (n : ℕ). table_end (track_count c) + n) (length_joined (track_count c) (omega arith))

  -- A track and its marks lie within the slices,
  pub track_inside : (k : ℕ) → k < track_count c
      → (start_of c.lengths k + length_of c.lengths k ≤ length c.tracks) × (start_of c.lengths k + length_of c.lengths k ≤ length c.marks)
  track_inside k h =
      let w = sum_within (length_of c.lengths) k (track_count c) h in
      (omega (arith, lent.tracks_long), omega (arith, lent.marks_long))

  -- and what it takes in the file within all that the tracks take.
  pub stored_inside : (k : ℕ) → k < track_count c
      → sum_to (λ j. stored_size (length_of c.lengths j)) k + stored_size (length_of c.lengths k) ≤ length (stored_tracks c)
  unfolding stored_tracks
  stored_inside k h = omega (arith, sum_within (λ j. stored_size (length_of c.lengths j)) k (track_count c) h, length_joined (track_count c) (omega arith))
