-- What reading finds in the file of a cylinder that is lent within the rule: its own tracks, marks and Ls.
use mathlib.Core.Path.{◌≡◌, refl, sym, ap, ◌∙◌}
use Prim.Native.Nat.{ℕ, ◌+◌, ◌*◌, ◌/◌, ◌%◌, ◌≤◌, ◌<◌}
use native.Mathlib.Omega.{arith}
use mathlib.Core.Bool.{true}
use mathlib.Core.List.{List, [], ◌++◌, append_assoc, append-nil}
use lib.ListN.{length, take, drop, get_or}
use lib.Seq.{take_at, drop_at, drop-drop}
use borrow.Author.Tests.{eq-eqb}
use Rattle.base.specs.Indexed.{sum_to, join_to}
use Rattle.base.proofs.Indexed.{sum_same, all_same, each_holds, join_part, join_same, list_is}
use Rattle.base.proofs.Tests.{and_make}
use Rattle.format.specs.Lent.{length_right}
use Rattle.cylinder.specs.Cylinder.{Cylinder, track_count, length_of, track_of, track_marks_of, track_count_right, lengths_right, cylinder_lent}
use Rattle.cylinder.specs.Packed.{packed_size, packed, unpacked, spare_clear}
use Rattle.cylinder.specs.File.{two_bytes, four_bytes, header_length, entry_length, table_end, stored_size, offset_of, header, entry, table, stored_track, stored_tracks, cylinder_file}
use Rattle.cylinder.specs.Reading.{two_bytes_at, four_bytes_at, track_count_in, zero_field, length_in, offset_in, offset_due, track_in, packed_in, marks_in, header_right, offsets_right, spares_clear, cylinder_in}
use Rattle.cylinder.proofs.Sound.{SoundFile}
use Rattle.cylinder.proofs.Sizes.{Lent, cylinder_lent_lem, length_header, length_entry, length_entries, length_front, length_part, length_stored, length_joined, length_file}
use Rattle.cylinder.proofs.Packed.{unpacked_packed, spare_packed}
use Rattle.cylinder.proofs.CylinderParts.{legal_part, cylinder_same, joined_tracks}
use Rattle.cylinder.proofs.Parts.{part_at_lem, part_first, part_second}

-- The two bytes of a number, read again.
two_read : (f : List ℕ) (p x : ℕ) → get_or f p 0 ≡ x / 256 → get_or f (p + 1) 0 ≡ x % 256 → two_bytes_at f p ≡ x
unfolding two_bytes_at
two_read f p x a b = omega arith

-- The four bytes of a number, read again.
four_read : (f : List ℕ) (p x : ℕ) → two_bytes_at f p ≡ x / 65536 → two_bytes_at f (p + 2) ≡ x % 65536 → four_bytes_at f p ≡ x
unfolding four_bytes_at
four_read f p x a b = omega arith

-- No track is due before the table's end.
offset_from : (n : ℕ) (l : ℕ → ℕ) (k : ℕ) → table_end n ≤ offset_of n l k
unfolding offset_of
offset_from n l k = omega arith

module _ (c : Cylinder) where
  -- Behind the header stands the table, then the tracks.
  behind_header : drop header_length (cylinder_file c) ≡ table c.lengths (track_count c) ++ stored_tracks c
  unfolding cylinder_file
  behind_header =
      ap (drop header_length) (append_assoc (header (track_count c)) (table c.lengths (track_count c)) (stored_tracks c))
      ∙ drop_at (header (track_count c)) (table c.lengths (track_count c) ++ stored_tracks c) header_length (length_header (track_count c))

  -- Behind the table stand the tracks.
  behind_table : drop (table_end (track_count c)) (cylinder_file c) ≡ stored_tracks c
  unfolding cylinder_file
  behind_table =
      drop_at (header (track_count c) ++ table c.lengths (track_count c)) (stored_tracks c) (table_end (track_count c))
      (length_front c)

  -- The header stands at the file's start.
  header_part : take header_length (cylinder_file c) ≡ header (track_count c)
  unfolding cylinder_file
  header_part =
      ap (take header_length) (append_assoc (header (track_count c)) (table c.lengths (track_count c)) (stored_tracks c))
      ∙ take_at (header (track_count c)) (table c.lengths (track_count c) ++ stored_tracks c) header_length (length_header (track_count c))

  -- The entry of track k stands behind those before it.
  entry_part : (k : ℕ) → k < track_count c → take entry_length (drop (table_end k) (cylinder_file c)) ≡ entry (track_count c) (length_of c.lengths) k
  unfolding table
  entry_part k h =
      let e : ℕ → List ℕ = entry (track_count c) (length_of c.lengths) in
      let j = join_part e (track_count c) k (stored_tracks c) h in
      ap (take entry_length) (sym (drop-drop (k * entry_length) header_length (cylinder_file c)) ∙ ap (drop (k * entry_length)) behind_header)
      ∙ (rw (length_entry (track_count c) (length_of c.lengths) k, length_entries (track_count c) (length_of c.lengths) k) at j)

  -- The number of tracks is read,
  pub count_read : track_count_in (cylinder_file c) ≡ track_count c
  unfolding track_count_in header two_bytes
  count_read =
      two_read (cylinder_file c) 0 (track_count c)
      (part_at_lem 0 4 (cylinder_file c) (header (track_count c)) 0 0 header_part refl (omega arith))
      (part_at_lem 0 4 (cylinder_file c) (header (track_count c)) 1 1 header_part refl (omega arith))

  -- and zero behind it,
  zero_read : zero_field (cylinder_file c) ≡ 0
  unfolding zero_field header two_bytes
  zero_read =
      two_read (cylinder_file c) 2 0
      (part_at_lem 0 4 (cylinder_file c) (header (track_count c)) 2 2 header_part refl (omega arith))
      (part_at_lem 0 4 (cylinder_file c) (header (track_count c)) 3 3 header_part refl (omega arith))

  -- and the L of each track,
  pub length_read : (k : ℕ) → k < track_count c → length_in (cylinder_file c) k ≡ length_of c.lengths k
  unfolding length_in entry two_bytes
  length_read k h =
      let f = cylinder_file c in
      let e = entry (track_count c) (length_of c.lengths) k in
      two_read f (table_end k) (length_of c.lengths k)
      (part_at_lem (table_end k) 6 f e (table_end k) 0 (entry_part k h) (omega arith) (omega arith))
      (part_at_lem (table_end k) 6 f e (table_end k + 1) 1 (entry_part k h) (omega arith) (omega arith))

  -- and its offset.
  offset_read : (k : ℕ) → k < track_count c → offset_in (cylinder_file c) k ≡ offset_of (track_count c) (length_of c.lengths) k
  unfolding offset_in entry two_bytes four_bytes
  offset_read k h =
      let f = cylinder_file c in
      let e = entry (track_count c) (length_of c.lengths) k in
      let x = offset_of (track_count c) (length_of c.lengths) k in
      four_read f (table_end k + 2) x
      (two_read f (table_end k + 2) (x / 65536)
      (part_at_lem (table_end k) 6 f e (table_end k + 2) 2 (entry_part k h) (omega arith) (omega arith) ∙ omega arith)
      (part_at_lem (table_end k) 6 f e (table_end k + 2 + 1) 3 (entry_part k h) (omega arith) (omega arith)))
      (two_read f (table_end k + 2 + 2) (x % 65536)
      (part_at_lem (table_end k) 6 f e (table_end k + 2 + 2) 4 (entry_part k h) (omega arith) (omega arith) ∙ omega arith)
      (part_at_lem (table_end k) 6 f e (table_end k + 2 + 2 + 1) 5 (entry_part k h) (omega arith) (omega arith) ∙ omega arith))

  -- Each track is due where it stands.
  due_read : (k : ℕ) → k ≤ track_count c → offset_due (cylinder_file c) k ≡ offset_of (track_count c) (length_of c.lengths) k
  unfolding offset_due offset_of
  due_read k h =
      let s = sum_same (λ j. stored_size (length_in (cylinder_file c) j)) (λ j. stored_size (length_of c.lengths j)) k (λ j l. ap stored_size (length_read j (omega arith))) in
      omega (arith, count_read, s)

module _ (c : Cylinder) (lent : Lent c) where
  -- Track k stands behind the table and the tracks before it.
  stored_part : (k : ℕ) → k < track_count c
      → take (stored_size (length_of c.lengths k)) (drop (offset_of (track_count c) (length_of c.lengths) k) (cylinder_file c)) ≡ track_of c k ++ packed (track_marks_of c k)
  unfolding stored_tracks stored_track offset_of
  stored_part k h =
      let n : ℕ = track_count c in
      let p : ℕ = sum_to (λ j. stored_size (length_of c.lengths j)) k in
      let j = join_part (stored_track c) n k [] h in
      ap (take (stored_size (length_of c.lengths k))) (sym (drop-drop p (table_end n) (cylinder_file c)) ∙ ap (drop p) (behind_table c ∙ sym (append-nil (join_to (stored_track c) n))))
      ∙ (rw (length_stored c lent k h, length_joined c lent k (omega arith)) at j)

  -- The bytes of each track are read and those of its marks,
  stored_read : (k : ℕ) → k < track_count c → (track_in (cylinder_file c) k ≡ track_of c k) × (packed_in (cylinder_file c) k ≡ packed (track_marks_of c k))
  unfolding track_in packed_in
  stored_read k h =
      let l : ℕ = length_of c.lengths k in
      let p : ℕ = offset_of (track_count c) (length_of c.lengths) k in
      let e = length_part c.lengths c.tracks k (track_count c) lent.tracks_long h in
      rw (length_read c k h, due_read c k (omega arith)) (
        part_first p l (packed_size l) (cylinder_file c) (track_of c k) (packed (track_marks_of c k)) e (stored_part k h),
        part_second p l (packed_size l) (cylinder_file c) (track_of c k) (packed (track_marks_of c k)) e (stored_part k h),
      )

  -- and the marks themselves.
  marks_read : (k : ℕ) → k < track_count c → marks_in (cylinder_file c) k ≡ track_marks_of c k
  unfolding marks_in
  marks_read k h =
      let e = length_part c.lengths c.marks k (track_count c) lent.marks_long h in
      rw (length_read c k h, (stored_read k h).1)
      (ap (λ (z : ℕ). unpacked z (packed (track_marks_of c k))) (sym e)
      ∙ unpacked_packed (track_marks_of c k) (legal_part c.lengths c.marks k lent.marks_legal_holds))

  -- The spare bits of each track are clear.
  spare_read : (k : ℕ) → k < track_count c → spare_clear (length_in (cylinder_file c) k) (packed_in (cylinder_file c) k) ≡ true
  spare_read k h =
      let e = length_part c.lengths c.marks k (track_count c) lent.marks_long h in
      rw (length_read c k h, (stored_read k h).1, ← e) (spare_packed (track_marks_of c k))

  -- The file of one to ten tracks is sound.
  pub file_read : track_count_right (track_count c) ≡ true → SoundFile (cylinder_file c)
  unfolding header_right lengths_right offsets_right spares_clear
  file_read e =
      let n : ℕ = track_count c in
      let f : List ℕ = cylinder_file c in
      let due : length f ≡ offset_due f n = length_file c lent ∙ sym (due_read c n (omega arith)) in
      let long : table_end n ≤ length f = omega (arith, length_file c lent, offset_from n (length_of c.lengths) n) in
      record {
        header_there = omega arith;
        header_right_holds = and_make (ap track_count_right (count_read c) ∙ e) (eq-eqb _ _ (zero_read c));
        table_there = omega (arith, count_read c);
        lengths_right_holds = rw (count_read c) (all_same _ _ n (λ k h. ap length_right (length_read c k h)) ∙ lent.lengths_right_holds);
        offsets_right_holds = rw (count_read c) (each_holds _ n (λ k h. eq-eqb _ _ (offset_read c k h ∙ sym (due_read c k (omega arith)))));
        length_due = rw (count_read c) due;
        spares_clear_holds = rw (count_read c) (each_holds _ n spare_read);
      }

-- The cylinder in the file is the one that was written.
pub cylinder_read_lem : (c : Cylinder) → cylinder_lent c ≡ true → cylinder_in (cylinder_file c) ≡ c
cylinder_read_lem c e =
    let lent = cylinder_lent_lem c e in
    let j = joined_tracks c e in
    rw (count_read c)
    (cylinder_same
    (join_same (track_in (cylinder_file c)) (track_of c) (track_count c) (λ k h. (stored_read c lent k h).0) ∙ j.0)
    (join_same (marks_in (cylinder_file c)) (track_marks_of c) (track_count c) (marks_read c lent) ∙ j.1)
    (list_is (length_in (cylinder_file c)) c.lengths (track_count c) 0 refl (length_read c)))
