-- The cylinder that a sound file holds: it is lent within the rule, and its file is the same file.
use mathlib.Core.Path.{◌≡◌, sym, ap, ap₂, ◌∙◌}
use mathlib.Core.Logic.{◌↔◌}
use Prim.Native.Nat.{ℕ, suc, ◌+◌, ◌*◌, ◌/◌, ◌%◌, ◌≤◌, ◌<◌}
use native.Mathlib.Omega.{arith}
use native.Mathlib.Numerals.{add-one}
use mathlib.Core.Bool.{true}
use mathlib.Core.List.{List, [], ◌∷◌, ◌++◌}
use lib.ListN.{length, take, drop, get_or, take-append-drop, length-drop}
use lib.Seq.{take_all, take-add, drop-drop, drop-cons}
use Rattle.base.specs.Indexed.{sum_to, join_to}
use Rattle.base.proofs.Indexed.{sum_same, sum_const, all_holds, join_same, join_cut, length_list}
use Rattle.base.proofs.Lists.{part_length}
use Rattle.crc.specs.Halves.{AllBytes}
use Rattle.crc.proofs.Bytes.{all_bytes, byte_at}
use Rattle.format.specs.Lent.{length_right}
use Rattle.cylinder.specs.Cylinder.{track_count, length_of, track_of, track_marks_of, track_count_right, lengths_right, cylinder_lent}
use Rattle.cylinder.specs.Packed.{packed_size, packed, spare_clear}
use Rattle.cylinder.specs.File.{two_bytes, four_bytes, header_length, entry_length, table_end, stored_size, offset_of, header, entry, table, stored_track, stored_tracks, cylinder_file}
use Rattle.cylinder.specs.Reading.{two_bytes_at, four_bytes_at, track_count_in, zero_field, length_in, offset_in, offset_due, track_in, packed_in, marks_in, spares_clear, cylinder_in, Room, Takes, room_for}
use Rattle.cylinder.proofs.Decides.{decides_count, decides_header, decides_offsets, decides_room}
use Rattle.cylinder.proofs.Sound.{SoundFile, header_count, piece_within}
use Rattle.cylinder.proofs.Packed.{length_unpacked, packed_unpacked, unpacked_legal}
use Rattle.cylinder.proofs.Parts.{part_keeps, part_joined}
use Rattle.cylinder.proofs.CylinderParts.{listed_length, length_listed, part_listed, listed_lent}

-- Two bytes that are read and written are the same bytes.
two_back : (f : List ℕ) (p : ℕ) → AllBytes f → p + 2 ≤ length f → two_bytes (two_bytes_at f p) ≡ take 2 (drop p f)
unfolding two_bytes two_bytes_at
two_back f p b h =
    let l : p < length f = omega arith in
    let m : suc p < length f = omega arith in
    let v = byte_at f b (suc p) m in
    rw (drop-cons f p 0 l, drop-cons f (suc p) 0 m, add-one p) (pair_back (get_or f p 0) (get_or f (suc p) 0) v)
  where
    pair_back : (x y : ℕ) → y < 256 → ◌≡◌ {A = List ℕ} ((x * 256 + y) / 256 ∷ (x * 256 + y) % 256 ∷ []) (x ∷ y ∷ [])
    pair_back x y h = ap₂ (λ (a b : ℕ). a ∷ b ∷ []) (omega arith) (omega arith)

-- The four bytes of a number are the two of its upper half and the two of its lower half.
halves_back : (x y : ℕ) → y < 65536 → four_bytes (x * 65536 + y) ≡ two_bytes x ++ two_bytes y
unfolding two_bytes four_bytes
halves_back x y h =
    let a : (x * 65536 + y) / 16777216 ≡ x / 256 = omega arith in
    let b : (x * 65536 + y) / 65536 % 256 ≡ x % 256 = omega arith in
    let c : (x * 65536 + y) / 256 % 256 ≡ y / 256 = omega arith in
    let d : (x * 65536 + y) % 256 ≡ y % 256 = omega arith in
    rw (a, b, c, d)

-- Four bytes that are read and written are the same bytes.
four_back : (f : List ℕ) (p : ℕ) → AllBytes f → p + 4 ≤ length f → four_bytes (four_bytes_at f p) ≡ take 4 (drop p f)
unfolding four_bytes_at two_bytes_at
four_back f p b h =
    let u = byte_at f b (p + 2) (omega arith) in
    let v = byte_at f b (p + 2 + 1) (omega arith) in
    halves_back (two_bytes_at f p) (two_bytes_at f (p + 2)) (omega arith)
    ∙ ap₂ (λ (x y : List ℕ). x ++ y) (two_back f p b (omega arith)) (two_back f (p + 2) b (omega arith))
    ∙ sym (part_joined p 2 2 f)

-- The marks of each track in a file are as many as its L says.
pub length_marks : (f : List ℕ) (k : ℕ) → length (marks_in f k) ≡ length_in f k
unfolding marks_in
length_marks f k = length_unpacked (length_in f k) (packed_in f k)

module _ (f : List ℕ) (s : SoundFile f) where
  -- The bytes of each track of a sound file are as many too.
  pub length_track : (k : ℕ) → k < track_count_in f → length (track_in f k) ≡ length_in f k
  unfolding track_in
  length_track k h = part_length (offset_due f k) (length_in f k) f (omega (arith, piece_within f s k h))

  -- The cylinder has as many tracks as the file names,
  pub held_count : track_count (cylinder_in f) ≡ track_count_in f
  held_count = length_list (length_in f) (track_count_in f)

  -- of the same Ls.
  held_length : (k : ℕ) → k < track_count_in f → length_of (cylinder_in f).lengths k ≡ length_in f k
  held_length k h = listed_length (track_count_in f) (length_in f) k h

  -- Each track of the cylinder is the one in the file, and so are its marks.
  pub track_held : (k : ℕ) → k < track_count_in f → (track_of (cylinder_in f) k ≡ track_in f k) × (track_marks_of (cylinder_in f) k ≡ marks_in f k)
  track_held k h =
      let n : ℕ = track_count_in f in
      (part_listed n (length_in f) (track_in f) length_track k h, part_listed n (length_in f) (marks_in f) (λ j l. length_marks f j) k h)

  -- The test of what is lent for writing holds exactly where that takes the whole cylinder.
  pub room_takes : (r : Room) → (room_for f r ≡ true) ↔ Takes r (cylinder_in f)
  room_takes r =
      let n : ℕ = track_count_in f in
      let t : length (cylinder_in f).tracks ≡ sum_to (length_in f) n = length_listed n (length_in f) (track_in f) length_track n (omega arith) in
      let m : length (cylinder_in f).marks ≡ sum_to (length_in f) n = length_listed n (length_in f) (marks_in f) (λ k h. length_marks f k) n (omega arith) in (
        λ e. let a = (decides_room f r).pass e in (omega (arith, a.0), omega (arith, a.1.0), omega (arith, a.1.1, held_count)),
        λ h. (decides_room f r).passed (omega (arith, h.0), (omega (arith, h.1), omega (arith, h.2, held_count))),
      )

  -- The cylinder is lent within the rule.
  pub lent_held : cylinder_lent (cylinder_in f) ≡ true
  unfolding lengths_right marks_in
  lent_held =
      let n : ℕ = track_count_in f in
      listed_lent n (length_in f) (track_in f) (marks_in f)
      (λ k h. all_holds (λ j. length_right (length_in f j)) n k s.lengths_right_holds h)
      length_track
      (λ k h. length_marks f k)
      (λ k h. unpacked_legal (length_in f k) (packed_in f k))

  -- Its tracks are as many as the rule allows.
  pub count_held : track_count_right (track_count (cylinder_in f)) ≡ true
  count_held = ap track_count_right held_count ∙ (decides_count (track_count_in f)).passed (header_count f s.header_right_holds)

  module _ (bytes : AllBytes f) where
    -- Its header is that of the file.
    header_back : header (track_count_in f) ≡ take header_length f
    unfolding header track_count_in zero_field two_bytes
    header_back =
        let z = ((decides_header f).pass s.header_right_holds).1 in
        let h = s.header_there in
        ap₂ (λ (x y : List ℕ). x ++ y) (two_back f 0 bytes (omega arith)) (ap two_bytes (sym z) ∙ two_back f 2 bytes (omega arith))
        ∙ sym (part_joined 0 2 2 f)

    -- The offset of each track is the one in the file.
    offset_held : (k : ℕ) → k < track_count_in f → offset_of (track_count_in f) (length_of (cylinder_in f).lengths) k ≡ offset_in f k
    unfolding offset_of offset_due
    offset_held k h =
        let o = (decides_offsets f).pass s.offsets_right_holds k h in
        let t = sum_same (λ j. stored_size (length_of (cylinder_in f).lengths j)) (λ j. stored_size (length_in f j)) k (λ j l. ap stored_size (held_length j (omega arith))) in
        omega (arith, o, t)

    -- Each entry of its table is the one in the file,
    entry_back : (k : ℕ) → k < track_count_in f → entry (track_count_in f) (length_of (cylinder_in f).lengths) k ≡ take entry_length (drop (table_end k) f)
    unfolding entry length_in offset_in
    entry_back k h =
        let t = s.table_there in
        ap₂ (λ (x y : List ℕ). x ++ y)
        (ap two_bytes (held_length k h) ∙ two_back f (table_end k) bytes (omega arith))
        (ap four_bytes (offset_held k h) ∙ four_back f (table_end k + 2) bytes (omega arith))
        ∙ sym (part_joined (table_end k) 2 4 f)

    -- and so the table is.
    table_back : join_to (entry (track_count_in f) (length_of (cylinder_in f).lengths)) (track_count_in f) ≡ take (track_count_in f * entry_length) (drop header_length f)
    table_back =
        let n : ℕ = track_count_in f in
        join_same _ (λ k. take entry_length (drop (sum_to (λ j. entry_length) k) (drop header_length f))) n
        (λ k h. entry_back k h ∙ ap (take entry_length) (sym (drop-drop (k * entry_length) header_length f) ∙ ap (λ (p : ℕ). drop p (drop header_length f)) (sym (sum_const entry_length k))))
        ∙ join_cut (λ j. entry_length) (drop header_length f) n
        ∙ ap (λ (p : ℕ). take p (drop header_length f)) (sum_const entry_length n)

    -- Each track is stored in the cylinder's file as it stands in the file that was read,
    stored_back : (k : ℕ) → k < track_count_in f → stored_track (cylinder_in f) k ≡ take (stored_size (length_in f k)) (drop (offset_due f k) f)
    unfolding stored_track marks_in track_in packed_in spares_clear
    stored_back k h =
        let l : ℕ = length_in f k in
        let p : ℕ = offset_due f k + l in
        let b : AllBytes (packed_in f k) = all_bytes (packed_in f k) (part_keeps (λ (z : ℕ). z < 256) p (packed_size l) f (byte_at f bytes)) in
        let e : length (packed_in f k) ≡ packed_size l = part_length p (packed_size l) f (omega (arith, piece_within f s k h)) in
        let c = all_holds (λ j. spare_clear (length_in f j) (packed_in f j)) (track_count_in f) k s.spares_clear_holds h in
        ap₂ (λ (x y : List ℕ). x ++ packed y) (track_held k h).0 (track_held k h).1
        ∙ ap (λ (x : List ℕ). track_in f k ++ x) (packed_unpacked l (packed_in f k) e b c)
        ∙ sym (part_joined (offset_due f k) l (packed_size l) f)

    -- and so are all of them.
    tracks_back : join_to (stored_track (cylinder_in f)) (track_count_in f) ≡ drop (table_end (track_count_in f)) f
    unfolding offset_due offset_of
    tracks_back =
        let n : ℕ = track_count_in f in
        let z : ℕ → ℕ = λ j. stored_size (length_in f j) in
        let r : List ℕ = drop (table_end n) f in
        join_same _ (λ k. take (z k) (drop (sum_to z k) r)) n (λ k h. stored_back k h ∙ ap (take (z k)) (sym (drop-drop (sum_to z k) (table_end n) f)))
        ∙ join_cut z r n
        ∙ take_all (sum_to z n) r (omega (arith, length-drop (table_end n) f, s.length_due))

    -- The file of the cylinder is the file.
    pub file_back : cylinder_file (cylinder_in f) ≡ f
    unfolding cylinder_file table stored_tracks
    file_back =
        let n : ℕ = track_count_in f in
        rw (held_count, header_back, table_back, tracks_back, ← (take-add header_length (n * entry_length) f)) (take-append-drop (table_end n) f)
