-- The file of a cylinder of bytes consists of bytes.
use mathlib.Core.Path.{◌≡◌}
use Prim.Native.Nat.{ℕ, ◌≤◌, ◌<◌}
use native.Mathlib.Omega.{arith}
use mathlib.Core.Bool.{true}
use mathlib.Core.List.{◌++◌}
use Rattle.base.proofs.Indexed.{sum_most}
use Rattle.crc.specs.Halves.{AllBytes}
use Rattle.crc.proofs.Bytes.{all_bytes, byte_at}
use Rattle.format.specs.Layout.{longest_track}
use Rattle.cylinder.specs.Cylinder.{Cylinder, track_count, length_of, start_of, part_of, track_of, track_marks_of, track_count_right, cylinder_lent}
use Rattle.cylinder.specs.Packed.{packed}
use Rattle.cylinder.specs.File.{two_bytes, four_bytes, stored_size, offset_of, header, entry, table, stored_track, stored_tracks, cylinder_file}
use Rattle.cylinder.proofs.Sizes.{cylinder_lent_lem}
use Rattle.cylinder.proofs.Decides.{decides_count, decides_lengths}
use Rattle.cylinder.proofs.Packed.{packed_bytes}
use Rattle.cylinder.proofs.Parts.{Each, append_keeps, join_keeps, part_keeps}

-- A number is a byte.
abbrev Byte : ℕ → Type 0
Byte x = x < 256

-- The two bytes of a number below 65,536 are bytes,
two_bytes_lem : (x : ℕ) → x < 65536 → Each Byte (two_bytes x)
unfolding two_bytes AllBytes
two_bytes_lem x h = byte_at (two_bytes x) (omega arith, (omega arith, tt))

-- and so are the four of a number below 4,294,967,296.
four_bytes_lem : (x : ℕ) → x < 4294967296 → Each Byte (four_bytes x)
unfolding four_bytes AllBytes
four_bytes_lem x h = byte_at (four_bytes x) (omega arith, (omega arith, (omega arith, (omega arith, tt))))

-- So are those of the header of at most ten tracks.
header_bytes : (n : ℕ) → n ≤ 10 → Each Byte (header n)
unfolding header two_bytes AllBytes
header_bytes n h = byte_at (header n) (omega arith, (omega arith, (omega arith, (omega arith, tt))))

-- No track of at most ten is due where an offset does not take four bytes.
offset_small : (n : ℕ) (l : ℕ → ℕ) (k : ℕ) → n ≤ 10 → k < n → ((j : ℕ) → j < n → l j ≤ longest_track) → offset_of n l k < 4294967296
unfolding offset_of
offset_small n l k h g m = omega (arith, sum_most (λ j. stored_size (l j)) k 4503 (λ j p. omega (arith, m j (omega arith))))

-- The file of a cylinder of one to ten tracks that is lent within the rule consists of bytes where its tracks do.
pub file_bytes_lem : (c : Cylinder) → track_count_right (track_count c) ≡ true → cylinder_lent c ≡ true → AllBytes c.tracks → AllBytes (cylinder_file c)
unfolding cylinder_file table entry stored_tracks stored_track part_of
file_bytes_lem c r e b =
    let n : ℕ = track_count c in
    let l : ℕ → ℕ = length_of c.lengths in
    let t = (decides_count n).pass r in
    let most : (k : ℕ) → k < n → l k ≤ longest_track = λ k h. ((decides_lengths l n).pass (cylinder_lent_lem c e).lengths_right_holds k h).1 in
    let entries = join_keeps Byte (entry n l) n (λ k h.
    append_keeps Byte (two_bytes (l k)) _ (two_bytes_lem (l k) (omega (arith, most k h))) (four_bytes_lem (offset_of n l k) (offset_small n l k t.1 h most))) in
    let tracks = join_keeps Byte (stored_track c) n (λ k h.
    append_keeps Byte (track_of c k) _ (part_keeps Byte (start_of c.lengths k) (l k) c.tracks (byte_at c.tracks b)) (byte_at (packed (track_marks_of c k)) (packed_bytes (track_marks_of c k)))) in
    all_bytes (cylinder_file c) (append_keeps Byte (header n ++ table c.lengths n) _ (append_keeps Byte (header n) _ (header_bytes n t.1) entries) tracks)
