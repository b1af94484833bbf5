-- What reading and writing the file of a cylinder give is bounded: ten tracks, and 45,094 bytes.
use mathlib.Core.Path.{◌≡◌, refl}
use Prim.Native.Nat.{ℕ, ◌≤◌}
use native.Mathlib.Omega.{arith}
use mathlib.Core.Bool.{true}
use mathlib.Core.List.{List}
use lib.ListN.{length}
use lib.Dec.{leb}
use Rattle.base.proofs.Indexed.{sum_most}
use Rattle.format.specs.Answer.{lent_wrong, header_wrong, buffer_too_short}
use Rattle.format.specs.Judged.{Judged, good, refused}
use Rattle.format.proofs.Base.Judged.{good_inj, require_good}
use Rattle.cylinder.specs.Cylinder.{Cylinder, track_count, length_of, track_count_right, cylinder_lent}
use Rattle.cylinder.specs.File.{stored_size, offset_of, cylinder_file}
use Rattle.cylinder.specs.Writing.{write_cylinder, file_bytes}
use Rattle.cylinder.specs.Reading.{Room, read_cylinder, cylinder_read}
use Rattle.cylinder.proofs.Sizes.{cylinder_lent_lem, length_file}
use Rattle.cylinder.proofs.Decides.{decides_count, decides_lengths}
use Rattle.cylinder.proofs.RoundTrip.{read_lent}

-- A cylinder that is read has ten tracks at most.
pub read_most : (f : List ℕ) (r : Room) → track_count (cylinder_read (read_cylinder f r)) ≤ 10
read_most f r = go (read_cylinder f r) refl
  where
    go : (j : Judged Cylinder) → read_cylinder f r ≡ j → track_count (cylinder_read j) ≤ 10
    go (good c) e = ((decides_count (track_count c)).pass (read_lent f r c e).0).1
    go (refused a) e = omega arith

-- The file of a cylinder that is lent within the rule has 45,094 bytes at most,
file_most : (c : Cylinder) → track_count_right (track_count c) ≡ true → cylinder_lent c ≡ true → length (cylinder_file c) ≤ 45094
unfolding offset_of
file_most c e d =
    let r = cylinder_lent_lem c d in
    let n = track_count c in
    let l = length_of c.lengths in
    let m = sum_most (λ j. stored_size (l j)) n 4503 (λ k h. omega (arith, ((decides_lengths l n).pass r.lengths_right_holds k h).1)) in
    omega (arith, length_file c r, m, ((decides_count n).pass e).1)

-- and no other is written.
pub write_most : (c : Cylinder) (room : ℕ) → length (file_bytes (write_cylinder c room)) ≤ 45094
unfolding write_cylinder
write_most c room = go (write_cylinder c room) refl
  where
    go : (j : Judged (List ℕ)) → write_cylinder c room ≡ j → length (file_bytes j) ≤ 45094
    go (good f) e =
        let a = require_good (track_count_right (track_count c)) header_wrong _ f e in
        let b = require_good (cylinder_lent c) lent_wrong _ f a.1 in
        let d = require_good (leb (length (cylinder_file c)) room) buffer_too_short (good (cylinder_file c)) f b.1 in
        rw (← good_inj (cylinder_file c) f d.1) (file_most c a.0 b.0)
    go (refused a) e = omega arith
