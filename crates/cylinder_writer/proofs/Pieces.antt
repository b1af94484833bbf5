-- Where the pieces of a lent cylinder lie.
use Rattle.std.proofs.Common.{◌≡◌, ℕ, ◌+◌, ◌≤◌, ◌<◌, true, List, length, arith}
use Rattle.base.specs.Indexed.{sum_to}
use Rattle.cylinder.specs.Cylinder.{length_of, start_of, cylinder_lent}
use Rattle.cylinder.specs.File.{stored_size, offset_of, stored_tracks, cylinder_file}
use Rattle.cylinder.proofs.Sizes.{cylinder_lent_lem, track_inside, stored_inside, length_file}
use Rattle.cylinder_writer.specs.Writing.{lent}

-- A track lies within the lent slices, and what it takes in the file within out.
pub track_fits : (t m ls out : List ℕ) (i : ℕ) → cylinder_lent (lent t m ls) ≡ true → length (stored_tracks (lent t m ls)) ≤ length out → i < length ls
    → (start_of ls i + length_of ls i ≤ length t)
    × (start_of ls i + length_of ls i ≤ length m)
    × (sum_to (λ j. stored_size (length_of ls j)) i + stored_size (length_of ls i) ≤ length out)
track_fits t m ls out i e h k =
    let r = cylinder_lent_lem (lent t m ls) e in
    let n = track_inside (lent t m ls) r i k in
    (n.0, n.1, omega (arith, stored_inside (lent t m ls) r i k))

-- The file of a cylinder that is lent within the rule has the length at which one more track would start.
pub size_is : (t m ls : List ℕ) → cylinder_lent (lent t m ls) ≡ true → length (cylinder_file (lent t m ls)) ≡ offset_of (length ls) (length_of ls) (length ls)
size_is t m ls e = length_file (lent t m ls) (cylinder_lent_lem (lent t m ls) e)
