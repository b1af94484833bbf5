-- The bytes of a lent track as cells.
use mathlib.Core.Path.{◌≡◌}
use Prim.Native.Nat.{ℕ, ◌+◌, ◌≤◌, ◌<◌}
use native.Mathlib.Omega.{arith}
use mathlib.Core.List.{List}
use lib.ListN.{length, get_or, take, drop, length-take, length-drop}
use Rattle.format.specs.Lent.{cells, bytes_of}
use Rattle.format.proofs.Cells.Opening.{unmarked_take, unmarked_drop, unmarked_below}
use Rattle.format.proofs.Track.Pairs.{bytes_cells, length_cells, drop_cells, take_cells}

-- The bytes of k cells from place n on are those of the track.
pub taken_bytes : (t m : List ℕ) (n k : ℕ) → ((i : ℕ) → get_or t i 0 < 256) → n + k ≤ length (cells t m) → bytes_of (take k (drop n (cells t m))) ≡ take k (drop n t)
taken_bytes t m n k b h =
    let l = length_cells t m in
    rw (drop_cells n t m, take_cells k (drop n t) (drop n m))
    (bytes_cells (take k (drop n t)) (take k (drop n m))
    (omega (arith, length-take k (drop n t), length-take k (drop n m), length-drop n t, length-drop n m))
    (unmarked_take k (drop n t) (unmarked_drop n t (unmarked_below t b))))
