-- `spare_clear` meets its contract: at each turn no bit passed is set.
use Rattle.std.proofs.Common.{◌≡◌, ℕ, ◌/◌, ◌<◌, ◌≤◌, get_or}
use Rattle.cylinder.specs.Packed.{bit_of}
use Rattle.cylinder_reader.proofs.unpacking.spare_clear.Given as goal

-- What holds at each turn: no spare bit of the last byte before bit k is set.
abbrev pub invariant-loop-k : goal.invariant-loop-k
invariant-loop-k l = (j : ℕ) → l.used ≤ j → j < l.k → bit_of (get_or l.bytes (l.l / 8) 0) j ≡ 0
