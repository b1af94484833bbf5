-- `sector_count` meets its contract. The loop's invariant: the sectors from the place that is come to on are left to count.
use Prim.Native.Nat.{◌-◌}
use lib.ListN.{length}
use Rattle.sectors.proofs.Counted.{Counting}
use Rattle.sectors.proofs.counting.sector_count.Given as goal

abbrev pub invariant-loop-p : goal.invariant-loop-p
invariant-loop-p l = Counting l.track l.marks l.start l.p l.n

abbrev pub decreases-loop-p : goal.decreases-loop-p
decreases-loop-p l = length l.track - l.p
