-- `search_from` meets its contract: the search of all sectors is the search of those from place p on.
use Prim.Native.Nat.{◌-◌}
use lib.ListN.{length}
use Rattle.sectors.proofs.Found.{Searching}
use Rattle.sectors.proofs.Passing.{Passed}
use Rattle.sectors.proofs.seeking.search_from.Given as goal

abbrev pub invariant-loop-x : goal.invariant-loop-x
invariant-loop-x l = Searching l.track l.marks l.start l.s l.p × Passed l.track l.marks l.start l.s l.p l.before l.count

abbrev pub decreases-loop-x : goal.decreases-loop-x
decreases-loop-x l = length l.track - l.p
