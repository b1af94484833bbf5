-- `list`: the records that are stored, and then those of the sectors that are left, are those of all sectors.
use Rattle.std.proofs.Common.{◌≡◌, ◌-◌, ◌++◌, take}
use Rattle.format.specs.Lent.{cells}
use Rattle.listing.specs.Run.{run}
use Rattle.listing.proofs.Listed.{value, next}
use Rattle.listing.proofs.list.Given as goal

abbrev pub invariant-loop-record : goal.invariant-loop-record
invariant-loop-record l =
    take l.record-index l.record-items ++ run (value (cells l.track l.marks)) (next (cells l.track l.marks)) l.at (l.count - l.record-index)
    ≡ run (value (cells l.track l.marks)) (next (cells l.track l.marks)) l.first l.count
