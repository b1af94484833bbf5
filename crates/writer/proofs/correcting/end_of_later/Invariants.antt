-- `end_of_later` meets its contract: the end with all sectors is the end with those from place p on.
use Prim.Native.Nat.{◌-◌}
use lib.ListN.{length}
use Rattle.encode.specs.Gap.{as_rule}
use Rattle.writer.proofs.Farthest.{Summing}
use Rattle.writer.proofs.correcting.end_of_later.Given as goal

abbrev pub invariant-loop-p : goal.invariant-loop-p
invariant-loop-p l = Summing (as_rule l.rule) l.track l.marks l.fn.p l.fn.end l.fn.gap l.p l.end l.gap

abbrev pub decreases-loop-p : goal.decreases-loop-p
decreases-loop-p l = length l.track - l.p
