-- `write_later` meets its contract: what is written and what is left to write stay the same track.
use Prim.Native.Nat.{◌-◌}
use lib.ListN.{length}
use Rattle.encode.specs.Gap.{as_rule}
use Rattle.writer.proofs.Later.{Writing}
use Rattle.writer.proofs.correcting.write_later.Given as goal

abbrev pub invariant-loop-p : goal.invariant-loop-p
invariant-loop-p l = Writing (as_rule l.rule) l.track l.marks l.fn.p l.fn.at l.initial.out l.initial.out_marks l.p l.at l.out l.out_marks

abbrev pub decreases-loop-p : goal.decreases-loop-p
decreases-loop-p l = length l.track - l.p
