-- `find` meets its contract: the part that was found, or nothing.
use mathlib.Core.Path.{refl}
use Rattle.format.specs.Find.{part_of}
use Rattle.reader.proofs.CandidateParts.{part_is}
use Rattle.reader.proofs.finding.find.Goals as goal

pub returns-in-Ok : goal.returns-in-Ok
unfolding part_of
returns-in-Ok c =
    let x = c.in-Ok.x in
    rw (← c.in-Ok.ensures.result_value) (part_is c.args.track.now x.size x.start x.start refl)
