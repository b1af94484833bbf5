-- `pair_find` meets its contract: the part of the track that it was found on, or nothing.
use mathlib.Core.Path.{refl}
use Rattle.format.specs.Find.{part_of}
use Rattle.reader.proofs.CandidateParts.{part_is}
use Rattle.reader.proofs.pair.pair_find.Goals as goal
use Rattle.reader.proofs.pair.pair_find.Goals.{then-found, else-found}

pub returns-in-Ok : goal.returns-in-Ok
unfolding part_of
returns-in-Ok c =
    let x = c.in-Ok.x in
    let e = c.pair_find_part-found.ensures.result_value in
    elim c.if-found.branch [
      | then-found w ↦ rw (w.lent-is, ← e, c.in-Ok.is, w.if-found.true) (part_is c.args.second.now x.size x.start x.start refl)
      | else-found w ↦ rw (w.lent-is, ← e, c.in-Ok.is, w.if-found.false) (part_is c.args.track.now x.size x.start x.start refl)
    ]
