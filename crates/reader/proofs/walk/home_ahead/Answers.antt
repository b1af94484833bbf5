-- `home_ahead` meets its contract: behind the last place of sector 0's count home plays no part.
use native.Mathlib.Omega.{arith}
use Rattle.format.specs.Answer.{home_missing}
use Rattle.format.specs.Lent.{cells}
use Rattle.reader.proofs.CandidatePlaces.{home_behind}
use Rattle.reader.proofs.walk.home_ahead.Goals as goal

pub returns-then-from-gt-LAST_FIRST_COUNT : goal.returns-then-from-gt-LAST_FIRST_COUNT
returns-then-from-gt-LAST_FIRST_COUNT c =
    let a = c.args in
    home_behind a.from (cells a.track.now a.marks.now) home_missing (omega arith)
