-- `cell_count` meets its contract.
use native.Mathlib.Omega.{arith}
use Rattle.format.proofs.Track.Pairs.{length_cells}
use Rattle.search.proofs.cell_count.Goals as goal

pub returns-clause-value : goal.returns-clause-value
returns-clause-value c =
    let a = c.args in
    let l = length_cells a.track.now a.marks.now in
    let m = c.min.ensures in
    omega arith
