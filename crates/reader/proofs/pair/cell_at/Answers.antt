-- `cell_at` meets its contract: a cell is its byte and its mark.
use mathlib.Core.Path.{sym}
use native.Mathlib.Omega.{arith}
use Rattle.search.proofs.Cells.{get_d_cells}
use Rattle.reader.proofs.pair.cell_at.Goals as goal

pub returns-then-i-cell_count-clause-value : goal.returns-then-i-cell_count-clause-value
returns-then-i-cell_count-clause-value c =
    let a = c.args in
    sym (get_d_cells a.track.now a.marks.now a.i (omega arith))
