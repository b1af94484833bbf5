-- `names` meets its contract: cylinder, then head, cell by cell.
use mathlib.Core.Path.{sym}
use Rattle.format.specs.Lent.{cells}
use Rattle.sector.specs.As.{as_address, as_home}
use Rattle.reader.proofs.FindPair.{named_other, named_same}
use Rattle.reader.proofs.pair.names.Goals as goal

pub returns-then-a-cylinder : goal.returns-then-a-cylinder
returns-then-a-cylinder c =
    let a = c.args in
    let d = cells a.track.now a.marks.now in
    sym (named_other (as_home a.h) d (as_address a.a) _ _ c.cell_at.ensures.value c.cell_at-2.ensures.value c.if-a-cylinder.true)

pub returns : goal.returns
returns c =
    let a = c.args in
    let d = cells a.track.now a.marks.now in
    sym (named_same (as_home a.h) d (as_address a.a) _ _ c.cell_at.ensures.value c.cell_at-2.ensures.value _ _ c.if-a-cylinder.false c.cell_at-3.ensures.value c.cell_at-4.ensures.value)
