-- `search_start` meets its contract: no opening starts within another.
use mathlib.Core.Path.{sym, ◌∙◌}
use native.Mathlib.Omega.{arith}
use Prim.Native.Nat.{◌-◌}
use lib.ListN.{drop, length-drop}
use Rattle.format.specs.Lent.{cells}
use Rattle.format.proofs.Cells.Opening.{length_opens}
use Rattle.format.proofs.Track.Pairs.{length_cells}
use Rattle.reader.proofs.CandidateBehind.{past_opening_absent}
use Rattle.reader.proofs.walk.search_start.Goals as goal

pub overflow_add-result : goal.overflow_add-result
overflow_add-result c =
    let a = c.args in
    let d = cells a.track.now a.marks.now in
    let o = sym c.opens_marked.ensures ∙ c.if-opens_marked.true in
    omega (arith, length_opens (drop (a.from - 1) d) o, length-drop (a.from - 1) d, length_cells a.track.now a.marks.now)

pub returns-then-opens_marked : goal.returns-then-opens_marked
returns-then-opens_marked c =
    let a = c.args in
    let d = cells a.track.now a.marks.now in
    past_opening_absent a.home a.from d (sym c.is_some.ensures ∙ c.if-is_some.false) (omega arith) (sym c.opens_marked.ensures ∙ c.if-opens_marked.true)
