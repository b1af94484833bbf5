-- `unmarked_run` meets its contract: the zeros among the marks that have a byte.
use mathlib.Core.Path.{◌∙◌}
use native.Mathlib.Omega.{arith}
use lib.ListN.{drop}
use Rattle.format.specs.Lent.{cells}
use Rattle.search.proofs.Zero.{run_at, run_none}
use Rattle.search.proofs.unmarked_run.Goals as goal

pub returns-then-left-eq0 : goal.returns-then-left-eq0
returns-then-left-eq0 c =
    let a = c.args in
    run_none (drop a.p (cells a.track.now a.marks.now)) (omega arith)

pub returns : goal.returns
returns c =
    let a = c.args in
    let n = c.cells_from-left in
    let b = c.type_inv.track in
    c.zero_run.ensures ∙ run_at a.track.now a.marks.now a.p n.result (λ i. omega (arith, b i)) n.ensures.value
