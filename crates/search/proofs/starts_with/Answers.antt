-- `starts_with` meets its contract: the opening stands there where the fold so far is 0 and what is left of it stands behind the cells compared.
use mathlib.Core.Path.{sym, ◌∙◌}
use Prim.Native.Nat.{◌+◌}
use native.Mathlib.Nat.{add-zero}
use native.Mathlib.Omega.{arith}
use lib.ListN.{drop, length-drop}
use Rattle.format.specs.Lent.{cells}
use Rattle.format.proofs.Cells.Opening.{starts_short}
use Rattle.search.proofs.Fold.{opening_turn, opening_end}
use Rattle.search.proofs.starts_with.Goals as goal

pub returns-then-cells_from-size : goal.returns-then-cells_from-size
returns-then-cells_from-size c =
    let a = c.args in
    sym (starts_short (cells a.opening.now a.marking.now) (drop a.p (cells a.track.now a.marks.now)) (omega arith))

pub loop-k-init : goal.loop-k-init
loop-k-init c = (omega arith, omega arith, omega arith, rw add-zero)

pub loop-k-preserved : goal.loop-k-preserved
loop-k-preserved c =
    let a = c.args in
    let x = c.loop-k in
    let d = cells a.track.now a.marks.now in
    let n = length-drop a.p d in (
      omega arith,
      x.invariant.1,
      x.invariant.2,
      x.invariant.3
          ∙ opening_turn a.opening.now a.marking.now a.track.now a.marks.now a.p x.k x.any (omega arith) (omega arith)
          (omega (arith, c.type_inv.opening x.k))
          (omega (arith, c.type_inv.track (a.p + x.k))),
    )

pub returns : goal.returns
returns c =
    let a = c.args in
    let x = c.loop-k in
    sym (x.invariant.3 ∙ opening_end (cells a.opening.now a.marking.now) (drop (a.p + x.k) (cells a.track.now a.marks.now)) x.k x.any (omega arith))
