-- `marks_legal` meets its contract: the marks are legal where the fold so far and those that are left are.
use mathlib.Core.Path.{refl, sym, ◌∙◌}
use native.Mathlib.Omega.{arith}
use native.Mathlib.Numerals.{add-one}
use Rattle.search.proofs.Fold.{legal_turn, legal_end}
use Rattle.search.proofs.marks_legal.Goals as goal

pub loop-mark-init : goal.loop-mark-init
loop-mark-init c = refl

pub loop-mark-preserved : goal.loop-mark-preserved
loop-mark-preserved c =
    let m = c.args.marks.now in
    let l = c.loop-mark in
    l.invariant ∙ rw add-one (legal_turn m l.mark-index l.any (omega arith))

pub returns : goal.returns
returns c =
    let m = c.args.marks.now in
    let l = c.loop-mark in
    sym (l.invariant ∙ legal_end m l.mark-index l.any (omega arith))
