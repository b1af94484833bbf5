-- `next_opening` meets its contract: the first opening is the first of what is left.
use mathlib.Core.Path.{refl, sym, ◌∙◌}
use native.Mathlib.Omega.{arith}
use Rattle.format.specs.Lent.{cells}
use Rattle.search.proofs.Openings.{opening_end, opening_none, opening_mark, opening_room, opening_here, opening_later}
use Rattle.search.proofs.opening.next_opening.Goals as goal

pub loop-q-init : goal.loop-q-init
loop-q-init c = refl

pub returns-then-run-n : goal.returns-then-run-n
returns-then-run-n c =
    let a = c.args in
    let x = c.loop-q in
    let n = c.cell_count-n in
    let r = c.unmarked_run-run in
    sym (x.invariant ∙ opening_none x.q r.result n.result (cells a.track.now a.marks.now) r.ensures n.ensures.value (omega arith) c.if-run-n.true)

pub overflow_add-at : goal.overflow_add-at
overflow_add-at c =
    let a = c.args in
    let x = c.loop-q in
    let n = c.cell_count-n in
    let r = c.unmarked_run-run in
    let d = cells a.track.now a.marks.now in
    record { fits = omega (arith, opening_mark x.q r.result n.result d r.ensures n.ensures.value (omega arith) c.if-run-n.false) }

pub overflow_sub-result : goal.overflow_sub-result
overflow_sub-result c =
    let a = c.args in
    let x = c.loop-q in
    let n = c.cell_count-n in
    let r = c.unmarked_run-run in
    let o = c.opens_before in
    let d = cells a.track.now a.marks.now in
    omega (arith, opening_room x.q r.result n.result d r.ensures n.ensures.value (omega arith) o.result o.ensures c.if-opens_before.true)

pub returns-then-opens_before : goal.returns-then-opens_before
returns-then-opens_before c =
    let a = c.args in
    let x = c.loop-q in
    let n = c.cell_count-n in
    let r = c.unmarked_run-run in
    let o = c.opens_before in
    let d = cells a.track.now a.marks.now in
    sym (x.invariant ∙ opening_here x.q r.result n.result d r.ensures n.ensures.value (omega arith) o.result o.ensures c.if-opens_before.true)

pub overflow_add-q : goal.overflow_add-q
overflow_add-q c =
    let a = c.args in
    let x = c.loop-q in
    let n = c.cell_count-n in
    let r = c.unmarked_run-run in
    let d = cells a.track.now a.marks.now in
    record { fits = omega (arith, opening_mark x.q r.result n.result d r.ensures n.ensures.value (omega arith) c.if-run-n.false) }

pub loop-q-smaller : goal.loop-q-smaller
loop-q-smaller c =
    let a = c.args in
    let x = c.loop-q in
    let n = c.cell_count-n in
    let r = c.unmarked_run-run in
    let d = cells a.track.now a.marks.now in
    omega (arith, opening_mark x.q r.result n.result d r.ensures n.ensures.value (omega arith) c.if-run-n.false)

pub loop-q-preserved : goal.loop-q-preserved
loop-q-preserved c =
    let a = c.args in
    let x = c.loop-q in
    let n = c.cell_count-n in
    let r = c.unmarked_run-run in
    let o = c.opens_before in
    let d = cells a.track.now a.marks.now in
    x.invariant ∙ opening_later x.q r.result n.result d r.ensures n.ensures.value (omega arith) o.result o.ensures c.if-opens_before.false (opening_mark x.q r.result n.result d r.ensures n.ensures.value (omega arith) c.if-run-n.false)

pub returns : goal.returns
returns c =
    let a = c.args in
    let x = c.loop-q in
    let n = c.cell_count-n in
    sym (x.invariant ∙ opening_end x.q (cells a.track.now a.marks.now) (omega (arith, n.ensures.value)))
