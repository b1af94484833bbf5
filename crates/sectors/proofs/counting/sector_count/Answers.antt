-- `sector_count` meets its contract. The loop's invariant: the sectors from the place that is come to on are left to count.
use native.Mathlib.Omega.{arith}
use Rattle.sectors.proofs.Rest.{onward}
use Rattle.sectors.proofs.Counted.{count_start, count_end, count_next}
use Rattle.sectors.proofs.counting.sector_count.Goals as goal

pub loop-p-init : goal.loop-p-init
loop-p-init c = let a = c.args in count_start a.track.now a.marks.now a.start

pub returns-then-x-p : goal.returns-then-x-p
returns-then-x-p c =
    let a = c.args in
    let o = c.loop-p in
    let x = c.step_at-x in
    count_end a.track.now a.marks.now a.start o.p o.n o.invariant x.result x.ensures c.if-x-p.true

pub overflow_add-n : goal.overflow_add-n
overflow_add-n c =
    let a = c.args in
    let o = c.loop-p in
    let x = c.step_at-x in
    omega (arith, o.invariant.0, onward a.track.now a.marks.now o.p x.result x.ensures c.if-x-p.false)

pub loop-p-smaller : goal.loop-p-smaller
loop-p-smaller c =
    let a = c.args in
    let o = c.loop-p in
    let x = c.step_at-x in
    omega (arith, c.if-x-p.false, onward a.track.now a.marks.now o.p x.result x.ensures c.if-x-p.false)

pub loop-p-preserved : goal.loop-p-preserved
loop-p-preserved c =
    let a = c.args in
    let o = c.loop-p in
    let x = c.step_at-x in
    count_next a.track.now a.marks.now a.start o.p o.n o.invariant x.result x.ensures c.if-x-p.false
