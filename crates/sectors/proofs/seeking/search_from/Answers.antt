-- `search_from` meets its contract: the search of all sectors is the search of those from place p on.
use native.Mathlib.Omega.{arith}
use Rattle.sectors.proofs.Rest.{onward}
use Rattle.sectors.proofs.Found.{search_start, search_found, search_end, search_next}
use Rattle.sectors.proofs.Passing.{pass_start, pass_found, pass_stuck, pass_next}
use Rattle.sectors.proofs.seeking.search_from.Goals as goal
use Rattle.sectors.proofs.seeking.search_from.Goals.{then-x-s-via-then-x-s, then-x-s-via-else-x-s+then-x-p}

pub loop-x-init : goal.loop-x-init
loop-x-init c =
    let a = c.args in
    (search_start a.track.now a.marks.now a.start a.s, pass_start a.track.now a.marks.now a.start a.s)

pub returns-then-x-s : goal.returns-then-x-s
returns-then-x-s c =
    let a = c.args in
    let o = c.loop-x in
    let x = c.step_at-x in
    elim c.then-x-s.branch [
      | then-x-s-via-then-x-s w ↦ record {
        sectors_from = search_found a.track.now a.marks.now a.start a.s o.p o.invariant.0 x.result x.ensures w.if-x-s.true;
        sectors_from_2 = pass_found a.track.now a.marks.now a.start a.s o.p o.before o.count o.invariant.1 x.result x.ensures w.if-x-s.true;
      }
      | then-x-s-via-else-x-s+then-x-p w ↦ record {
        sectors_from = search_end a.track.now a.marks.now a.start a.s o.p o.invariant.0 x.result x.ensures w.if-x-p.true;
        sectors_from_2 = pass_stuck a.track.now a.marks.now a.start a.s o.p o.before o.count o.invariant.1 x.result x.ensures w.if-x-p.true;
      }
    ]

pub overflow_add-count : goal.overflow_add-count
overflow_add-count c =
    let a = c.args in
    let o = c.loop-x in
    let x = c.step_at-x in
    omega (arith, o.invariant.1.0, onward a.track.now a.marks.now o.p x.result x.ensures c.if-x-p.false)

pub loop-x-smaller : goal.loop-x-smaller
loop-x-smaller c =
    let a = c.args in
    let o = c.loop-x in
    let x = c.step_at-x in
    omega (arith, c.if-x-p.false, onward a.track.now a.marks.now o.p x.result x.ensures c.if-x-p.false)

pub loop-x-preserved : goal.loop-x-preserved
loop-x-preserved c =
    let a = c.args in
    let o = c.loop-x in
    let x = c.step_at-x in (
      search_next a.track.now a.marks.now a.start a.s o.p o.invariant.0 x.result x.ensures c.if-x-s.false c.if-x-p.false,
      pass_next a.track.now a.marks.now a.start a.s o.p o.before o.count o.invariant.1 x.result x.ensures c.if-x-s.false c.if-x-p.false,
    )
