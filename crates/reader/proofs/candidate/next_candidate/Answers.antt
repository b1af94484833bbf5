-- `next_candidate` meets its contract: the first candidate is the first of what is left.
use mathlib.Core.Path.{sym, ap, ◌∙◌}
use native.Mathlib.Omega.{arith}
use lib.ListN.{take}
use Rattle.format.specs.Lent.{cells}
use Rattle.search.specs.Place.{judged_place}
use Rattle.reader.proofs.CandidateNext.{candidates_end, candidates_here, candidates_later}
use Rattle.reader.proofs.candidate.next_candidate.Goals as goal

pub returns-in-Some : goal.returns-in-Some
returns-in-Some c =
    let a = c.args in
    let x = c.loop-p in
    let h = judged_place a.home in
    let d = cells a.track.now a.marks.now in
    sym (ap (take 1) x.invariant.1 ∙ candidates_here h x.p d _ (omega arith) c.in-Some.ensures)

pub loop-p-preserved : goal.loop-p-preserved
loop-p-preserved c =
    let a = c.args in
    let x = c.loop-p in
    let h = judged_place a.home in
    let d = cells a.track.now a.marks.now in
    (x.invariant.0, x.invariant.1 ∙ candidates_later h x.p d (omega arith) c.in_default.ensures ∙ c.next_place-p-in-loop-p.ensures.1)

pub returns : goal.returns
returns c =
    let a = c.args in
    let x = c.loop-p in
    let h = judged_place a.home in
    let d = cells a.track.now a.marks.now in
    sym (ap (take 1) (x.invariant.1 ∙ candidates_end h x.p d (omega arith)))
