-- `only_part` meets its contract: none carries S, a second one does too, or the only one.
use mathlib.Core.Path.{sym, ◌∙◌}
use native.Mathlib.Omega.{arith}
use Rattle.format.specs.Lent.{cells}
use Rattle.search.specs.Place.{judged_place}
use Rattle.format.proofs.Track.Pairs.{length_cells}
use Rattle.reader.specs.Finding.{as_candidate, as_wanted}
use Rattle.reader.proofs.CandidateNext.{carrying_first}
use Rattle.reader.proofs.FindPart.{find_none, find_repeated, find_only}
use Rattle.reader.proofs.finding.only_part.Goals as goal

pub overflow_add-x : goal.overflow_add-x
overflow_add-x c =
    let a = c.args in
    let f = carrying_first a.s (judged_place c.find_home-home.result) 0 (cells a.track.now a.marks.now) (as_candidate a.track.now c.in-Some.x) c.in-Some.ensures in
    omega (arith, f.1, length_cells a.track.now a.marks.now)

pub returns-in_default-clause-result_value : goal.returns-in_default-clause-result_value
returns-in_default-clause-result_value c =
    let a = c.args in
    let h = c.find_home-home in
    sym (find_none a.s (as_wanted a.wanted) (cells a.track.now a.marks.now) (judged_place h.result) h.ensures.result_value c.in_default.ensures)

pub returns-in-Some-next_carrying-clause-result_value : goal.returns-in-Some-next_carrying-clause-result_value
returns-in-Some-next_carrying-clause-result_value c =
    let a = c.args in
    let h = c.find_home-home in
    let x = as_candidate a.track.now c.in-Some.x in
    let y = as_candidate a.track.now c.in-Some-next_carrying.y in
    sym (find_repeated a.s (as_wanted a.wanted) (cells a.track.now a.marks.now) (judged_place h.result) h.ensures.result_value x c.in-Some.ensures y c.in-Some-next_carrying.ensures)

pub returns-clause-result_value : goal.returns-clause-result_value
returns-clause-result_value c =
    let a = c.args in
    let h = c.find_home-home in
    let x = as_candidate a.track.now c.in-Some.x in
    c.part_of.ensures.result_value
    ∙ sym (find_only a.s (as_wanted a.wanted) (cells a.track.now a.marks.now) (judged_place h.result) h.ensures.result_value x c.in-Some.ensures c.in_default-next_carrying.ensures)
