-- `step_lent` meets its contract: the first candidate from the place on, or none.
use mathlib.Core.Path.{◌≡◌, sym, ap, ◌∙◌}
use Rattle.std.proofs.lemmas.Result.{err_from_is_err_and}
use lib.ListN.{take}
use Rattle.format.specs.Judged.{good}
use Rattle.format.specs.Lent.{cells}
use Rattle.format.specs.Walk.{Visited}
use Rattle.format.specs.declared.Refusal.TheVariants.{SectorMissing}
use Rattle.search.specs.Place.{judged_place}
use Rattle.reader.specs.Finding.{as_candidate}
use Rattle.reader.proofs.FindSteps.{next_good, next_none, visited_is}
use Rattle.reader.proofs.walk.step_lent.Goals as goal

pub returns-in_err-x : goal.returns-in_err-x
returns-in_err-x c =
    let a = c.args in
    let s = c.search_start-start in
    let h = c.home_ahead-home in
    let p = err_from_is_err_and c.from_residual.result c.from_residual.ensures.1 in
    let k = c.in_err-x.ensures.ok_part in
    let v = rw k at c.in_err-x.ensures.value in
    let e : c.in_err-x.field-0.0 ≡ SectorMissing = cc in
    rw (p.1, p.2, e)
    (sym (next_none (cells a.track.now a.marks.now) (judged_place h.result) a.from h.ensures ((rw k at c.next_candidate.ensures) ∙ ap (take 1) (sym s.ensures))))

pub returns : goal.returns
returns c =
    let a = c.args in
    let s = c.search_start-start in
    let h = c.home_ahead-home in
    let x = as_candidate a.track.now c.in_ok-x.x in
    let v = visited_is x _ _ _ _ _ c.rest_of-r.ensures c.byte_at.ensures c.byte_at-2.ensures c.key_length.ensures c.data_length.ensures in
    ap (λ (w : Visited). good w) v
    ∙ sym (next_good (cells a.track.now a.marks.now) (judged_place h.result) a.from h.ensures x ((rw c.in_ok-x.ensures.ok_part at c.next_candidate.ensures) ∙ ap (take 1) (sym s.ensures)))
