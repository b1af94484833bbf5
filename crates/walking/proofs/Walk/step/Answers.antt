-- `step` meets its contract: 1 where the pair is lent out of rule, then the step at the place, and the place behind the candidate fits.
use mathlib.Core.Path.{sym, ◌∙◌}
use native.Mathlib.Omega.{arith}
use Rattle.std.proofs.lemmas.Result.{err_from_is_err_and}
use Rattle.walking.proofs.Places.{judged_lent, judged_wrong, visit_below, step_moves, step_stays}
use Rattle.walking.proofs.Walk.step.Goals as goal

pub returns-then-not-self : goal.returns-then-not-self
returns-then-not-self c =
    let w = c.args.self.now in
    let e = sym (judged_wrong w.lent w.at w.track.now w.marks.now c.if-not-self.true) in
    (e, sym (step_stays w _ e))

pub returns-in_err-v : goal.returns-in_err-v
returns-in_err-v c =
    let w = c.args.self.now in
    let p = err_from_is_err_and c.from_residual.result c.from_residual.ensures.1 in
    let e = c.in_err-v.ensures ∙ sym (judged_lent w.lent w.at w.track.now w.marks.now c.if-not-self.false) in
    rw (p.1, p.2) (e, sym (step_stays w _ e))

pub overflow_add-self : goal.overflow_add-self
overflow_add-self c =
    let w = c.args.self.now in
    record { fits = omega (arith, visit_below c.in_ok-v.v _ w.track.now w.marks.now c.in_ok-v.ensures) }

pub returns : goal.returns
returns c =
    let w = c.args.self.now in
    let e = c.in_ok-v.ensures ∙ sym (judged_lent w.lent w.at w.track.now w.marks.now c.if-not-self.false) in
    (e, sym (step_moves w _ e))
