-- `nth_candidate` meets its contract: the reader is stepped over the candidates to the left, and its next step gives what is asked.
use Rattle.std.proofs.Common.{◌∙◌, ap, arith, ℕ}
use Rattle.format.specs.Walk.{step}
use Rattle.walking.specs.declared.Walk.{Walk}
use Rattle.walking.proofs.Visits.{reached, reached_none, step_visits, walked_step, walked_place}
use Rattle.walking.proofs.nth_candidate.Goals as goal

pub loop-init : goal.loop-init
loop-init c =
    let e = c.start-walk.ensures in
    let a = c.args in
    record {
      track = ap (λ (w : Walk). w.track.now) e;
      marks = ap (λ (w : Walk). w.marks.now) e;
      at = ap (λ (w : Walk). w.at) e ∙ reached_none 0 a.track.now a.marks.now;
      lent = ap (λ (w : Walk). w.lent) e;
    }

pub loop-preserved : goal.loop-preserved
loop-preserved c =
    let a = c.args in
    let l = c.loop in
    let j = l.invariant in
    let e = c.step.ensures.1 in
    record {
      track = ap (λ (w : Walk). w.track.now) e ∙ j.track;
      marks = ap (λ (w : Walk). w.marks.now) e ∙ j.marks;
      at = ap (λ (w : Walk). w.at) e ∙ walked_place l.walk l.counter a.track.now a.marks.now j.track j.marks j.at j.lent;
      lent = ap (λ (w : Walk). w.lent) e ∙ j.lent;
    }

pub returns : goal.returns
returns c =
    let a = c.args in
    let l = c.loop in
    let j = l.invariant in
    c.step-2.ensures.0
    ∙ walked_step l.walk l.counter a.track.now a.marks.now j.track j.marks j.at j.lent
    ∙ ap (λ (i : ℕ). step (reached i 0 a.track.now a.marks.now) a.track.now a.marks.now) (omega arith)
    ∙ step_visits a.n a.track.now a.marks.now
