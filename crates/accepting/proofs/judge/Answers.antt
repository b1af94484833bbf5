-- `judge` meets its contract: what is lent, home, and what is behind it, in turn.
use Rattle.std.proofs.Common.{◌≡◌, ℕ, refl, sym, ap, ◌∙◌, arith}
use Rattle.format.specs.Answer.{Answer}
use Rattle.format.specs.Judged.{Judged, refused}
use Rattle.format.specs.Home.{Home}
use Rattle.format.proofs.Base.Judged.{refusal_number}
use Rattle.accepting.proofs.AcceptBehind.{accept_lent, accept_refused, accept_good}
use Rattle.accepting.proofs.AcceptLegal.{behind_legal, home_refused_by, behind_refused_by, lent_not, stray_number}
use Rattle.accepting.proofs.judge.Goals as goal

pub returns-then-not-lent_for_writing-clause-result_value : goal.returns-then-not-lent_for_writing-clause-result_value
returns-then-not-lent_for_writing-clause-result_value c =
    let a = c.args in
    sym (accept_lent a.track.now a.marks.now (lent_not a.track.now a.marks.now (sym c.lent_for_writing.ensures ∙ c.if-not-lent_for_writing.true)))

pub returns-in-Err-clause-result_value : goal.returns-in-Err-clause-result_value
returns-in-Err-clause-result_value c =
    let a = c.args in
    let w = sym c.lent_for_writing.ensures ∙ c.if-not-lent_for_writing.false in
    ap {B = Judged Home} refused c.refused_by.ensures ∙ sym (home_refused_by a.track.now a.marks.now w _ c.in-Err.ensures.result_value)

pub returns-in-Ok-judge_behind-clause-result_value : goal.returns-in-Ok-judge_behind-clause-result_value
returns-in-Ok-judge_behind-clause-result_value c =
    let a = c.args in
    let w = sym c.lent_for_writing.ensures ∙ c.if-not-lent_for_writing.false in
    let n = ap (λ (x : Answer). x.number) c.in-Ok-judge_behind.ensures in
    sym (accept_good a.track.now a.marks.now (behind_legal _ a.track.now a.marks.now w (λ z. absurd (let y : ◌≡◌ {A = ℕ} 0 5 = n ∙ z in omega arith))) _ c.in-Ok.ensures.result_value _ c.in-Ok-judge_behind.ensures refl)

pub returns-in-MarkStray-clause-result_value : goal.returns-in-MarkStray-clause-result_value
returns-in-MarkStray-clause-result_value c =
    let a = c.args in
    let w = sym c.lent_for_writing.ensures ∙ c.if-not-lent_for_writing.false in
    ap {B = Judged Home} refused c.refused_by-in-MarkStray.ensures
    ∙ sym (behind_refused_by a.track.now a.marks.now w _ c.in-Ok.ensures.result_value _ c.in-Err-judge_behind.ensures (refusal_number c.in-Err-judge_behind.e))

pub returns-in_default : goal.returns-in_default
returns-in_default c =
    let a = c.args in
    let w = sym c.lent_for_writing.ensures ∙ c.if-not-lent_for_writing.false in
    let n = ap (λ (x : Answer). x.number) c.in-Err-judge_behind.ensures in
    let l = behind_legal _ a.track.now a.marks.now w (λ z. stray_number c.in-Err-judge_behind.e c.in_default.not-MarkStray (n ∙ z)) in
    record { result_value = sym (accept_refused a.track.now a.marks.now l _ c.in-Ok.ensures.result_value _ c.in-Err-judge_behind.ensures (refusal_number c.in-Err-judge_behind.e)); track_in_window = tt }
