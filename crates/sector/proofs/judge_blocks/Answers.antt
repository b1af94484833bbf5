-- `judge_blocks` meets its contract: the first of its three judgements that refuses gives the answer.
use mathlib.Core.Path.{sym, ap, ◌∙◌}
use Rattle.std.proofs.lemmas.Result.{err_from_is_err_and}
use Rattle.format.specs.Answer.{Answer}
use Rattle.format.proofs.Base.Judged.{refusal_number}
use Rattle.sector.proofs.BlocksJudged.{blocks_short, blocks_key, blocks_data}
use Rattle.sector.proofs.judge_blocks.Goals as goal

pub returns-in_err-judge_fit : goal.returns-in_err-judge_fit
returns-in_err-judge_fit c =
    let a = c.args in
    let p = err_from_is_err_and c.from_residual.result c.from_residual.ensures.1 in
    rw (p.1, p.2) (blocks_short a.first a.p a.last a.r.now _ c.in_err-judge_fit.ensures (refusal_number _))

pub returns-in_err-judge_key : goal.returns-in_err-judge_key
returns-in_err-judge_key c =
    let a = c.args in
    let p = err_from_is_err_and c.from_residual-in_err-judge_key.result c.from_residual-in_err-judge_key.ensures.1 in
    rw (p.1, p.2) (blocks_key a.first a.p a.last a.r.now (sym (ap (λ (z : Answer). z.number) c.in_ok-judge_fit.ensures)) _ c.in_err-judge_key.ensures (refusal_number _))

pub returns : goal.returns
returns c =
    let a = c.args in
    c.judge_data.ensures
    ∙ blocks_data a.first a.p a.last a.r.now (sym (ap (λ (z : Answer). z.number) c.in_ok-judge_fit.ensures))
    (sym (ap (λ (z : Answer). z.number) c.in_ok-judge_key.ensures))
