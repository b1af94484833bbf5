-- `judge_sector` meets its contract: the blocks are judged where the count is good.
use Rattle.std.proofs.Common.{refl, ◌∙◌}
use Rattle.std.proofs.lemmas.Result.{err_from_is_err_and}
use Rattle.format.proofs.Base.Judged.{refusal_number}
use Rattle.sector.specs.As.{as_home, as_settled}
use Rattle.accepting.proofs.AcceptAnswers.{sector_count, sector_blocks}
use Rattle.accepting.proofs.judge_sector.Goals as goal

pub returns-in_err-judge_count : goal.returns-in_err-judge_count
returns-in_err-judge_count c =
    let a = c.args in
    let p = err_from_is_err_and c.from_residual.result c.from_residual.ensures.1 in
    rw (p.1, p.2) (sector_count (as_home a.h) a.i (as_settled a.x) a.p a.last a.r.now _ c.in_err-judge_count.ensures (refusal_number _))

pub returns : goal.returns
returns c =
    let a = c.args in
    c.judge_blocks.ensures ∙ sector_blocks (as_home a.h) a.i (as_settled a.x) a.p a.last a.r.now _ c.in_ok-judge_count.ensures refl
