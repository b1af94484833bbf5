-- `part_of` meets its contract: the blocks fit, and the one asked for is right.
use mathlib.Core.Path.{ap, ◌∙◌}
use Prim.Native.Nat.{ℕ, ◌+◌}
use native.Mathlib.Omega.{arith}
use lib.ListN.{length}
use Rattle.std.proofs.lemmas.Result.{err_from_is_err_and}
use Rattle.format.specs.Judged.{good}
use Rattle.format.specs.Blocks.{Part, part_in}
use Rattle.format.proofs.Sector.BlocksJudged.{part_in_is}
use Rattle.reader.specs.Finding.{as_wanted}
use Rattle.reader.proofs.FindPart.{part_short, part_inside, part_refused, part_found, found_inside}
use Rattle.reader.proofs.finding.part_of.Goals as goal

pub returns-in_err-judge_fit-clause-result_value : goal.returns-in_err-judge_fit-clause-result_value
returns-in_err-judge_fit-clause-result_value c =
    let a = c.args in
    let p = err_from_is_err_and c.from_residual.result c.from_residual.ensures.1 in
    rw (p.1, p.2) (part_short (as_wanted a.wanted) a.track.now a.x _ c.rest_of-r.ensures _ c.in_err-judge_fit.ensures)

pub judge_wanted-requires : goal.judge_wanted-requires
judge_wanted-requires c =
    let a = c.args in
    omega (arith, part_inside (as_wanted a.wanted) a.track.now a.x _ c.rest_of-r.ensures c.in_ok-judge_fit.ensures)

pub returns-in_err-judge_wanted-clause-result_value : goal.returns-in_err-judge_wanted-clause-result_value
returns-in_err-judge_wanted-clause-result_value c =
    let a = c.args in
    let p = err_from_is_err_and c.from_residual-in_err-judge_wanted.result c.from_residual-in_err-judge_wanted.ensures.1 in
    rw (p.1, p.2) (part_refused (as_wanted a.wanted) a.track.now a.x _ c.rest_of-r.ensures c.in_ok-judge_fit.ensures _ c.in_err-judge_wanted.ensures)

pub overflow_add-x : goal.overflow_add-x
overflow_add-x c =
    let a = c.args in
    omega (arith, c.opening_length.ensures, part_inside (as_wanted a.wanted) a.track.now a.x _ c.rest_of-r.ensures c.in_ok-judge_fit.ensures)

pub part_in-requires : goal.part_in-requires
part_in-requires c =
    let a = c.args in
    omega (arith, c.opening_length.ensures, part_inside (as_wanted a.wanted) a.track.now a.x _ c.rest_of-r.ensures c.in_ok-judge_fit.ensures)

pub returns : goal.returns
returns c =
    let a = c.args in
    let t = a.track.now in
    let w = as_wanted a.wanted in
    let e = c.rest_of-r.ensures in
    let i = c.in_ok-judge_fit.ensures in
    let r = c.rest_of-r.result.now in
    let o = c.part_in.ensures ∙ ap (λ (l : ℕ). part_in w (a.x.place + l) r) c.opening_length.ensures.value in
    record {
      result_value = ap (λ (y : Part). good y) o ∙ part_found w t a.x r e i c.in_ok-judge_wanted.ensures;
      part_within = found_inside c.part_in.result _ _ (length t) (o ∙ part_in_is w _ r) (omega (arith, part_inside w t a.x r e i));
    }
