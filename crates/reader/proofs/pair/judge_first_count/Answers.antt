-- `judge_first_count` meets its contract: the opening, then the count's own answer.
use mathlib.Core.Path.{sym, ap, ◌∙◌}
use mathlib.Core.List.{List}
use Prim.Native.Nat.{ℕ}
use Rattle.std.proofs.lemmas.Result.{err_from_is_err_and}
use Rattle.format.specs.Judged.{answer_of}
use Rattle.format.specs.Lent.{cells}
use Rattle.format.specs.Home.{first_count_place}
use Rattle.format.specs.Count.{unsettled}
use Rattle.format.specs.Sector.{judge_count}
use Rattle.sector.specs.As.{as_home}
use Rattle.reader.proofs.FindPair.{count_missing, count_refused, count_right}
use Rattle.reader.proofs.pair.judge_first_count.Goals as goal

pub returns-then-not-opens_plain-clause-result_value : goal.returns-then-not-opens_plain-clause-result_value
returns-then-not-opens_plain-clause-result_value c =
    let a = c.args in
    sym (count_missing (as_home a.h) (cells a.track.now a.marks.now) (sym c.opens_plain.ensures ∙ c.if-not-opens_plain.true))

pub returns-in_err-judge_count-clause-result_value : goal.returns-in_err-judge_count-clause-result_value
returns-in_err-judge_count-clause-result_value c =
    let a = c.args in
    let h = as_home a.h in
    let p = err_from_is_err_and c.from_residual.result c.from_residual.ensures.1 in
    let e = c.in_err-judge_count.ensures ∙ ap (λ (r : List ℕ). answer_of (judge_count h 0 unsettled (first_count_place h.place) r)) c.first_rest-r.ensures in
    rw (p.1, p.2)
    (sym (count_refused h (cells a.track.now a.marks.now) _ (sym c.opens_plain.ensures ∙ c.if-not-opens_plain.false) e))

pub returns-clause-result_value : goal.returns-clause-result_value
returns-clause-result_value c =
    let a = c.args in
    let h = as_home a.h in
    let e = c.in_ok-judge_count.ensures ∙ ap (λ (r : List ℕ). answer_of (judge_count h 0 unsettled (first_count_place h.place) r)) c.first_rest-r.ensures in
    sym (count_right h (cells a.track.now a.marks.now) (sym c.opens_plain.ensures ∙ c.if-not-opens_plain.false) e)
