-- `judge_first` meets its contract: 1, then home, then the count.
use mathlib.Core.Path.{sym, ◌∙◌}
use Rattle.std.proofs.lemmas.Result.{err_from_is_err_and}
use Rattle.reader.proofs.FindPair.{first_wrong, first_refused, first_count_lem}
use Rattle.reader.proofs.pair.judge_first.Goals as goal

pub returns-then-not-lent_for_reading-clause-result_value : goal.returns-then-not-lent_for_reading-clause-result_value
returns-then-not-lent_for_reading-clause-result_value c = sym (first_wrong _ _ (sym c.lent_for_reading.ensures ∙ c.if-not-lent_for_reading.true))

pub returns-in_err-h-clause-result_value : goal.returns-in_err-h-clause-result_value
returns-in_err-h-clause-result_value c =
    let a = c.args in
    let p = err_from_is_err_and c.from_residual.result c.from_residual.ensures.1 in
    rw (p.1, p.2)
    (sym (first_refused a.track.now a.marks.now _ (sym c.lent_for_reading.ensures ∙ c.if-not-lent_for_reading.false) (sym c.in_err-h.ensures.result_value)))

pub returns-clause-result_value : goal.returns-clause-result_value
returns-clause-result_value c =
    let a = c.args in
    c.judge_first_count.ensures.result_value
    ∙ sym (first_count_lem a.track.now a.marks.now _ (sym c.lent_for_reading.ensures ∙ c.if-not-lent_for_reading.false) (sym c.in_ok-h.ensures.result_value))
