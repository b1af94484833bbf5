-- `find_on_second` meets its contract: the second's own answer, then 16, then Find.
use mathlib.Core.Path.{sym, ap, ◌∙◌}
use Rattle.format.specs.Judged.{Judged}
use Rattle.format.specs.Lent.{cells}
use Rattle.format.specs.Blocks.{Part}
use Rattle.format.specs.PairFind.{of_second}
use Rattle.sector.specs.As.{as_home}
use Rattle.reader.specs.Finding.{as_wanted}
use Rattle.reader.proofs.FindPair.{second_refused, second_found, second_other}
use Rattle.reader.proofs.pair.find_on_second.Goals as goal

pub returns-then-pair_agrees-clause-result_value : goal.returns-then-pair_agrees-clause-result_value
returns-then-pair_agrees-clause-result_value c =
    let a = c.args in
    ap (λ (j : Judged Part). of_second j) c.find_part.ensures.result_value
    ∙ sym (second_found a.s (as_wanted a.wanted) (as_home a.h) (cells a.track.now a.marks.now) a.second.now a.second_marks.now _ c.in-Ok.ensures.result_value (sym c.pair_agrees.ensures ∙ c.if-pair_agrees.true))

pub returns-else-pair_agrees-clause-result_value : goal.returns-else-pair_agrees-clause-result_value
returns-else-pair_agrees-clause-result_value c =
    let a = c.args in
    sym (second_other a.s (as_wanted a.wanted) (as_home a.h) (cells a.track.now a.marks.now) a.second.now a.second_marks.now _ c.in-Ok.ensures.result_value (sym c.pair_agrees.ensures ∙ c.if-pair_agrees.false))

pub returns-in-Err-clause-result_value : goal.returns-in-Err-clause-result_value
returns-in-Err-clause-result_value c =
    let a = c.args in
    sym (second_refused a.s (as_wanted a.wanted) (as_home a.h) (cells a.track.now a.marks.now) a.second.now a.second_marks.now _ c.in-Err.ensures.result_value)
