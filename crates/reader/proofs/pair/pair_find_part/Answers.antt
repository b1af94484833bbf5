-- `pair_find_part` meets its contract: by the flag of the first.
use mathlib.Core.Path.{sym, ap, ◌∙◌}
use native.Mathlib.Omega.{arith}
use Rattle.format.specs.Judged.{Judged}
use Rattle.format.specs.Blocks.{Part}
use Rattle.format.specs.PairFind.{of_first}
use Rattle.reader.specs.Finding.{as_wanted}
use Rattle.reader.proofs.FindPair.{pair_refused, pair_none, pair_second, pair_first}
use Rattle.reader.proofs.pair.pair_find_part.Goals as goal

pub returns-in-3-clause-result_value : goal.returns-in-3-clause-result_value
returns-in-3-clause-result_value c =
    let a = c.args in
    sym (pair_none a.s (as_wanted a.wanted) a.track.now a.marks.now a.second.now a.second_marks.now _ c.in-Ok.ensures.result_value c.in-3.is)

pub returns-in-2-clause-result_value : goal.returns-in-2-clause-result_value
returns-in-2-clause-result_value c =
    let a = c.args in
    c.find_on_second.ensures.result_value
    ∙ sym (pair_second a.s (as_wanted a.wanted) a.track.now a.marks.now a.second.now a.second_marks.now _ c.in-Ok.ensures.result_value c.in-2.is)

pub returns-in_default-clause-result_value : goal.returns-in_default-clause-result_value
returns-in_default-clause-result_value c =
    let a = c.args in
    ap (λ (j : Judged Part). of_first j) c.find_part.ensures.result_value
    ∙ sym (pair_first a.s (as_wanted a.wanted) a.track.now a.marks.now a.second.now a.second_marks.now _ c.in-Ok.ensures.result_value (λ q. omega arith) (λ q. omega arith))

pub returns-in-Err-clause-result_value : goal.returns-in-Err-clause-result_value
returns-in-Err-clause-result_value c =
    let a = c.args in
    sym (pair_refused a.s (as_wanted a.wanted) a.track.now a.marks.now a.second.now a.second_marks.now _ c.in-Err.ensures.result_value)
