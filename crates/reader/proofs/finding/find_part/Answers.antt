-- `find_part` meets its contract: 1 first, then what the cells give.
use mathlib.Core.Path.{sym, ◌∙◌}
use Rattle.reader.proofs.FindPart.{lent_few, find_wrong, find_cells_lem}
use Rattle.reader.proofs.finding.find_part.Goals as goal

pub returns-then-not-lent_for_reading-clause-result_value : goal.returns-then-not-lent_for_reading-clause-result_value
returns-then-not-lent_for_reading-clause-result_value c = sym (find_wrong _ _ _ _ (sym c.lent_for_reading.ensures ∙ c.if-not-lent_for_reading.true))

pub only_part-requires : goal.only_part-requires
only_part-requires c = lent_few _ _ (sym c.lent_for_reading.ensures ∙ c.if-not-lent_for_reading.false)

pub returns-clause-result_value : goal.returns-clause-result_value
returns-clause-result_value c = c.only_part.ensures.result_value ∙ sym (find_cells_lem _ _ _ _ (sym c.lent_for_reading.ensures ∙ c.if-not-lent_for_reading.false))
