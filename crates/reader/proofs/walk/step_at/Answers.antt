-- `step_at` meets its contract: 1 first, then the step of a pair that is lent within the rule.
use mathlib.Core.Path.{sym, ◌∙◌}
use Rattle.reader.proofs.FindSteps.{step_lent, step_wrong}
use Rattle.reader.proofs.walk.step_at.Goals as goal

pub returns : goal.returns
returns c = c.step_lent.ensures ∙ sym (step_lent _ _ _ (sym c.lent_for_reading.ensures ∙ c.if-not-lent_for_reading.false))

pub returns-then-not-lent_for_reading : goal.returns-then-not-lent_for_reading
returns-then-not-lent_for_reading c = sym (step_wrong _ _ _ (sym c.lent_for_reading.ensures ∙ c.if-not-lent_for_reading.true))
