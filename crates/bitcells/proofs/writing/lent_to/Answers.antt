-- `lent_to` meets its contract.
use mathlib.Core.Path.{sym, ◌∙◌}
use Rattle.bitcells.specs.ToCells.{lent_to}
use Rattle.bitcells.proofs.writing.lent_to.Goals as goal

pub returns-then-not-lent_for_reading : goal.returns-then-not-lent_for_reading
unfolding lent_to
returns-then-not-lent_for_reading c = rw (sym c.lent_for_reading.ensures ∙ c.if-not-lent_for_reading.true)

pub returns : goal.returns
unfolding lent_to
returns c = rw (sym c.lent_for_reading.ensures ∙ c.if-not-lent_for_reading.false)
