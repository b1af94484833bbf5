-- `lent_for_reading` meets its contract.
use mathlib.Core.Path.{sym, ◌∙◌}
use Rattle.format.specs.Lent.{lent_for_reading}
use Rattle.search.proofs.lent_for_reading.Goals as goal

pub returns-then-not-lent_for_writing : goal.returns-then-not-lent_for_writing
unfolding lent_for_reading
returns-then-not-lent_for_writing c = rw (sym c.lent_for_writing.ensures ∙ c.if-not-lent_for_writing.true)

pub returns : goal.returns
unfolding lent_for_reading
returns c = rw (sym c.lent_for_writing.ensures ∙ c.if-not-lent_for_writing.false) c.marks_legal.ensures
