-- `lent_for_writing` meets its contract.
use mathlib.Core.Path.{sym, ◌∙◌}
use Rattle.format.specs.Lent.{lent_for_writing}
use Rattle.search.proofs.lent_for_writing.Goals as goal

pub returns-then-not-length_right : goal.returns-then-not-length_right
unfolding lent_for_writing
returns-then-not-length_right c = rw (sym c.length_right.ensures ∙ c.if-not-length_right.true)

pub returns : goal.returns
unfolding lent_for_writing
returns c = rw (sym c.length_right.ensures ∙ c.if-not-length_right.false)
