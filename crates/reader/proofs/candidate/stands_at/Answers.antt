-- `stands_at` meets its contract: which count opens, and whether it passes.
use mathlib.Core.Path.{sym, ◌∙◌}
use Rattle.reader.proofs.CandidateParts.{stands_first, stands_later, stands_nowhere}
use Rattle.reader.proofs.candidate.stands_at.Goals as goal

pub returns-then-first_opens_at : goal.returns-then-first_opens_at
returns-then-first_opens_at c = c.passing_at.ensures ∙ sym (stands_first _ _ _ (sym c.first_opens_at.ensures ∙ c.if-first_opens_at.true))

pub returns-then-opens_marked : goal.returns-then-opens_marked
returns-then-opens_marked c = c.passing_at-then-opens_marked.ensures ∙ sym (stands_later _ _ _ (sym c.first_opens_at.ensures ∙ c.if-first_opens_at.false) (sym c.opens_marked.ensures ∙ c.if-opens_marked.true))

pub returns : goal.returns
returns c = sym (stands_nowhere _ _ _ (sym c.first_opens_at.ensures ∙ c.if-first_opens_at.false) (sym c.opens_marked.ensures ∙ c.if-opens_marked.false))
