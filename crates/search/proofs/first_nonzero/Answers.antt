-- `first_nonzero` meets its contract: by the test of the first word.
use borrow.Author.Tests.{eq-eqb, ne_eqb}
use Rattle.search.proofs.first_nonzero.Goals as goal

pub returns-then-a-eq0 : goal.returns-then-a-eq0
returns-then-a-eq0 c = rw (eq-eqb c.args.a 0 c.if-a-eq0.true)

pub returns : goal.returns
returns c = rw (ne_eqb c.args.a 0 c.if-a-eq0.false)
