-- `part_at` meets its contract: an empty part is put at 0.
use borrow.Author.Tests.{eq-eqb, ne_eqb}
use Rattle.format.specs.Blocks.{part_at}
use Rattle.reader.proofs.finding.part_at.Goals as goal

pub returns-then-n-eq0 : goal.returns-then-n-eq0
unfolding part_at
returns-then-n-eq0 c =
    let a = c.args in
    rw (eq-eqb a.n 0 c.if-n-eq0.true, c.if-n-eq0.true)

pub returns : goal.returns
unfolding part_at
returns c =
    let a = c.args in
    rw (ne_eqb a.n 0 c.if-n-eq0.false)
