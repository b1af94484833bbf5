-- `can_record` meets its contract.
use borrow.Author.Tests.{eq-eqb, ne_eqb}
use Rattle.pattern.specs.Pattern.{recordable}
use Rattle.bitcells.proofs.writing.can_record.Goals as goal

pub returns-then-mark-eq0 : goal.returns-then-mark-eq0
unfolding recordable
returns-then-mark-eq0 c = rw (eq-eqb _ _ c.if-mark-eq0.true)

pub returns : goal.returns
unfolding recordable
returns c = rw (ne_eqb _ _ c.if-mark-eq0.false)
