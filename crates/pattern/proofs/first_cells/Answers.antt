-- `first_cells` meets its contract.
use native.Mathlib.Omega.{arith}
use borrow.Author.Tests.{eq-eqb, ne_eqb}
use Rattle.crc.specs.Check.{digits}
use Rattle.crc.specs.Division.{value}
use Rattle.pattern.specs.Pattern.{first_cells, clocks_for, bit_cells, alternating}
use Rattle.pattern.proofs.first_cells.Goals as goal

pub returns-then-mark-eq0 : goal.returns-then-mark-eq0
unfolding first_cells clocks_for bit_cells alternating digits value
returns-then-mark-eq0 c = rw (eq-eqb _ _ c.if-mark-eq0.true) (omega arith)

pub returns : goal.returns
unfolding first_cells clocks_for bit_cells alternating digits value
returns c = rw (ne_eqb _ _ c.if-mark-eq0.false) (omega arith)
