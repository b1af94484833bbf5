-- `lent_from` meets its contract.
use mathlib.Core.Path.{sym, ◌∙◌}
use native.Mathlib.Omega.{arith}
use Rattle.bitcells.specs.FromCells.{lent_from}
use Rattle.bitcells.proofs.Lent.{lent_most}
use Rattle.bitcells.proofs.reading.lent_from.Goals as goal

pub returns-then-not-lent_for_writing : goal.returns-then-not-lent_for_writing
unfolding lent_from
returns-then-not-lent_for_writing c = rw (sym c.lent_for_writing.ensures ∙ c.if-not-lent_for_writing.true)

pub overflow_mul-result : goal.overflow_mul-result
overflow_mul-result c =
    let a = c.args in
    omega (arith, lent_most a.l a.k (sym c.lent_for_writing.ensures ∙ c.if-not-lent_for_writing.false))

pub returns : goal.returns
unfolding lent_from
returns c = rw (sym c.lent_for_writing.ensures ∙ c.if-not-lent_for_writing.false)
