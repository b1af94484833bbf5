-- `legal_pattern` meets its contract.
use mathlib.Core.Path.{sym, ◌∙◌}
use native.Mathlib.Omega.{arith}
use borrow.Author.Tests.{eq-eqb, ne_eqb}
use Rattle.pattern.proofs.Masks.{legal_clocked, legal_missing}
use Rattle.pattern.proofs.legal_pattern.Goals as goal

pub returns-then-x-eq170 : goal.returns-then-x-eq170
returns-then-x-eq170 c = let a = c.args in sym (legal_clocked a.x a.y (omega arith) (omega arith) c.if-x-eq170.true)

pub returns-then-x-ne85 : goal.returns-then-x-ne85
returns-then-x-ne85 c = let a = c.args in sym (legal_missing a.x a.y (omega arith) (omega arith) c.if-x-eq170.false ∙ rw (ne_eqb _ _ c.if-x-ne85.true))

pub returns : goal.returns
returns c = let a = c.args in sym (legal_missing a.x a.y (omega arith) (omega arith) c.if-x-eq170.false ∙ rw (eq-eqb _ _ c.if-x-ne85.false))
