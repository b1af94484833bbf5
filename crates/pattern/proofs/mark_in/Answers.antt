-- `mark_in` meets its contract.
use native.Mathlib.Omega.{arith}
use borrow.Author.Tests.{ne_eqb}
use Rattle.crc.specs.Division.{value}
use Rattle.pattern.specs.Pattern.{mark_in}
use Rattle.pattern.proofs.Masks.{clocks_all, all_clocks_lem}
use Rattle.pattern.proofs.mark_in.Goals as goal

pub returns-then-x-ne170 : goal.returns-then-x-ne170
unfolding mark_in value
returns-then-x-ne170 c =
    let a = c.args in
    rw (ne_eqb _ _ (λ e. c.if-x-ne170.true (all_clocks_lem a.x a.y (omega arith) (omega arith) e).0))

pub returns-then-y-ne170 : goal.returns-then-y-ne170
unfolding mark_in value
returns-then-y-ne170 c =
    let a = c.args in
    rw (ne_eqb _ _ (λ e. c.if-y-ne170.true (all_clocks_lem a.x a.y (omega arith) (omega arith) e).1))

pub returns : goal.returns
unfolding mark_in value
returns c =
    let a = c.args in
    rw (clocks_all a.x a.y (omega arith) (omega arith) c.if-x-ne170.false c.if-y-ne170.false)
