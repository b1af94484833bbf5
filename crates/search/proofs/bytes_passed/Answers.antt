-- `bytes_passed` meets its contract: by the test of the word.
use native.Mathlib.Omega.{arith}
use borrow.Author.Tests.{eq-eqb, ne_eqb}
use Rattle.search.proofs.bytes_passed.Goals as goal

pub returns-then-a-eq0 : goal.returns-then-a-eq0
returns-then-a-eq0 c = record { value = rw (eq-eqb c.args.a 0 c.if-a-eq0.true); upper_bound = omega arith }

pub returns : goal.returns
returns c = record { value = rw (ne_eqb c.args.a 0 c.if-a-eq0.false); upper_bound = omega arith }
