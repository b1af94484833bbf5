-- `length_right` meets its contract.
use native.Mathlib.Omega.{arith}
use borrow.Author.Tests.{lt-leb, le-leb}
use Rattle.format.specs.Lent.{length_right}
use Rattle.search.proofs.length_right.Goals as goal

pub returns-then-l-lt-SHORTEST : goal.returns-then-l-lt-SHORTEST
unfolding length_right
returns-then-l-lt-SHORTEST c = rw (lt-leb 3815 c.args.l (omega arith))

pub returns : goal.returns
unfolding length_right
returns c = rw (le-leb 3815 c.args.l (omega arith))
