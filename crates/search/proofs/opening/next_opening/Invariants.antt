-- `next_opening` meets its contract: the first opening is the first of what is left.
use mathlib.Core.Path.{◌≡◌}
use Prim.Native.Nat.{◌+◌, ◌-◌}
use lib.ListN.{length, drop}
use Rattle.format.specs.Lent.{cells}
use Rattle.format.specs.Span.{before_opening}
use Rattle.search.proofs.opening.next_opening.Given as goal

-- What holds at each turn: no opening stands before place q.
abbrev pub invariant-loop-q : goal.invariant-loop-q
invariant-loop-q l = l.from + length (before_opening (drop l.from (cells l.track l.marks))) ≡ l.q + length (before_opening (drop l.q (cells l.track l.marks)))

-- What falls with each turn: the number of cells left.
abbrev pub decreases-loop-q : goal.decreases-loop-q
decreases-loop-q l = l.n - l.q
