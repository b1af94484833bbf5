-- `starts_with` meets its contract: the opening stands there where the fold so far is 0 and what is left of it stands behind the cells compared.
use mathlib.Core.Path.{◌≡◌}
use Prim.Native.Nat.{◌+◌, ◌≤◌}
use mathlib.Core.Bool.{◌&&◌}
use lib.Dec.{eqb}
use lib.ListN.{length, drop}
use Rattle.format.specs.Lent.{cells}
use Rattle.format.specs.Opening.{starts_with}
use Rattle.search.proofs.starts_with.Given as goal

-- What holds at each turn.
abbrev pub invariant-loop-k : goal.invariant-loop-k
invariant-loop-k l =
    (l.k ≤ l.size) × (l.size ≡ length (cells l.opening l.marking)) × (l.size ≤ length (drop l.p (cells l.track l.marks)))
    × (starts_with (cells l.opening l.marking) (drop l.p (cells l.track l.marks)) ≡ (eqb l.any 0 && starts_with (drop l.k (cells l.opening l.marking)) (drop (l.p + l.k) (cells l.track l.marks))))
