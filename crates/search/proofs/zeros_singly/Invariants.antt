-- `zeros_singly` meets its contract: the zeros are those passed and those from place i on.
use mathlib.Core.Path.{◌≡◌}
use Prim.Native.Nat.{◌+◌}
use lib.ListN.{drop}
use Rattle.search.specs.Zero.{zero_run}
use Rattle.search.proofs.zeros_singly.Given as goal

-- What holds at each turn: the bytes up to place i are 0.
abbrev pub invariant-loop-i : goal.invariant-loop-i
invariant-loop-i l = zero_run l.bytes ≡ l.i + zero_run (drop l.i l.bytes)
