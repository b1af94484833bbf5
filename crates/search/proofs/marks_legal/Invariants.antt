-- `marks_legal` meets its contract: the marks are legal where the fold so far and those that are left are.
use mathlib.Core.Path.{◌≡◌}
use mathlib.Core.Bool.{◌&&◌}
use lib.Dec.{ltb}
use lib.ListN.{drop}
use Rattle.format.specs.Lent.{marks_legal}
use Rattle.search.proofs.marks_legal.Given as goal

-- What holds at each turn.
abbrev pub invariant-loop-mark : goal.invariant-loop-mark
invariant-loop-mark l = marks_legal l.marks ≡ (ltb l.any 2 && marks_legal (drop l.mark-index l.marks))
