-- `judge_cells` meets its contract: the first fault is that of what is left.
use mathlib.Core.Path.{◌≡◌}
use Prim.Native.Nat.{◌+◌}
use lib.ListN.{drop}
use Rattle.pattern.specs.Pattern.{legal_pattern}
use Rattle.bitcells.specs.Each.{each_pattern, judge_each}
use Rattle.bitcells.proofs.reading.judge_cells.Given as goal

-- What holds at each turn: the patterns of the first i bytes are legal.
abbrev pub invariant-loop-i : goal.invariant-loop-i
invariant-loop-i l = judge_each l.p (each_pattern legal_pattern l.bit_cells) ≡ judge_each (l.p + l.i) (drop l.i (each_pattern legal_pattern l.bit_cells))
