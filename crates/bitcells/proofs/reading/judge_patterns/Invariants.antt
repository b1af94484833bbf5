-- `judge_patterns` meets its contract: the first fault is that of what is left.
use mathlib.Core.Path.{◌≡◌}
use Prim.Native.Nat.{◌*◌}
use lib.ListN.{drop}
use Rattle.pattern.specs.Pattern.{legal_pattern}
use Rattle.bitcells.specs.Each.{each_pattern, judge_each}
use Rattle.bitcells.proofs.reading.judge_patterns.Given as goal

-- What holds at each turn: the patterns of the first k blocks are legal.
abbrev pub invariant-loop-k : goal.invariant-loop-k
invariant-loop-k l = judge_each 0 (each_pattern legal_pattern l.bit_cells) ≡ judge_each (16 * l.k) (each_pattern legal_pattern (drop (32 * l.k) l.bit_cells))
