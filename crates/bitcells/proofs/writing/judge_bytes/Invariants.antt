-- `judge_bytes` meets its contract: the first fault is that of what is left.
use mathlib.Core.Path.{◌≡◌}
use Prim.Native.Nat.{◌+◌}
use lib.ListN.{drop}
use Rattle.pattern.specs.Pattern.{recordable}
use Rattle.bitcells.specs.Each.{each_byte, judge_each}
use Rattle.bitcells.proofs.writing.judge_bytes.Given as goal

-- What holds at each turn: the first i bytes can be recorded with their marks.
abbrev pub invariant-loop-i : goal.invariant-loop-i
invariant-loop-i l = judge_each l.p (each_byte recordable l.track l.marks) ≡ judge_each (l.p + l.i) (drop l.i (each_byte recordable l.track l.marks))
