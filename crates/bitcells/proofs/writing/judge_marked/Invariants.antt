-- `judge_marked` meets its contract: the first fault is that of what is left.
use mathlib.Core.Path.{◌≡◌}
use Prim.Native.Nat.{◌*◌}
use lib.ListN.{drop}
use Rattle.pattern.specs.Pattern.{recordable}
use Rattle.bitcells.specs.Each.{each_byte, judge_each}
use Rattle.bitcells.proofs.writing.judge_marked.Given as goal

-- What holds at each turn: the bytes of the first k blocks can be recorded with their marks.
abbrev pub invariant-loop-k : goal.invariant-loop-k
invariant-loop-k l = judge_each 0 (each_byte recordable l.track l.marks) ≡ judge_each (32 * l.k) (each_byte recordable (drop (32 * l.k) l.track) (drop (32 * l.k) l.marks))
