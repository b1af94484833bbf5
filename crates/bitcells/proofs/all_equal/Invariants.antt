-- `all_equal` meets its contract: at each turn all is whether the bytes passed have them.
use mathlib.Core.Path.{◌≡◌}
use lib.Bits.{bit_and}
use lib.Dec.{eqb}
use lib.ListN.{take}
use Rattle.std.specs.List.{list_all}
use Rattle.bitcells.proofs.all_equal.Given as goal

-- What holds at each turn.
abbrev pub invariant-loop-b : goal.invariant-loop-b
invariant-loop-b l = l.all ≡ list_all (λ b. eqb (bit_and b l.mask) l.wanted) (take l.b-index l.bytes)
