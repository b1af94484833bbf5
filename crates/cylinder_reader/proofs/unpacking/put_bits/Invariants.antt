-- `put_bits` meets its contract: at each turn the bits passed are written.
use Rattle.std.proofs.Common.{◌≡◌}
use Rattle.base.specs.Indexed.{list_to}
use Rattle.base.specs.Laid.{laid_over}
use Rattle.cylinder.specs.Packed.{bit_of}
use Rattle.cylinder_reader.proofs.unpacking.put_bits.Given as goal

-- What holds at each turn: the first k bits lie over the front.
abbrev pub invariant-loop-k : goal.invariant-loop-k
invariant-loop-k l = l.out ≡ laid_over (list_to (bit_of l.x) l.k) l.initial.out
