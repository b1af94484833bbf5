-- `unpack` meets its contract: at each turn the marks of the bytes passed are written.
use Rattle.std.proofs.Common.{◌≡◌, ◌*◌}
use Rattle.base.specs.Laid.{laid_over}
use Rattle.cylinder.specs.Packed.{unpacked}
use Rattle.cylinder_reader.proofs.unpacking.unpack.Given as goal

-- What holds at each turn: the marks of the first i bytes lie over the front.
abbrev pub invariant-loop-i : goal.invariant-loop-i
invariant-loop-i l = l.out ≡ laid_over (unpacked (l.i * 8) l.bytes) l.initial.out
