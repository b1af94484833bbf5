-- `pack` meets its contract: at each turn the bytes passed are written.
use mathlib.Core.Path.{◌≡◌}
use Prim.Native.Nat.{◌*◌}
use Rattle.base.specs.Indexed.{list_to}
use Rattle.base.specs.Laid.{laid_over}
use Rattle.cylinder.specs.Packed.{octet_at}
use Rattle.cylinder_writer.proofs.packing.pack.Given as goal

-- What holds at each turn: the first i bytes lie over the front.
abbrev pub invariant-loop-i : goal.invariant-loop-i
invariant-loop-i l = l.out ≡ laid_over (list_to (λ j. octet_at l.marks (j * 8)) l.i) l.initial.out
