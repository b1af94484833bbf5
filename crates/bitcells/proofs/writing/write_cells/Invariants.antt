-- `write_cells` meets its contract: at each turn the cell bytes of the bytes passed are written.
use mathlib.Core.Path.{◌≡◌}
use Prim.Native.Nat.{◌*◌}
use Rattle.bitcells.specs.ToCells.{written_cells}
use Rattle.base.proofs.Filled.{filled}
use Rattle.bitcells.proofs.writing.write_cells.Given as goal

-- What holds at each turn: the cell bytes of the first i bytes are written.
abbrev pub invariant-loop-i : goal.invariant-loop-i
invariant-loop-i l = l.bit_cells ≡ filled (written_cells l.track l.marks) (2 * l.i) l.initial.bit_cells
