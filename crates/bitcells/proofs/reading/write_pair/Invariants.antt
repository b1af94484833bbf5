-- `write_pair` meets its contract: at each turn the bytes and marks passed are written.
use mathlib.Core.Path.{◌≡◌}
use Rattle.pattern.specs.Pattern.{data_in, mark_in}
use Rattle.bitcells.specs.Each.{each_pattern}
use Rattle.base.proofs.Filled.{filled}
use Rattle.bitcells.proofs.reading.write_pair.Given as goal

-- What holds at each turn: the first i bytes and marks are written.
abbrev pub invariant-loop-i : goal.invariant-loop-i
invariant-loop-i l =
    (l.track ≡ filled (each_pattern data_in l.bit_cells) l.i l.initial.track)
    × (l.marks ≡ filled (each_pattern mark_in l.bit_cells) l.i l.initial.marks)
