-- `lengths_in` meets its contract: the Ls of the tracks passed are written.
use Rattle.std.proofs.Common.{◌≡◌, length}
use Rattle.base.specs.Indexed.{list_to}
use Rattle.base.specs.Laid.{laid_over}
use Rattle.cylinder.specs.Reading.{length_in}
use Rattle.cylinder_reader.proofs.table.lengths_in.Given as goal

-- What holds at each turn: the Ls before track k are written over ten.
abbrev pub invariant-loop-k : goal.invariant-loop-k
invariant-loop-k l = (length l.lengths ≡ 10) × (l.lengths ≡ laid_over (list_to (length_in l.file) l.k) l.initial.lengths)
