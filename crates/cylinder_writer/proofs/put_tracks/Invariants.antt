-- `put_tracks` meets its contract: the tracks passed, each with its packed marks, lie over the front.
use mathlib.Core.Path.{◌≡◌}
use Rattle.base.specs.Laid.{laid_over}
use Rattle.base.specs.Indexed.{sum_to, join_to}
use Rattle.cylinder.specs.Cylinder.{length_of, start_of}
use Rattle.cylinder.specs.File.{stored_size, stored_track}
use Rattle.cylinder_writer.specs.Writing.{lent}
use Rattle.cylinder_writer.proofs.put_tracks.Given as goal

-- What holds at each turn: the tracks passed with their packed marks lie over the front.
abbrev pub invariant-loop-l : goal.invariant-loop-l
invariant-loop-l l =
    (l.at ≡ start_of l.lengths.items.now l.l-index)
    × (l.p ≡ sum_to (λ j. stored_size (length_of l.lengths.items.now j)) l.l-index)
    × (l.out ≡ laid_over (join_to (stored_track (lent l.tracks l.marks l.lengths.items.now)) l.l-index) l.initial.out)
