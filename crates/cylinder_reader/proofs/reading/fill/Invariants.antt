-- `fill` meets its contract: the tracks passed and their marks are written.
use Rattle.std.proofs.Common.{◌≡◌}
use Rattle.base.specs.Indexed.{sum_to, join_to}
use Rattle.base.specs.Laid.{laid_over}
use Rattle.cylinder.specs.Reading.{length_in, offset_due, track_in, marks_in}
use Rattle.cylinder_reader.proofs.reading.fill.Given as goal

-- What holds at each turn: the next track is due at the offset, and the bytes and the marks of those before it are written.
abbrev pub invariant-loop-l : goal.invariant-loop-l
invariant-loop-l l =
    (l.offset ≡ offset_due l.file l.l-index) × (l.at ≡ sum_to (length_in l.file) l.l-index)
    × (l.tracks ≡ laid_over (join_to (track_in l.file) l.l-index) l.initial.tracks)
    × (l.marks ≡ laid_over (join_to (marks_in l.file) l.l-index) l.initial.marks)
