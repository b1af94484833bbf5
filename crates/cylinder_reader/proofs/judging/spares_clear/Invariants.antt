-- `spares_clear` meets its contract: the spare bits of the tracks passed are zero.
use Rattle.std.proofs.Common.{◌≡◌, true}
use Rattle.base.specs.Indexed.{all_to}
use Rattle.cylinder.specs.Packed.{spare_clear}
use Rattle.cylinder.specs.Reading.{length_in, offset_due, packed_in}
use Rattle.cylinder_reader.proofs.judging.spares_clear.Given as goal

-- What holds at each turn: the next track is due at the offset, and the spare bits of those before it are zero.
abbrev pub invariant-loop-l : goal.invariant-loop-l
invariant-loop-l l = (l.offset ≡ offset_due l.file l.l-index) × (all_to (λ k. spare_clear (length_in l.file k) (packed_in l.file k)) l.l-index ≡ true)
