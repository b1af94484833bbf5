-- `offsets_right` meets its contract: the tracks passed have the offsets that are due.
use Rattle.std.proofs.Common.{◌≡◌, ◌+◌, ◌*◌, ◌≤◌, true}
use lib.Dec.{eqb}
use Rattle.base.specs.Indexed.{all_to}
use Rattle.cylinder.specs.Reading.{offset_in, offset_due}
use Rattle.cylinder_reader.proofs.judging.offsets_right.Given as goal

-- What holds at each turn: `due` is the offset that is due for track k, and the tracks before it have theirs; the table ends at 64 or before, a track takes at most 65,535 bytes and 8,192 for its marks.
abbrev pub invariant-loop-k : goal.invariant-loop-k
invariant-loop-k l =
    (l.due ≡ offset_due l.file l.k) × (l.due ≤ 64 + l.k * (65535 + 8192))
    × (all_to (λ k. eqb (offset_in l.file k) (offset_due l.file k)) l.k ≡ true)
