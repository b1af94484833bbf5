-- `put_table` meets its contract: the entries of the tracks passed lie over the front.
use mathlib.Core.Path.{◌≡◌}
use Prim.Native.Nat.{◌+◌, ◌*◌, ◌≤◌}
use lib.ListN.{length}
use Rattle.base.specs.Laid.{laid_over}
use Rattle.base.specs.Indexed.{join_to}
use Rattle.cylinder.specs.Cylinder.{length_of}
use Rattle.cylinder.specs.File.{offset_of, entry}
use Rattle.cylinder_writer.proofs.put_table.Given as goal

-- What holds at each turn: the first k entries lie over the front, and the offset is that of track k; the table ends at 64 or before, a track takes at most 65,535 bytes and 8,192 for its marks.
abbrev pub invariant-loop-k : goal.invariant-loop-k
invariant-loop-k l =
    (l.offset ≡ offset_of (length l.lengths.items.now) (length_of l.lengths.items.now) l.k)
    × (l.offset ≤ 64 + l.k * (65535 + 8192))
    × (l.out ≡ laid_over (join_to (entry (length l.lengths.items.now) (length_of l.lengths.items.now)) l.k) l.initial.out)
