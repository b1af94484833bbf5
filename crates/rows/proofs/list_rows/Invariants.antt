-- `list_rows` meets its contract: each turn of the loop stores the row of one record.
use Rattle.std.proofs.Common.{◌≡◌}
use Rattle.base.proofs.Filled.{filled}
use Rattle.format.specs.Listing.{most_sectors, list}
use Rattle.rows.specs.Rows.{rows_of}
use Rattle.rows.proofs.list_rows.Given as goal

abbrev pub invariant-loop-i : goal.invariant-loop-i
invariant-loop-i l = l.rows ≡ filled (rows_of (list most_sectors l.track l.marks)) l.i l.initial.rows
