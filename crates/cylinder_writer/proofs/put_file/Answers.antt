-- `put_file` meets its contract: the table behind the header, and the tracks behind both.
use mathlib.Core.Path.{sym, ◌∙◌}
use mathlib.Core.List.{◌++◌}
use lib.ListN.{length}
use Rattle.base.proofs.Laid.{laid_back, over_next}
use Rattle.cylinder.specs.File.{header, table, stored_tracks, cylinder_file}
use Rattle.cylinder.proofs.Sizes.{length_header, length_front}
use Rattle.cylinder_writer.specs.Writing.{lent}
use Rattle.cylinder_writer.proofs.put_file.Goals as goal

pub returns : goal.returns
unfolding cylinder_file
returns c =
    let a = c.args in
    let ls = a.lengths.items.now in
    let r = lent a.tracks.now a.marks.now ls in
    let one = c.put_header in
    let two = c.put_table in
    let p = c.table_end-first.result in
    let x = over_next 4 (header (length ls)) (table ls (length ls)) a.file.now one.new.out _ (sym (length_header (length ls))) one.ensures
    (laid_back 4 (table ls (length ls)) one.new.out two.new.out two.ensures) in
    over_next p (header (length ls) ++ table ls (length ls)) (stored_tracks r) a.file.now _ _ (c.table_end-first.ensures ∙ sym (length_front r)) x
    (laid_back p (stored_tracks r) _ c.put_tracks.new.out c.put_tracks.ensures)
