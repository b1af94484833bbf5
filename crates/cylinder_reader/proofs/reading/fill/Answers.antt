-- `fill` meets its contract: the tracks passed and their marks are written.
use Rattle.std.proofs.Common.{◌≡◌, ◌+◌, ◌-◌, length, refl, sym, ◌∙◌, arith}
use Rattle.base.specs.Indexed.{sum_to, join_to}
use Rattle.base.specs.Laid.{laid_over}
use Rattle.base.proofs.Filling.{fill_more}
use Rattle.base.proofs.Indexed.{sum_next, sum_same, length_join}
use Rattle.cylinder.specs.Reading.{length_in, track_in, marks_in}
use Rattle.cylinder.proofs.Sound.{file_sound, due_first, due_next}
use Rattle.cylinder.proofs.HeldCylinder.{length_track, length_marks}
use Rattle.cylinder_layout.proofs.Part.{part_more}
use Rattle.cylinder_reader.proofs.Pieces.{count_in, entry_in, piece_in, track_cut, marks_cut}
use Rattle.cylinder_reader.proofs.reading.fill.Goals as goal

pub loop-l-init : goal.loop-l-init
unfolding sum_to join_to laid_over
loop-l-init c =
    let f = c.args.file.now in
    let n = count_in f c.args.table.items.now c.requires.table_value in
    (omega (arith, due_first f), refl, refl, refl)

pub loop-l-preserved : goal.loop-l-preserved
loop-l-preserved c =
    let a = c.args in
    let f = a.file.now in
    let l = c.loop-l in
    let k = l.l-index in
    let p = c.requires in
    let z = c.from-size.result in
    let s = c.packed_size in
    let n = count_in f a.table.items.now p.table_value in
    let w : z ≡ length_in f k = c.from-size.ensures ∙ entry_in f a.table.items.now k p.table_value (omega arith) in
    let long = length_track f (file_sound f p.file_value) in
    let at : l.at ≡ length (join_to (track_in f) k) =
    l.invariant.1 ∙ sym (length_join (track_in f) k ∙ sum_same (λ j. length (track_in f j)) (length_in f) k (λ j b. long j (omega arith))) in
    let track = part_more (track_in f) k l.at (l.at + z - l.at) a.tracks.now l.tracks c.copy_from_slice.new.self at (long k (omega arith) ∙ omega arith) l.invariant.2
    (c.copy_from_slice.ensures.after ∙ track_cut f k l.offset z l.invariant.0 w) in
    let q = rw (marks_cut f k l.offset z s.result l.invariant.0 w s.ensures) at c.unpack.ensures in
    let marks = fill_more (marks_in f) (length_in f) k l.at a.marks.now l.marks c.unpack.new.out l.invariant.1 (λ j b. length_marks f j)
    (omega (arith, l.invariant.1, p.marks_len, (piece_in f k p.file_value (omega arith)).1)) l.invariant.3 q in
    (omega (arith, due_next f k, w, s.ensures), omega (arith, sum_next (length_in f) k, w), track, marks.1)
