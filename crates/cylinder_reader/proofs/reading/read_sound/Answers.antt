-- `read_sound` meets its contract: 24 before anything is written, then the tracks, their marks and their Ls.
use Rattle.std.proofs.Common.{◌≡◌, length, true, sym, ap, ◌∙◌, arith}
use lib.Seq.{length-take-le}
use Rattle.base.specs.Laid.{laid_over}
use Rattle.base.proofs.Indexed.{length_list}
use Rattle.cylinder.specs.Reading.{track_count_in, length_in, room_for, read_cylinder}
use Rattle.cylinder_reader.specs.Reading.{room, lengths_in}
use Rattle.cylinder_reader.proofs.Pieces.{count_is, length_lengths, room_enough}
use Rattle.cylinder_reader.proofs.reading.read_sound.Goals as goal

pub slice_bounds-copy_from_slice-end-2 : goal.slice_bounds-copy_from_slice-end-2
slice_bounds-copy_from_slice-end-2 c =
    let a = c.args in
    let n : c.from-n.result ≡ track_count_in a.file.now = c.from-n.ensures ∙ c.two_bytes_at.ensures ∙ count_is a.file.now in
    let h = room_enough a.file.now (room (length a.tracks.now) (length a.marks.now) (length a.lengths.now)) (sym c.room_for.ensures ∙ c.if-not-room_for.false) in
    sym (length-take-le c.from-n.result a.lengths.now (omega (arith, h.2)))

pub copy_from_slice-requires : goal.copy_from_slice-requires
copy_from_slice-requires c =
    let a = c.args in
    let n : c.from-n.result ≡ track_count_in a.file.now = c.from-n.ensures ∙ c.two_bytes_at.ensures ∙ count_is a.file.now in
    let h = room_enough a.file.now (room (length a.tracks.now) (length a.marks.now) (length a.lengths.now)) (sym c.room_for.ensures ∙ c.if-not-room_for.false) in
    length-take-le c.from-n.result a.lengths.now (omega (arith, h.2)) ∙ n ∙ sym (ap length (c.first-table.ensures ∙ c.lengths_in-ten.ensures) ∙ length_lengths a.file.now)

pub returns-clause-count : goal.returns-clause-count
unfolding read_cylinder
returns-clause-count c =
    let a = c.args in
    let f = a.file.now in
    let d : room_for f (room (length a.tracks.now) (length a.marks.now) (length a.lengths.now)) ≡ true = sym c.room_for.ensures ∙ c.if-not-room_for.false in
    rw (c.requires, d) (c.from-n.ensures ∙ c.two_bytes_at.ensures ∙ count_is f ∙ sym (length_list (length_in f) (track_count_in f)))

pub returns-clause-lengths : goal.returns-clause-lengths
unfolding read_cylinder lengths_in laid_over
returns-clause-lengths c =
    let a = c.args in
    let f = a.file.now in
    let d : room_for f (room (length a.tracks.now) (length a.marks.now) (length a.lengths.now)) ≡ true = sym c.room_for.ensures ∙ c.if-not-room_for.false in
    let n : c.from-n.result ≡ track_count_in f = c.from-n.ensures ∙ c.two_bytes_at.ensures ∙ count_is f in
    rw (c.requires, d, c.copy_from_slice.ensures.after, (c.first-table.ensures ∙ c.lengths_in-ten.ensures), length_list (length_in f) (track_count_in f), n)
