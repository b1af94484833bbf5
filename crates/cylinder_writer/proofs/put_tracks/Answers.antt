-- `put_tracks` meets its contract: the tracks passed, each with its packed marks, lie over the front.
use mathlib.Core.Path.{◌≡◌, refl, ap, ap₂, ◌∙◌}
use Prim.Native.Nat.{ℕ, ◌-◌, ◌+◌}
use native.Mathlib.Omega.{arith}
use mathlib.Core.List.{List, ◌++◌}
use lib.ListN.{length, take, drop}
use Rattle.base.specs.Laid.{laid_over}
use Rattle.base.specs.Indexed.{sum_to, join_to}
use Rattle.base.proofs.Lists.{part_all_length, cut_is, cut_length}
use Rattle.base.proofs.Indexed.{sum_next}
use Rattle.base.proofs.Filling.{fill_more}
use Rattle.cylinder.specs.Cylinder.{length_of, part_of, track_of, track_marks_of}
use Rattle.cylinder.specs.Packed.{packed}
use Rattle.cylinder.specs.File.{stored_size, stored_track, stored_tracks}
use Rattle.cylinder.proofs.Sizes.{cylinder_lent_lem, length_stored}
use Rattle.cylinder_writer.specs.Writing.{lent}
use Rattle.cylinder_writer.proofs.Pieces.{track_fits}
use borrow.Author.Rules.{rules}
use Rattle.cylinder_writer.proofs.put_tracks.Goals as goal

pub loop-l-init : goal.loop-l-init
unfolding laid_over sum_to join_to
loop-l-init c = (refl, refl, refl)

pub slice_bounds-put_track-count-in-loop-l-2 : goal.slice_bounds-put_track-count-in-loop-l-2
slice_bounds-put_track-count-in-loop-l-2 c =
    let a = c.args in
    let t = track_fits a.tracks.now a.marks.now a.lengths.items.now a.out.now c.loop-l.l-index c.requires.lengths_value c.requires.lengths_in_bounds (omega arith) in
    search rules

pub slice_bounds-put_track-start-in-loop-l-2 : goal.slice_bounds-put_track-start-in-loop-l-2
slice_bounds-put_track-start-in-loop-l-2 c =
    let a = c.args in
    let t = track_fits a.tracks.now a.marks.now a.lengths.items.now a.out.now c.loop-l.l-index c.requires.lengths_value c.requires.lengths_in_bounds (omega arith) in
    search rules

pub overflow_add-p : goal.overflow_add-p
overflow_add-p c =
    let a = c.args in
    let t = track_fits a.tracks.now a.marks.now a.lengths.items.now a.out.now c.loop-l.l-index c.requires.lengths_value c.requires.lengths_in_bounds (omega arith) in
    search rules

pub put_track-requires : goal.put_track-requires
put_track-requires c =
    let a = c.args in
    let l = c.loop-l in
    let w = c.from in
    let t = track_fits a.tracks.now a.marks.now a.lengths.items.now a.out.now l.l-index c.requires.lengths_value c.requires.lengths_in_bounds (omega arith) in
    let x = cut_length l.at w.result a.tracks.now (omega (arith, w.ensures)) in
    let y = cut_length l.at w.result a.marks.now (omega (arith, w.ensures)) in
    let z = part_all_length l.p l.out in
    (omega arith, omega (arith, w.ensures), rw x (omega (arith, w.ensures)))

pub loop-l-preserved : goal.loop-l-preserved
unfolding stored_track part_of
loop-l-preserved c =
    let a = c.args in
    let ls = a.lengths.items.now in
    let l = c.loop-l in
    let w = c.from in
    let put = c.put_track in
    let r = lent a.tracks.now a.marks.now ls in
    let t = track_fits a.tracks.now a.marks.now a.lengths.items.now a.out.now l.l-index c.requires.lengths_value c.requires.lengths_in_bounds (omega arith) in
    let e : w.result ≡ length_of ls l.l-index = w.ensures in
    let g : ℕ → ℕ = λ j. stored_size (length_of ls j) in
    let bytes : take (l.at + w.result - l.at) (drop l.at a.tracks.now) ≡ track_of r l.l-index = rw (cut_is l.at w.result a.tracks.now, e, l.invariant.0) in
    let marks : take (l.at + w.result - l.at) (drop l.at a.marks.now) ≡ track_marks_of r l.l-index = rw (cut_is l.at w.result a.marks.now, e, l.invariant.0) in
    let q = put.ensures ∙ ap₂ (λ (x y : List ℕ). laid_over (x ++ packed y) (take (length l.out - l.p) (drop l.p l.out))) bytes marks in
    let x = fill_more (stored_track r) g l.l-index l.p a.out.now l.out put.new.out l.invariant.1
    (λ j b. length_stored r (cylinder_lent_lem r c.requires.lengths_value) j (omega arith)) (omega arith) l.invariant.2 q in
    (omega (arith, sum_next (length_of ls) l.l-index), omega (arith, sum_next g l.l-index, c.stored_size-p.ensures.value), x.1)

pub returns : goal.returns
unfolding stored_tracks
returns c =
    let a = c.args in
    let l = c.loop-l in
    let n : l.l-index ≡ length a.lengths.items.now = omega arith in
    l.invariant.2 ∙ ap (λ (i : ℕ). laid_over (join_to (stored_track (lent a.tracks.now a.marks.now a.lengths.items.now)) i) a.out.now) n
