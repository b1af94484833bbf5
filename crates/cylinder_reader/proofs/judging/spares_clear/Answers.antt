-- `spares_clear` meets its contract: the spare bits of the tracks passed are zero.
use Rattle.std.proofs.Common.{◌≡◌, refl, sym, ◌∙◌, arith}
use Rattle.base.specs.Indexed.{all_to}
use Rattle.base.proofs.Tests.{and_make}
use Rattle.base.proofs.Indexed.{all_next, one_fails}
use Rattle.cylinder.specs.Packed.{spare_clear}
use Rattle.cylinder.specs.Reading.{track_count_in, length_in, packed_in, spares_clear}
use Rattle.cylinder.proofs.Sound.{due_first, due_next}
use Rattle.cylinder_reader.proofs.Pieces.{count_in, entry_in, spare_cut}
use Rattle.cylinder_reader.proofs.judging.spares_clear.Goals as goal

pub loop-l-init : goal.loop-l-init
unfolding all_to
loop-l-init c =
    let f = c.args.file.now in
    let n = count_in f c.args.lengths.items.now c.requires.lengths_value in
    (omega (arith, due_first f), refl)

pub returns-then-not-spare_clear : goal.returns-then-not-spare_clear
unfolding spares_clear
returns-then-not-spare_clear c =
    let f = c.args.file.now in
    let l = c.loop-l in
    let n = count_in f c.args.lengths.items.now c.requires.lengths_value in
    let w = c.from-size.ensures ∙ entry_in f c.args.lengths.items.now l.l-index c.requires.lengths_value (omega arith) in
    let s = c.packed_size in
    let e = sym (c.spare_clear.ensures ∙ spare_cut f l.l-index l.offset c.from-size.result s.result l.invariant.0 w s.ensures) ∙ c.if-not-spare_clear.true in
    sym (one_fails (λ k. spare_clear (length_in f k) (packed_in f k)) (track_count_in f) l.l-index (omega arith) e)

pub loop-l-preserved : goal.loop-l-preserved
loop-l-preserved c =
    let f = c.args.file.now in
    let l = c.loop-l in
    let w = c.from-size.ensures ∙ entry_in f c.args.lengths.items.now l.l-index c.requires.lengths_value (omega arith) in
    let s = c.packed_size in
    let e = sym (c.spare_clear.ensures ∙ spare_cut f l.l-index l.offset c.from-size.result s.result l.invariant.0 w s.ensures) ∙ c.if-not-spare_clear.false in
    (omega (arith, due_next f l.l-index, w, s.ensures), all_next (λ k. spare_clear (length_in f k) (packed_in f k)) l.l-index ∙ and_make l.invariant.1 e)

pub returns : goal.returns
unfolding spares_clear
returns c =
    let f = c.args.file.now in
    let l = c.loop-l in
    let n = count_in f c.args.lengths.items.now c.requires.lengths_value in
    let e : l.l-index ≡ track_count_in f = omega arith in
    rw (← e) (sym l.invariant.1)
