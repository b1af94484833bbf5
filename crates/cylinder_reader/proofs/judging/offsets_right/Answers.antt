-- `offsets_right` meets its contract: the tracks passed have the offsets that are due.
use Rattle.std.proofs.Common.{◌≡◌, true, false, refl, sym, ◌∙◌, arith}
use borrow.Author.Tests.{eq-eqb, ne_eqb}
use lib.Dec.{eqb}
use Rattle.base.specs.Indexed.{all_to}
use Rattle.base.proofs.Tests.{and_make}
use Rattle.base.proofs.Indexed.{all_next, one_fails}
use Rattle.cylinder.specs.Reading.{track_count_in, offset_in, offset_due, offsets_right}
use Rattle.cylinder.proofs.Sound.{due_first, due_next}
use Rattle.cylinder_reader.proofs.Pieces.{count_in, entry_in}
use Rattle.cylinder_reader.proofs.judging.offsets_right.Goals as goal

pub loop-k-init : goal.loop-k-init
unfolding all_to
loop-k-init c =
    let f = c.args.file.now in
    let n = count_in f c.args.lengths.items.now c.requires.lengths_value in
    (omega (arith, due_first f), omega arith, refl)

pub returns-then-offset_in-due : goal.returns-then-offset_in-due
unfolding offsets_right
returns-then-offset_in-due c =
    let f = c.args.file.now in
    let l = c.loop-k in
    let n = count_in f c.args.lengths.items.now c.requires.lengths_value in
    let e : eqb (offset_in f l.k) (offset_due f l.k) ≡ false = ne_eqb _ _ (λ q. c.if-offset_in-due.true (c.offset_in.ensures ∙ q ∙ sym l.invariant.0)) in
    sym (one_fails (λ k. eqb (offset_in f k) (offset_due f k)) (track_count_in f) l.k (omega arith) e)

pub loop-k-preserved : goal.loop-k-preserved
loop-k-preserved c =
    let f = c.args.file.now in
    let l = c.loop-k in
    let s = c.stored_size-due.ensures in
    let w = entry_in f c.args.lengths.items.now l.k c.requires.lengths_value (omega arith) in
    let e : eqb (offset_in f l.k) (offset_due f l.k) ≡ true = eq-eqb _ _ (sym c.offset_in.ensures ∙ c.if-offset_in-due.false ∙ l.invariant.0) in (
      omega (arith, due_next f l.k, s.value, w),
      omega (arith, s.upper_bound),
      all_next (λ k. eqb (offset_in f k) (offset_due f k)) l.k ∙ and_make l.invariant.2 e,
    )

pub returns : goal.returns
unfolding offsets_right
returns c =
    let f = c.args.file.now in
    let l = c.loop-k in
    let n = count_in f c.args.lengths.items.now c.requires.lengths_value in
    let e : l.k ≡ track_count_in f = omega arith in
    rw (← e) (sym l.invariant.2)
