-- `from_cells` meets its contract: 1 and 17 before anything is written, then the track and its marks.
use mathlib.Core.Path.{refl, sym, ◌∙◌}
use native.Mathlib.Omega.{arith}
use lib.ListN.{length}
use Rattle.std.proofs.lemmas.Result.{err_from_is_err_and}
use Rattle.format.proofs.Written.Outcome.{after_refused, after_good}
use Rattle.bitcells.specs.FromCells.{read_pair}
use Rattle.bitcells.proofs.Outcome.{from_unlent, from_fault, from_done, from_lengths}
use Rattle.bitcells.proofs.reading.from_cells.Goals as goal

pub returns-then-not-lent_from : goal.returns-then-not-lent_from
returns-then-not-lent_from c =
    let a = c.args in
    let x = a.bit_cells.now in
    let e = sym c.lent_from.ensures ∙ c.if-not-lent_from.true in
    after_refused _ _ _ a.track.now a.marks.now (from_unlent x (length a.track.now) (length a.marks.now) e) refl

pub returns-in_err-judge_patterns : goal.returns-in_err-judge_patterns
returns-in_err-judge_patterns c =
    let a = c.args in
    let x = a.bit_cells.now in
    let e = sym c.lent_from.ensures ∙ c.if-not-lent_from.false in
    let p = err_from_is_err_and c.from_residual.result c.from_residual.ensures.1 in
    rw (p.1, p.2) (after_refused _ _ _ a.track.now a.marks.now (from_fault x (length a.track.now) (length a.marks.now) e _ (sym c.in_err-judge_patterns.ensures)) refl)

pub write_pair-requires : goal.write_pair-requires
write_pair-requires c =
    let a = c.args in
    let e = sym c.lent_from.ensures ∙ c.if-not-lent_from.false in
    let n = from_lengths a.bit_cells.now (length a.track.now) (length a.marks.now) e in
    record { bit_cells_len = omega (arith, n.0, n.1); marks_len = omega (arith, n.1) }

pub returns : goal.returns
returns c =
    let a = c.args in
    let x = a.bit_cells.now in
    let wrote = c.write_pair in
    let e = sym c.lent_from.ensures ∙ c.if-not-lent_from.false in
    let j = sym c.in_ok-judge_patterns.ensures in
    after_good _ _ (read_pair x) a.track.now a.marks.now wrote.new.track wrote.new.marks
    (from_done x (length a.track.now) (length a.marks.now) e j) refl wrote.ensures.bytes wrote.ensures.marks
