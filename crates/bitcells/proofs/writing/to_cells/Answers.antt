-- `to_cells` meets its contract: 1 and 17 before anything is written, then the cell bytes.
use mathlib.Core.Path.{refl, sym, ◌∙◌}
use native.Mathlib.Omega.{arith}
use lib.ListN.{length}
use Rattle.std.proofs.lemmas.Result.{err_from_is_err_and}
use Rattle.format.proofs.Track.Pairs.{lent_marks}
use Rattle.bitcells.specs.ToCells.{written_cells}
use Rattle.bitcells.proofs.Outcome.{to_unlent, to_fault, to_done, to_lent, cells_refused, cells_good}
use Rattle.bitcells.proofs.writing.to_cells.Goals as goal

pub returns-then-not-lent_to : goal.returns-then-not-lent_to
returns-then-not-lent_to c =
    let a = c.args in
    let e = sym c.lent_to.ensures ∙ c.if-not-lent_to.true in
    let whole = cells_refused _ _ _ a.bit_cells.now (to_unlent a.track.now a.marks.now (length a.bit_cells.now) e) refl in
    record { answer = whole.0; bytes = whole.1 }

pub judge_marked-requires : goal.judge_marked-requires
judge_marked-requires c =
    let a = c.args in
    let e = sym c.lent_to.ensures ∙ c.if-not-lent_to.false in
    lent_marks a.track.now a.marks.now (to_lent a.track.now a.marks.now (length a.bit_cells.now) e).0

pub returns-in_err-judge_marked : goal.returns-in_err-judge_marked
returns-in_err-judge_marked c =
    let a = c.args in
    let e = sym c.lent_to.ensures ∙ c.if-not-lent_to.false in
    let p = err_from_is_err_and c.from_residual.result c.from_residual.ensures.1 in
    let whole = cells_refused _ _ _ a.bit_cells.now (to_fault a.track.now a.marks.now (length a.bit_cells.now) e _ (sym c.in_err-judge_marked.ensures)) refl in
    record { answer = rw (p.1, p.2) whole.0; bytes = whole.1 }

pub write_cells-requires : goal.write_cells-requires
write_cells-requires c =
    let a = c.args in
    let e = sym c.lent_to.ensures ∙ c.if-not-lent_to.false in
    let n = to_lent a.track.now a.marks.now (length a.bit_cells.now) e in
    let m = lent_marks a.track.now a.marks.now n.0 in
    record { marks_len = omega (arith, m); bit_cells_len = omega (arith, m, n.1) }

pub returns : goal.returns
returns c =
    let a = c.args in
    let t = a.track.now in
    let m = a.marks.now in
    let wrote = c.write_cells in
    let e = sym c.lent_to.ensures ∙ c.if-not-lent_to.false in
    let whole = cells_good _ _ a.bit_cells.now (written_cells t m) wrote.new.bit_cells (to_done t m (length a.bit_cells.now) e (sym c.in_ok-judge_marked.ensures)) refl wrote.ensures in
    record { answer = whole.0; bytes = whole.1 }
