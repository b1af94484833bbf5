-- `list_rows` meets its contract: each turn of the loop stores the row of one record.
use Rattle.std.proofs.Common.{◌≡◌, ◌∙◌, refl, ap, arith, Ok, Err, length, ◌<◌}
use Rattle.std.proofs.lemmas.Result.{err_from_is_err_and}
use lib.Seq.{length-take-le, get_or-take}
use Rattle.base.proofs.Filled.{filled_more}
use Rattle.format.specs.Listing.{most_sectors, list}
use Rattle.listing.specs.Filling.{records_of, as_listed, empty}
use Rattle.rows.specs.Rows.{row_of, rows_of, low_bits}
use Rattle.rows.proofs.Rows.{row_at, short_rows, length_rows, told}
use Rattle.rows.proofs.list_rows.Goals as goal

pub returns-then-rows-lt-MOST_SECTORS : goal.returns-then-rows-lt-MOST_SECTORS
returns-then-rows-lt-MOST_SECTORS c =
    let a = c.args in
    let k = short_rows (length a.rows.now) a.track.now a.marks.now a.rows.now (omega arith) in
    record { answer = k.0; count = k.1; count_fits = tt; rows = k.2 }

pub returns-in_err-count : goal.returns-in_err-count
returns-in_err-count c =
    let a = c.args in
    let g = c.list_all-filled.ensures in
    let p = err_from_is_err_and c.from_residual.result c.from_residual.ensures.1 in
    let w = c.in_err-count.was in
    let k = told (length a.rows.now) a.track.now a.marks.now (Err c.in_err-count.field-0.0) a.rows.now a.rows.now (omega arith) (rw w at g.answer_value) (rw w at g.count_value) refl in
    rw (p.1, p.2) record { answer = k.answer; count = k.count; count_fits = tt; rows = k.rows }

pub loop-i-preserved : goal.loop-i-preserved
loop-i-preserved c =
    let a = c.args in
    let l = c.loop-i in
    let g = c.list_all-filled in
    let t = a.track.now in
    let m = a.marks.now in
    let all = rows_of (list most_sectors t m) in
    let n = rw c.in_ok-count.was at g.ensures.count_value in
    let s = rw c.in_ok-count.was at g.ensures.count_fits in
    let k = length-take-le c.in_ok-count.count g.result.records (omega arith) in
    let below : l.i < length (records_of (list most_sectors t m)) = omega arith in
    filled_more all a.rows.now l.rows l.i c.row_of.result (row_of (as_listed empty)) (omega (arith, length_rows t m)) (omega arith) l.invariant
    (c.row_of.ensures ∙ ap low_bits (get_or-take c.in_ok-count.count g.result.records l.i empty (omega arith)) ∙ row_at t m g.result.records _ _ l.i g.ensures.records_value below)

pub returns : goal.returns
returns c =
    let a = c.args in
    let l = c.loop-i in
    let g = c.list_all-filled in
    let n = c.in_ok-count.count in
    let w = c.in_ok-count.was in
    let s = rw w at g.ensures.count_fits in
    let k = length-take-le n g.result.records (omega arith) in
    let e : l.i ≡ n = omega arith in
    let o = told (length a.rows.now) a.track.now a.marks.now (Ok n) a.rows.now l.rows (omega arith) (rw w at g.ensures.answer_value) (rw w at g.ensures.count_value) (rw e at l.invariant) in
    record { answer = o.answer; count = o.count; count_fits = omega arith; rows = o.rows }
