-- `judge_behind` meets its contract: marks, sectors and numbers in turn.
use Rattle.std.proofs.Common.{refl, sym, ◌∙◌}
use Rattle.std.proofs.lemmas.Result.{err_from_is_err_and}
use Rattle.format.specs.Lent.{cells}
use Rattle.format.proofs.Base.Judged.{refusal_number}
use Rattle.sector.specs.As.{as_home}
use Rattle.accepting.proofs.AcceptBehind.{lent_longest, unstrayed, behind_stray, behind_refused, behind_opened, behind_numbers}
use Rattle.accepting.proofs.judge_behind.Goals as goal

pub judge_marks-requires : goal.judge_marks-requires
judge_marks-requires c = (lent_longest c.args.track.now c.args.marks.now c.requires.marks_value, refl)

pub returns-in_err-k : goal.returns-in_err-k
returns-in_err-k c =
    let a = c.args in
    let p = err_from_is_err_and c.from_residual.result c.from_residual.ensures.1 in
    rw (p.1, p.2) (behind_stray (as_home a.h) (cells a.track.now a.marks.now) _ c.in_err-k.ensures.result_value)

pub judge_sectors-requires : goal.judge_sectors-requires
judge_sectors-requires c =
    let a = c.args in
    unstrayed a.h.place a.track.now a.marks.now _ c.requires.home_first_le_place.1 c.requires.marks_value (sym c.in_ok-k.ensures.result_value) c.in_ok-k.ensures.listed.1

pub returns-in_err-judge_sectors : goal.returns-in_err-judge_sectors
returns-in_err-judge_sectors c =
    let a = c.args in
    let p = err_from_is_err_and c.from_residual-in_err-judge_sectors.result c.from_residual-in_err-judge_sectors.ensures.1 in
    rw (p.1, p.2) (behind_refused (as_home a.h) (cells a.track.now a.marks.now) c.in_ok-k.ensures.result_value _ c.in_err-judge_sectors.ensures (refusal_number _))

pub judge_numbers-requires-clause-no_stray_mark : goal.judge_numbers-requires-clause-no_stray_mark
judge_numbers-requires-clause-no_stray_mark c =
    let a = c.args in
    unstrayed a.h.place a.track.now a.marks.now _ c.requires.home_first_le_place.1 c.requires.marks_value (sym c.in_ok-k.ensures.result_value) c.in_ok-k.ensures.listed.1

pub judge_numbers-requires-clause-marks_value : goal.judge_numbers-requires-clause-marks_value
judge_numbers-requires-clause-marks_value c =
    let a = c.args in
    behind_opened (as_home a.h) (cells a.track.now a.marks.now) c.in_ok-k.ensures.result_value _ c.in_ok-judge_sectors.ensures refl

pub returns : goal.returns
returns c =
    let a = c.args in
    c.judge_numbers.ensures ∙ behind_numbers (as_home a.h) (cells a.track.now a.marks.now) c.in_ok-k.ensures.result_value _ c.in_ok-judge_sectors.ensures refl
