-- `correct` meets its contract: 1 and the track's own answer before anything is written, then Correct on the accepted track.
use mathlib.Core.Path.{refl, sym, ◌∙◌}
use Rattle.std.proofs.lemmas.Result.{err_from_is_err_and}
use lib.ListN.{length}
use Rattle.format.proofs.Written.Outcome.{after_refused}
use Rattle.encode.specs.Gap.{as_rule}
use Rattle.writer.proofs.Outcome.{after_same}
use Rattle.format.specs.Accept.{accept}
use Rattle.writer.proofs.Judging.{judged_readable, judged_refused, readable_lent, agree_equal, correct_differ, correct_refused, correct_cells_lem}
use Rattle.writer.proofs.correcting.correct.Goals as goal

pub returns-then-not-lengths_agree : goal.returns-then-not-lengths_agree
returns-then-not-lengths_agree c =
    let a = c.args in
    after_refused _ _ _ a.new_track.now a.new_marks.now
    (correct_differ (as_rule a.rule) a.track.now a.marks.now (length a.new_track.now) (length a.new_marks.now) a.s a.key.now a.body.now
    (sym c.lengths_agree.ensures ∙ c.if-not-lengths_agree.true))
    refl

pub correct_on-requires : goal.correct_on-requires
correct_on-requires c =
    let a = c.args in
    let j = c.in_ok-h.ensures in
    let long = agree_equal a.track.now (length a.new_track.now) (length a.new_marks.now) (sym c.lengths_agree.ensures ∙ c.if-not-lengths_agree.false) in
    record { readable = judged_readable a.track.now a.marks.now _ j.result_value; out_len = long }

pub returns : goal.returns
returns c =
    let a = c.args in
    let j = c.in_ok-h.ensures in
    let lent = readable_lent a.track.now a.marks.now _ (judged_readable a.track.now a.marks.now _ j.result_value) in
    after_same _ _ _ a.new_track.now a.new_marks.now _ _
    (correct_cells_lem (as_rule a.rule) a.track.now a.marks.now (length a.new_track.now) (length a.new_marks.now) (sym c.lengths_agree.ensures ∙ c.if-not-lengths_agree.false) a.s a.key.now a.body.now lent)
    c.correct_on.ensures

pub returns-in_err-h : goal.returns-in_err-h
returns-in_err-h c =
    let a = c.args in
    let p = err_from_is_err_and c.from_residual.result c.from_residual.ensures.1 in
    rw (p.1, p.2) (after_refused _ _ _ a.new_track.now a.new_marks.now
    (correct_refused (as_rule a.rule) a.track.now a.marks.now (length a.new_track.now) (length a.new_marks.now) (sym c.lengths_agree.ensures ∙ c.if-not-lengths_agree.false) a.s a.key.now a.body.now
    _ (judged_refused (accept a.track.now a.marks.now) _ c.in_err-h.ensures.result_value))
    refl)
