-- `judge_marks` meets its contract: what is left behind each opening decides, and the table has the openings passed.
use Rattle.std.proofs.Common.{sym, ◌∙◌, ◌+◌, ◌-◌, ◌≤◌, length, drop, arith}
use Rattle.std.proofs.Math.ListN.{length-set}
use Rattle.format.specs.Lent.{cells}
use Rattle.accepting.specs.Starts.{starts_in}
use Rattle.accepting.proofs.MarkToMark.{past_good, past_starts, ends_good, ends_starts, close_stray, start_early, start_other, start_passed, start_listed, start_room, one_more, all_listed}
use Rattle.accepting.proofs.marks.judge_marks.Goals as goal

pub returns-then-run-n-clause-result_value : goal.returns-then-run-n-clause-result_value
returns-then-run-n-clause-result_value c =
    let x = c.loop-q in
    sym (x.invariant.judged ∙ ends_good c.args.e x.q _ _ (cells c.args.track.now c.args.marks.now) c.cell_count-n.ensures.value c.unmarked_run-run.ensures c.if-run-n.true)

pub returns-then-run-n-clause-listed : goal.returns-then-run-n-clause-listed
returns-then-run-n-clause-listed c =
    let x = c.loop-q in
    (omega arith, all_listed x.k _ x.starts _ x.invariant.listed (ends_starts c.args.e x.q _ _ (cells c.args.track.now c.args.marks.now) c.cell_count-n.ensures.value c.unmarked_run-run.ensures c.if-run-n.true))

pub returns-then-run-lt5-clause-result_value : goal.returns-then-run-lt5-clause-result_value
returns-then-run-lt5-clause-result_value c =
    let x = c.loop-q in
    sym (x.invariant.judged ∙ close_stray c.args.e x.q _ _ (cells c.args.track.now c.args.marks.now) c.cell_count-n.ensures.value c.unmarked_run-run.ensures c.loop-q-test.true c.if-run-n.false (omega arith))

pub returns-then-start-e-clause-result_value : goal.returns-then-start-e-clause-result_value
returns-then-start-e-clause-result_value c =
    let x = c.loop-q in
    let r = c.unmarked_run-run in
    sym (x.invariant.judged ∙ start_early c.args.e x.q _ _ (cells c.args.track.now c.args.marks.now) c.cell_count-n.ensures.value r.ensures (x.q + r.result - 5) (omega arith) (omega arith) c.loop-q-test.true c.if-run-n.false (omega arith))

pub returns-then-not-opens_marked-clause-result_value : goal.returns-then-not-opens_marked-clause-result_value
returns-then-not-opens_marked-clause-result_value c =
    let x = c.loop-q in
    let r = c.unmarked_run-run in
    sym (x.invariant.judged ∙ start_other c.args.e x.q _ _ (cells c.args.track.now c.args.marks.now) c.cell_count-n.ensures.value r.ensures (x.q + r.result - 5) (omega arith) (omega arith) c.loop-q-test.true c.if-run-n.false (sym c.opens_marked.ensures ∙ c.if-not-opens_marked.true))

pub loop-q-preserved : goal.loop-q-preserved
loop-q-preserved c =
    let a = c.args in
    let d = cells a.track.now a.marks.now in
    let x = c.loop-q in
    let n = c.cell_count-n in
    let r = c.unmarked_run-run in
    let s = x.q + r.result - 5 in
    let o = sym c.opens_marked.ensures ∙ c.if-not-opens_marked.false in
    let m : s + 8 ≤ length d = start_room s d o in
    record {
      within = omega arith;
      few = omega arith;
      size = length-set x.starts x.k s ∙ x.invariant.size;
      judged = x.invariant.judged ∙ start_passed a.e x.q _ _ d n.ensures.value r.ensures s (omega arith) (omega arith) (omega arith) o;
      listed = one_more x.k s _ x.starts (starts_in (s + 8) (drop (s + 8) d)) (omega arith) (x.invariant.listed ∙ rw (start_listed a.e x.q _ _ d n.ensures.value r.ensures s (omega arith) (omega arith) o));
    }

pub returns-clause-result_value : goal.returns-clause-result_value
returns-clause-result_value c =
    let x = c.loop-q in
    sym (x.invariant.judged ∙ past_good c.args.e x.q (cells c.args.track.now c.args.marks.now) (omega arith))

pub returns-clause-listed : goal.returns-clause-listed
returns-clause-listed c =
    let x = c.loop-q in
    (omega arith, all_listed x.k _ x.starts _ x.invariant.listed (past_starts x.q (cells c.args.track.now c.args.marks.now) (omega arith)))
