-- `judge_numbers` meets its contract: the answer is that of the sectors left and of the numbers whose flags are set.
use Rattle.std.proofs.Common.{sym, ap, ◌∙◌}
use Rattle.format.specs.Judged.{answer_of}
use Rattle.accepting.proofs.AcceptTable.{from_none, from_zero, from_repeated, from_next}
use Rattle.accepting.proofs.judge_numbers.Goals as goal

pub returns-then-seen-s : goal.returns-then-seen-s
returns-then-seen-s c =
    let a = c.args in
    let z = from_zero a.track.now a.marks.now a.starts.now a.p c.requires.no_stray_mark c.requires.marks_value c.listed_span-zero.result.length c.listed_span-zero.ensures.0 c.from-number.result (c.from-number.ensures ∙ c.byte_at.ensures) in
    let r = from_repeated a.track.now a.marks.now a.starts.now a.p c.requires.no_stray_mark c.requires.marks_value c.loop-i.i c.from-q.result c.listed_span-span.result.length c.loop-i-test.true c.from-q.ensures c.listed_span-span.ensures.0 c.loop-i.seen c.from-s.result (c.from-s.ensures ∙ c.byte_at-in-loop-i.ensures) c.if-seen-s.true in
    sym (ap answer_of (z ∙ c.loop-i.invariant ∙ r))

pub loop-i-preserved : goal.loop-i-preserved
loop-i-preserved c =
    let a = c.args in
    c.loop-i.invariant
    ∙ from_next a.track.now a.marks.now a.starts.now a.p c.requires.no_stray_mark c.requires.marks_value c.loop-i.i c.from-q.result c.listed_span-span.result.length c.loop-i-test.true c.from-q.ensures c.listed_span-span.ensures.0 c.loop-i.seen c.from-s.result (c.from-s.ensures ∙ c.byte_at-in-loop-i.ensures) c.if-seen-s.false

pub returns : goal.returns
returns c =
    let a = c.args in
    let z = from_zero a.track.now a.marks.now a.starts.now a.p c.requires.no_stray_mark c.requires.marks_value c.listed_span-zero.result.length c.listed_span-zero.ensures.0 c.from-number.result (c.from-number.ensures ∙ c.byte_at.ensures) in
    sym (ap answer_of (z ∙ c.loop-i.invariant ∙ from_none a.track.now a.marks.now a.starts.now c.loop-i.seen c.loop-i.i c.loop-i-test.false))
