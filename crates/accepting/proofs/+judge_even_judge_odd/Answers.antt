-- The cycle of calls of `judge_even` and `judge_odd` meets its contracts: each judges the next span and hands on what is left.
use Rattle.std.proofs.Common.{sym, ◌∙◌, arith}
use Rattle.sector.specs.As.{as_address, as_home}
use Rattle.accepting.proofs.AcceptSpans.{no_span, rest_next}
use Rattle.accepting.proofs.AcceptWrong.{wrong_none, wrong_two, left_wrong, left_right}
use Rattle.accepting.proofs.+judge_even_judge_odd.Goals as goal

pub judge_even-returns-then-track-eq0 : goal.judge_even-returns-then-track-eq0
judge_even-returns-then-track-eq0 t c =
    sym (wrong_none (as_home c.args.h) 2 (as_address c.args.named) _ (no_span c.args.track.now c.args.marks.now c.if-track-eq0.true))

pub judge_even-returns-then-not-later_right : goal.judge_even-returns-then-not-later_right
judge_even-returns-then-not-later_right t c =
    let a = c.args in
    let s = c.listed_span-span in
    left_wrong (as_home a.h) 2 (as_address a.named) a.p s.result.length a.track.now a.marks.now a.starts.now c.requires s.ensures.0 c.if-track-eq0.false s.result.last s.ensures.1 (sym c.later_right.ensures ∙ c.if-not-later_right.true)

pub judge_even-judge_odd-requires : goal.judge_even-judge_odd-requires
judge_even-judge_odd-requires t c =
    let a = c.args in
    let s = c.listed_span-span in
    let r = rest_next a.p s.result.length a.track.now a.marks.now a.starts.now c.requires s.ensures.0 c.if-track-eq0.false in
    (omega (arith, r.0), r.1)

pub judge_even-returns : goal.judge_even-returns
judge_even-returns t c =
    let a = c.args in
    let s = c.listed_span-span in
    c.judge_odd.ensures ∙ wrong_two (as_home a.h) 0 (as_address a.named) _ ∙ left_right (as_home a.h) 2 (as_address a.named) a.p s.result.length a.track.now a.marks.now a.starts.now c.requires s.ensures.0 c.if-track-eq0.false s.result.last s.ensures.1 (sym c.later_right.ensures ∙ c.if-not-later_right.false)

pub judge_odd-returns-then-track-eq0 : goal.judge_odd-returns-then-track-eq0
judge_odd-returns-then-track-eq0 t c =
    sym (wrong_none (as_home c.args.h) 1 (as_address c.args.named) _ (no_span c.args.track.now c.args.marks.now c.if-track-eq0.true))

pub judge_odd-returns-then-not-later_right : goal.judge_odd-returns-then-not-later_right
judge_odd-returns-then-not-later_right t c =
    let a = c.args in
    let s = c.listed_span-span in
    left_wrong (as_home a.h) 1 (as_address a.named) a.p s.result.length a.track.now a.marks.now a.starts.now c.requires s.ensures.0 c.if-track-eq0.false s.result.last s.ensures.1 (sym c.later_right.ensures ∙ c.if-not-later_right.true)

pub judge_odd-judge_even-requires : goal.judge_odd-judge_even-requires
judge_odd-judge_even-requires t c =
    let a = c.args in
    let s = c.listed_span-span in
    let r = rest_next a.p s.result.length a.track.now a.marks.now a.starts.now c.requires s.ensures.0 c.if-track-eq0.false in
    (omega (arith, r.0), r.1)

pub judge_odd-returns : goal.judge_odd-returns
judge_odd-returns t c =
    let a = c.args in
    let s = c.listed_span-span in
    c.judge_even.ensures ∙ left_right (as_home a.h) 1 (as_address a.named) a.p s.result.length a.track.now a.marks.now a.starts.now c.requires s.ensures.0 c.if-track-eq0.false s.result.last s.ensures.1 (sym c.later_right.ensures ∙ c.if-not-later_right.false)
