-- `judge_later` meets its contract: the first wrong sector, found by the number of those left, gives the answer.
use mathlib.Core.Path.{sym, ◌∙◌}
use Rattle.sector.specs.As.{as_address, as_home}
use Rattle.base.proofs.Lists.{part_all}
use Rattle.accepting.proofs.AcceptWrong.{all_right, wrong_front, wrong_answer}
use Rattle.accepting.proofs.judge_later.Goals as goal

pub returns-then-left-eq0 : goal.returns-then-left-eq0
returns-then-left-eq0 c =
    let a = c.args in
    let r = c.requires.later_spans in
    let o = c.judge_odd-left in
    let e = rw (part_all a.p a.track.now, part_all a.p a.marks.now) at o.ensures in
    all_right (as_home a.h) 0 (as_address a.named) a.p _ (sym e ∙ c.if-left-eq0.true)

pub returns : goal.returns
returns c =
    let a = c.args in
    let r = c.requires.later_spans in
    let o = c.judge_odd-left in
    let e = rw (part_all a.p a.track.now, part_all a.p a.marks.now) at o.ensures in
    let k = c.from-q.ensures in
    let s = c.listed_span-span in
    let n = rw k at s.ensures.0 in
    let f = wrong_front (as_home a.h) (as_address a.named) a.track.now a.marks.now a.starts.now a.p r o.result e c.if-left-eq0.false s.result.length n in
    wrong_answer (as_home a.h) (as_address a.named) a.track.now a.marks.now a.starts.now a.p r o.result e c.if-left-eq0.false s.result.length f s.result.last s.ensures.1 _ (rw k at c.judge_sector.ensures)
