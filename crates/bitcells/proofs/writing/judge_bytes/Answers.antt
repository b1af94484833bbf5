-- `judge_bytes` meets its contract: the first fault is that of what is left.
use mathlib.Core.Path.{sym, ◌∙◌}
use mathlib.Core.Bool.{false}
use native.Mathlib.Omega.{arith}
use Rattle.pattern.specs.Pattern.{recordable}
use Rattle.bitcells.specs.Each.{each_byte}
use Rattle.bitcells.proofs.Each.{length_each, get_d_each}
use Rattle.bitcells.proofs.FirstFault.{pass, stop, end}
use Rattle.bitcells.proofs.writing.judge_bytes.Goals as goal

pub returns-then-not-can_record : goal.returns-then-not-can_record
returns-then-not-can_record c =
    let t = c.args.track.now in
    let m = c.args.marks.now in
    let l = c.loop-i in
    let h = get_d_each recordable t m l.i false (omega arith) (omega arith) in
    sym (l.invariant ∙ stop c.args.p l.i (each_byte recordable t m) (omega (arith, length_each recordable t m)) (h ∙ sym c.can_record.ensures ∙ c.if-not-can_record.true))

pub loop-i-preserved : goal.loop-i-preserved
loop-i-preserved c =
    let t = c.args.track.now in
    let m = c.args.marks.now in
    let l = c.loop-i in
    let h = get_d_each recordable t m l.i false (omega arith) (omega arith) in
    l.invariant ∙ pass c.args.p l.i (each_byte recordable t m) (omega (arith, length_each recordable t m)) (h ∙ sym c.can_record.ensures ∙ c.if-not-can_record.false)

pub returns : goal.returns
returns c =
    let t = c.args.track.now in
    let m = c.args.marks.now in
    sym (c.loop-i.invariant ∙ end c.args.p c.loop-i.i (each_byte recordable t m) (omega (arith, length_each recordable t m)))
