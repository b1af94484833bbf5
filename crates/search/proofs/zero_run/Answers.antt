-- `zero_run` meets its contract: what was passed is zero, a step that is not all zeros ends it, and the last step starts within what was passed.
use Prim.Native.Nat.{◌-◌}
use native.Mathlib.Omega.{arith}
use lib.ListN.{length}
use Rattle.search.proofs.Zero.{zeros_behind}
use Rattle.search.proofs.Step.{step_zero, step_set}
use Rattle.search.proofs.zero_run.Goals as goal

pub returns-then-bytes-lt32 : goal.returns-then-bytes-lt32
returns-then-bytes-lt32 c = c.zeros_singly.ensures

pub loop-i-init : goal.loop-i-init
loop-i-init c = (omega arith, omega arith, omega arith)

pub returns-then-any-ne0 : goal.returns-then-any-ne0
returns-then-any-ne0 c =
    let s = c.args.bytes.now in
    let l = c.loop-i in
    let b = c.type_inv.bytes in
    let w1 = c.word_at-a in
    let w2 = c.word_at-b in
    let w3 = c.word_at-c in
    let w4 = c.word_at-d in
    omega (arith, l.invariant.2, c.step_zeros.ensures.value, step_set s l.i (omega arith) (λ k. omega (arith, b k)) w1.result w2.result w3.result w4.result w1.ensures w2.ensures w3.ensures w4.ensures c.if-any-ne0.true)

pub loop-i-preserved : goal.loop-i-preserved
loop-i-preserved c =
    let s = c.args.bytes.now in
    let l = c.loop-i in
    let b = c.type_inv.bytes in
    let w1 = c.word_at-a in
    let w2 = c.word_at-b in
    let w3 = c.word_at-c in
    let w4 = c.word_at-d in
    (omega arith, omega arith, omega (arith, l.invariant.2, step_zero s l.i (omega arith) (λ k. omega (arith, b k)) w1.result w2.result w3.result w4.result w1.ensures w2.ensures w3.ensures w4.ensures c.if-any-ne0.false))

pub returns : goal.returns
returns c =
    let s = c.args.bytes.now in
    let l = c.loop-i in
    omega (arith, l.invariant.2, c.last_step_end.ensures, zeros_behind (length s - 32) s (omega (arith, l.invariant.2)))
