-- `last_step_end` meets its contract: the last 32 bytes are all 0, or the zeros of their four words say where the zeros end.
use Prim.Native.Nat.{◌+◌, ◌-◌}
use native.Mathlib.Omega.{arith}
use lib.ListN.{length}
use Rattle.search.proofs.Zero.{zeros_none}
use Rattle.search.proofs.Step.{step_zero, step_set}
use Rattle.search.proofs.last_step_end.Goals as goal

pub returns-then-any-eq0 : goal.returns-then-any-eq0
returns-then-any-eq0 c =
    let s = c.args.bytes.now in
    let i = length s - 32 in
    let b = c.type_inv.bytes in
    let w1 = c.word_at-a in
    let w2 = c.word_at-b in
    let w3 = c.word_at-c in
    let w4 = c.word_at-d in
    omega (arith, zeros_none s (i + 32) (omega arith), step_zero s i (omega arith) (λ k. omega (arith, b k)) w1.result w2.result w3.result w4.result w1.ensures w2.ensures w3.ensures w4.ensures c.if-any-eq0.true)

pub returns : goal.returns
returns c =
    let s = c.args.bytes.now in
    let i = length s - 32 in
    let b = c.type_inv.bytes in
    let w1 = c.word_at-a in
    let w2 = c.word_at-b in
    let w3 = c.word_at-c in
    let w4 = c.word_at-d in
    omega (arith, c.step_zeros.ensures.value, step_set s i (omega arith) (λ k. omega (arith, b k)) w1.result w2.result w3.result w4.result w1.ensures w2.ensures w3.ensures w4.ensures c.if-any-eq0.false)
