-- `step_zeros` meets its contract: the bytes before the first word that is not 0, and the zeros of that word.
use native.Mathlib.Omega.{arith}
use lib.Count.{trailing_le}
use Rattle.search.proofs.Step.{zeros_join}
use Rattle.search.proofs.step_zeros.Goals as goal

pub overflow_cast-result : goal.overflow_cast-result
overflow_cast-result c = omega (arith, trailing_le 64 c.first_nonzero-word.result)

pub overflow_add-result : goal.overflow_add-result
overflow_add-result c = omega (arith, trailing_le 64 c.first_nonzero-word.result)

pub returns : goal.returns
returns c =
    let a = c.args in
    let u = c.first_nonzero in
    let v = c.first_nonzero-2 in
    let w = c.first_nonzero-word in
    let m = c.bytes_passed in
    let n = c.bytes_passed-2 in
    let o = c.bytes_passed-3 in record { value = zeros_join a.a a.b a.c a.d u.result v.result w.result m.result n.result o.result u.ensures v.ensures w.ensures m.ensures.value n.ensures.value o.ensures.value; upper_bound = omega (arith, trailing_le 64 w.result) }
