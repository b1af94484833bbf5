-- `remainder_of` meets its contract: each pair, the last one first, is taken into the halves of the remainder of the bytes behind it, and then the byte in front of the pairs.
use Rattle.std.proofs.Common.{◌≡◌, ◌+◌, ◌*◌, ◌%◌, ◌<◌, ◌∙◌, sym, ap, length, drop, List, ◌∷◌, ℕ, arith}
use lib.ListN.{get_or, length-drop}
use lib.Seq.{drop-cons, get_or-take}
use lib.Bits.{bit_xor}
use Rattle.std.specs.Iterator.Adapters.{rev_source}
use Rattle.std.specs.Slice.Iter.{iter_rest}
use Rattle.crc.specs.Check.{coefficients, remainder}
use Rattle.crc.proofs.Before.{low_before}
use Rattle.crc.proofs.Pieces.{all_left, pair_taken}
use Rattle.crc.proofs.remainder_of.Goals as goal

pub loop-h-init : goal.loop-h-init
loop-h-init c =
    let left = c.into_iter-h-iterator.result in
    let same = ap (λ it. iter_rest (rev_source it)) c.into_iter-h-iterator.ensures.into_iter_gives ∙ ap iter_rest c.rev-h-items.ensures.source ∙ c.iter.ensures.rest in
    let whole = all_left c.args.bytes.now (iter_rest (rev_source left)) c.as_rchunks.result.1.now same c.as_rchunks.ensures.back_len c.as_rchunks.ensures.back in
    (whole.0, whole.1, whole.2)

pub loop-h-preserved : goal.loop-h-preserved
loop-h-preserved c =
    let l = c.loop-h in
    let taken =
    pair_taken l.high l.low c.args.bytes.now c.in-Some.field-0.now (iter_rest (rev_source l.h-iterator)) (iter_rest (rev_source c.next.new.self)) (λ i. omega (arith, c.type_inv.bytes i)) (omega arith)
    l.invariant.0 l.invariant.1 c.in-Some.ensures.steps l.invariant.2 in
    (taken.0, taken.1, taken.2)

pub returns-in-empty : goal.returns-in-empty
returns-in-empty c =
    let s = c.args.bytes.now in
    let l = c.loop-h in
    let left : ℕ = length (iter_rest (rev_source l.h-iterator)) in
    let none : length s % 2 + left * 2 ≡ 0 = omega (arith, c.in-None.ensures.steps.0, c.as_rchunks.ensures.front_len) in
    let known : l.high * 256 + l.low ≡ remainder 0 (coefficients s) = rw none at l.invariant.2 in
    c.from_be_bytes.ensures ∙ known

pub returns-in-len1-up : goal.returns-in-len1-up
returns-in-len1-up c =
    let s = c.args.bytes.now in
    let l = c.loop-h in
    let left : ℕ = length (iter_rest (rev_source l.h-iterator)) in
    let b : ℕ = get_or s 0 0 in
    let hb : b < 256 = omega (arith, c.type_inv.bytes 0) in
    let one : length s % 2 + left * 2 ≡ 1 = omega (arith, c.in-None.ensures.steps.0, c.as_rchunks.ensures.front_len) in
    let known : l.high * 256 + l.low ≡ remainder 0 (coefficients (drop 1 s)) = rw one at l.invariant.2 in
    let even : length (drop 1 s) % 2 ≡ 0 = omega (arith, one, length-drop 1 s) in
    let first : get_or c.as_rchunks.result.0.now 0 0 ≡ b =
    ap (λ (x : List ℕ). get_or x 0 0) c.as_rchunks.ensures.front ∙ get_or-take (length s % 2) s 0 0 (omega (arith, c.as_rchunks.ensures.front_len)) in
    let cut : b ∷ drop 1 s ≡ s = sym (drop-cons s 0 0 (omega (arith, one))) in
    c.from_be_bytes-in-len1-up.ensures
    ∙ ap (λ (z : ℕ). l.high * 256 + bit_xor l.low z) first
    ∙ low_before l.high l.low (drop 1 s) (omega arith) known b hb even
    ∙ ap (λ (r : List ℕ). remainder 0 (coefficients r)) cut
