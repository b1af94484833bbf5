-- `remainder_wide` meets its contract: each word is added to the words whose lanes are the remainder of the bytes passed.
use Rattle.std.proofs.Common.{◌≡◌, ◌∙◌, ◌%◌, length, take, ap, ℕ, arith}
use native.Mathlib.Nat.{add-zero}
use Rattle.crc.specs.Check.{coefficients, remainder}
use Rattle.crc.specs.Word.{lanes}
use Rattle.crc.proofs.Front.{front_lanes}
use Rattle.crc.proofs.Pieces.{word_added}
use Rattle.crc.proofs.wide.remainder_wide.Goals as goal

pub loop-word-init : goal.loop-word-init
loop-word-init c =
    let s = c.args.bytes.now in
    let n : length c.as_rchunks.result.0.now ≡ length s % 8 = c.as_rchunks.ensures.front_len in
    rw (add-zero (length s % 8)) (ap (lanes 4) c.front_word-sum.ensures ∙ front_lanes s (length c.as_rchunks.result.0.now) (λ i. omega (arith, c.type_inv.bytes i)) (omega arith) (omega arith) ∙ ap (λ (k : ℕ). remainder 0 (coefficients (take k s))) n)

pub loop-word-preserved : goal.loop-word-preserved
loop-word-preserved c =
    let l = c.loop-word in
    word_added l.word-index l.sum c.from_le_bytes-sum.result c.args.bytes.now c.as_rchunks.result.1.now (λ i. omega (arith, c.type_inv.bytes i)) c.as_rchunks.ensures.back (omega arith) c.from_le_bytes-sum.ensures l.invariant
