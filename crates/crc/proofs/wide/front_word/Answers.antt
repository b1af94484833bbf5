-- `front_word` meets its contract: the first eight bytes are moved up.
use Rattle.std.proofs.Common.{◌∙◌, ◌-◌, take, drop, refl}
use Prim.Native.Nat.{ℕ, ◌<◌}
use native.Mathlib.Omega.{arith}
use lib.ListN.{get_or}
use Rattle.crc.proofs.Front.{front_moved}
use Rattle.crc.proofs.Pieces.{eight_at}
use Rattle.crc.proofs.wide.front_word.Goals as goal

pub returns : goal.returns
returns c =
    let a = c.args in
    let byte : (i : ℕ) → get_or a.bytes.now i 0 < 256 = λ i. omega (arith, c.type_inv.bytes i) in
    front_moved a.bytes.now a.n byte (omega arith) (omega arith) c.from_le_bytes.result
    (c.from_le_bytes.ensures ∙ eight_at a.bytes.now (take (8 - 0) (drop 0 a.bytes.now)) 0 c.as_chunks.result.0.now (omega arith) refl c.as_chunks.ensures.front)
