-- `lanes_of` meets its contract: folded twice, the word has its lanes lowest.
use mathlib.Core.Path.{◌≡◌, refl, ◌∙◌}
use Prim.Native.Nat.{ℕ, ◌+◌, ◌*◌, ◌/◌, ◌%◌}
use lib.Bits.{bit_xor}
use Rattle.crc.specs.Word.{pair}
use Rattle.crc.proofs.Lanes.{fold_lanes}
use Rattle.crc.proofs.wide.lanes_of.Goals as goal

pub returns : goal.returns
unfolding pair
returns c =
    let w = c.args.w in
    let two : ℕ = bit_xor w (w / 0x100000000) in
    let one : ℕ = bit_xor two (two / 0x10000) in
    let given : c.from_be_bytes.result ≡ one % 256 * 256 + one / 256 % 256 = c.from_be_bytes.ensures in
    given ∙ fold_lanes w two one refl refl
