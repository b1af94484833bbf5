-- `check_agrees` meets its contract: the check is compared with the number that the two bytes make.
use Rattle.std.proofs.Common.{◌≡◌, ◌∙◌, sym, ap₂, ◌+◌, ◌*◌, nat_eq, arith}
use Rattle.crc.proofs.Agreement.{agrees_number}
use Rattle.crc.proofs.check_agrees.Goals as goal

pub returns : goal.returns
returns c =
    let a = c.args in
    let stored : c.from_be_bytes.result ≡ a.high * 256 + a.low = omega (arith, c.from_be_bytes.ensures) in
    ap₂ nat_eq c.check_of.ensures stored ∙ sym (agrees_number a.bytes.now a.high a.low (omega arith) (omega arith))
