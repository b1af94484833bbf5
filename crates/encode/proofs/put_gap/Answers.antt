-- `put_gap` meets its contract.
use native.Mathlib.Omega.{arith}
use lib.ListN.{replicate}
use Rattle.base.proofs.Laid.{laid_next}
use Rattle.encode.proofs.put_gap.Goals as goal

pub returns-clause-bytes : goal.returns-clause-bytes
returns-clause-bytes c =
    let a = c.args in
    let one = c.put_run-p in
    let two = c.put_run in
    laid_next a.at _ (replicate 9 0xFF) (replicate 2 0x00) a.t.now _ _ (omega arith) one.ensures.place one.ensures.bytes two.ensures.bytes
