-- `put_block` meets its contract.
use native.Mathlib.Omega.{arith}
use mathlib.Core.List.{◌++◌}
use Rattle.format.specs.Opening.{plain_opening, closing}
use Rattle.format.specs.Written.{written_block}
use Rattle.base.proofs.Laid.{laid_next}
use Rattle.encode.proofs.put_block.Goals as goal

pub returns-clause-bytes : goal.returns-clause-bytes
unfolding written_block
returns-clause-bytes c =
    let a = c.args in
    let one = c.put_bytes-p in
    let two = c.put_field in
    let xs = a.info.now in
    laid_next a.at _ plain_opening (xs ++ closing xs) a.t.now _ _ (omega arith) one.ensures.place one.ensures.bytes two.ensures.bytes
