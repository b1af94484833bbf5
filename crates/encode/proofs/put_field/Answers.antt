-- `put_field` meets its contract.
use mathlib.Core.Path.{ap, ◌∙◌}
use native.Mathlib.Omega.{arith}
use Prim.Native.Nat.{ℕ}
use mathlib.Core.List.{List}
use Rattle.format.specs.Opening.{closing}
use Rattle.base.specs.Laid.{laid_at}
use Rattle.base.proofs.Laid.{laid_next}
use Rattle.encode.proofs.Closing.{closing_stored}
use Rattle.encode.proofs.put_field.Goals as goal

pub returns-clause-bytes : goal.returns-clause-bytes
returns-clause-bytes c =
    let a = c.args in
    let one = c.put_bytes-end in
    let k = c.check_of in
    let two = c.put_bytes in
    laid_next a.at _ a.info.now (closing a.info.now) a.t.now _ _ (omega arith) one.ensures.place one.ensures.bytes (two.ensures.bytes ∙ ap (λ (l : List ℕ). laid_at one.result l one.new.t) (closing_stored a.info.now k.result c.to_be_bytes.result (omega arith) c.to_be_bytes.ensures k.ensures))
