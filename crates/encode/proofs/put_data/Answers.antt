-- `put_data` meets its contract.
use mathlib.Core.Path.{sym, ap, ◌∙◌}
use Prim.Native.Nat.{ℕ}
use native.Mathlib.Omega.{arith}
use mathlib.Core.List.{List, [], ◌∷◌}
use Rattle.format.specs.Opening.{plain_opening}
use Rattle.base.specs.Laid.{laid_at}
use Rattle.base.proofs.Laid.{laid_next}
use Rattle.encode.proofs.Blocks.{data_none, data_some}
use Rattle.encode.proofs.put_data.Goals as goal

pub returns-then-body-eq0-clause-bytes : goal.returns-then-body-eq0-clause-bytes
returns-then-body-eq0-clause-bytes c =
    let a = c.args in
    let one = c.put_bytes-p in
    let two = c.put_run in
    let e = c.if-body-eq0.true in
    let d = a.body.now in
    laid_next a.at _ plain_opening (0x00 ∷ []) a.t.now _ _ (omega arith) one.ensures.place one.ensures.bytes two.ensures.bytes
    ∙ ap (λ (l : List ℕ). laid_at a.at l a.t.now) (sym (data_none d e))

pub returns-clause-bytes : goal.returns-clause-bytes
returns-clause-bytes c =
    let a = c.args in
    let one = c.put_block in
    let f = c.if-body-eq0.false in
    let d = a.body.now in
    one.ensures.bytes ∙ ap (λ (l : List ℕ). laid_at a.at l a.t.now) (sym (data_some d f))
