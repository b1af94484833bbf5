-- `put_key` meets its contract.
use mathlib.Core.Path.{sym, ap, ◌∙◌}
use Prim.Native.Nat.{ℕ}
use native.Mathlib.Omega.{arith}
use mathlib.Core.List.{List}
use Rattle.format.specs.Written.{inner_gap, written_block}
use Rattle.base.specs.Laid.{laid_at}
use Rattle.base.proofs.Laid.{laid_none, laid_next}
use Rattle.encode.proofs.Blocks.{key_none, key_some}
use Rattle.encode.proofs.put_key.Goals as goal

pub returns-then-key-eq0-clause-bytes : goal.returns-then-key-eq0-clause-bytes
returns-then-key-eq0-clause-bytes c =
    let a = c.args in
    let k = a.key.now in
    sym (ap (λ (l : List ℕ). laid_at a.at l a.t.now) (key_none k c.if-key-eq0.true) ∙ laid_none a.at a.t.now)

pub returns-clause-bytes : goal.returns-clause-bytes
returns-clause-bytes c =
    let a = c.args in
    let one = c.put_gap-p in
    let two = c.put_block in
    let k = a.key.now in
    let f = c.if-key-eq0.false in
    laid_next a.at _ inner_gap (written_block k) a.t.now _ _ (omega arith) one.ensures.place one.ensures.bytes two.ensures.bytes
    ∙ ap (λ (l : List ℕ). laid_at a.at l a.t.now) (sym (key_some k f))
