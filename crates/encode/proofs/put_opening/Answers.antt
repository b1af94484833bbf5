-- `put_opening` meets its contract.
use mathlib.Core.Path.{sym, ap, ◌∙◌}
use Prim.Native.Nat.{ℕ}
use mathlib.Core.List.{List}
use Rattle.base.specs.Laid.{laid_at}
use Rattle.encode.proofs.Openings.{bytes_first, bytes_later}
use Rattle.encode.proofs.put_opening.Goals as goal

pub returns-then-first-clause-bytes : goal.returns-then-first-clause-bytes
returns-then-first-clause-bytes c =
    let a = c.args in
    let one = c.put_bytes in
    let e = c.if-first.true in
    one.ensures.bytes ∙ ap (λ (l : List ℕ). laid_at 0 l a.t.now) (sym (bytes_first a.first e))

pub returns-clause-bytes : goal.returns-clause-bytes
returns-clause-bytes c =
    let a = c.args in
    let one = c.put_bytes-2 in
    let e = c.if-first.false in
    one.ensures.bytes ∙ ap (λ (l : List ℕ). laid_at 0 l a.t.now) (sym (bytes_later a.first e))
