-- `put_marks` meets its contract.
use mathlib.Core.Path.{◌≡◌, sym, ap, ◌∙◌}
use Prim.Native.Nat.{ℕ, ◌-◌}
use native.Mathlib.Omega.{arith}
use mathlib.Core.List.{List, [], ◌∷◌}
use lib.ListN.{replicate}
use Rattle.base.specs.Laid.{laid_at}
use Rattle.base.proofs.Laid.{laid_next}
use Rattle.encode.proofs.Openings.{opening_first, marks_first, marks_later}
use Rattle.encode.proofs.put_marks.Goals as goal

pub returns-then-first : goal.returns-then-first
returns-then-first c =
    let a = c.args in
    let one = c.put_run in
    let e = c.if-first.true in
    one.ensures.bytes ∙ ap (λ (l : List ℕ). laid_at 0 l a.m.now) (sym (marks_first a.first a.n e (omega (arith, opening_first a.first e))))

pub returns : goal.returns
returns c =
    let a = c.args in
    let one = c.put_bytes-p in
    let two = c.put_run-2 in
    let e = c.if-first.false in
    let z : a.n - one.result ≡ a.n - 8 = ap (λ (k : ℕ). a.n - k) one.ensures.place in
    laid_next 0 _ (0 ∷ 0 ∷ 0 ∷ 0 ∷ 0 ∷ 1 ∷ 1 ∷ 0 ∷ []) (replicate (a.n - 8) 0) a.m.now _ _ (omega arith) one.ensures.place one.ensures.bytes
    (two.ensures.bytes ∙ ap (λ (k : ℕ). laid_at one.result (replicate k 0) one.new.t) z)
    ∙ ap (λ (l : List ℕ). laid_at 0 l a.m.now) (sym (marks_later a.first a.n e))
