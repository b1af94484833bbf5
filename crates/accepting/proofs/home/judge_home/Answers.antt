-- `judge_home` meets its contract: where home is found, the bytes that follow its opening decide.
use Rattle.std.proofs.Common.{◌≡◌, sym, ap, ◌∙◌, arith}
use Rattle.std.proofs.lemmas.Result.{err_from_is_err_and}
use Rattle.format.specs.declared.Refusal.TheVariants.{HomeMissing}
use Rattle.format.specs.Lent.{cells}
use Rattle.format.specs.Home.{judge_home_of}
use Rattle.accepting.proofs.AcceptHome.{home_nowhere, home_found, home_short, home_bytes_lem}
use Rattle.accepting.proofs.home.judge_home.Goals as goal

pub returns-in_err-p-clause-result_value : goal.returns-in_err-p-clause-result_value
returns-in_err-p-clause-result_value c =
    let a = c.args in
    let o = c.in_err-p.ensures.ok_part in
    let v = rw o at c.in_err-p.ensures.value in
    let f = rw o at c.find_home.ensures.result_value in
    let e : c.in_err-p.field-0.0 ≡ HomeMissing = cc v in
    let p = err_from_is_err_and c.from_residual.result c.from_residual.ensures.1 in
    rw (p.1, p.2, e) (sym (home_nowhere (cells a.track.now a.marks.now) (sym f)))

pub returns-then-cell_count-to-clause-result_value : goal.returns-then-cell_count-to-clause-result_value
returns-then-cell_count-to-clause-result_value c =
    let a = c.args in
    let f = rw c.in_ok-p.ensures.ok_part at c.find_home.ensures.result_value in
    sym (home_short (cells a.track.now a.marks.now) _ (sym f) (omega arith))

pub returns-clause-result_value : goal.returns-clause-result_value
returns-clause-result_value c =
    let a = c.args in
    let f = rw c.in_ok-p.ensures.ok_part at c.find_home.ensures.result_value in
    let b = c.type_inv.track in
    let d = cells a.track.now a.marks.now in
    c.judge_fields.ensures.result_value ∙ sym (home_found d _ (sym f) ∙ ap (judge_home_of _) (home_bytes_lem a.track.now a.marks.now _ (λ i. omega (arith, b i)) (omega arith)))
