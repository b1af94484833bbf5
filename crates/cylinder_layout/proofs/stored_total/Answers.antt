-- `stored_total` meets its contract.
use Rattle.std.proofs.Common.{rules, ◌≡◌, ◌≤◌, ◌*◌, length, get_or, arith, ◌∙◌}
use Rattle.std.specs.List.{sum_by}
use Rattle.base.specs.Indexed.{sum_to}
use Rattle.base.proofs.Indexed.{sum_most}
use Rattle.cylinder.specs.File.{stored_size}
use Rattle.cylinder_layout.proofs.Listed.{sum_by_is}
use Rattle.cylinder_layout.proofs.stored_total.Goals as goal

pub returns-clause-value : goal.returns-clause-value
returns-clause-value c =
    let ls = c.args.lengths.now in
    let e : c.sum.result ≡ sum_by stored_size ls = search rules in
    e ∙ sum_by_is stored_size ls

pub returns-clause-upper_bound : goal.returns-clause-upper_bound
returns-clause-upper_bound c =
    let ls = c.args.lengths.now in
    let e : c.sum.result ≡ sum_by stored_size ls = search rules in
    let m : sum_to (λ k. stored_size (get_or ls k 0)) (length ls) ≤ length ls * 73727 = sum_most (λ k. stored_size (get_or ls k 0)) (length ls) 73727 (λ k h. omega (arith, c.type_inv.lengths k)) in
    omega (arith, e, m, sum_by_is stored_size ls)
