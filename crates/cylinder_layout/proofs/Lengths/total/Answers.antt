-- `Lengths::total` meets its contract.
use Rattle.std.proofs.Common.{rules, ◌≡◌, ◌∙◌}
use Rattle.std.specs.List.{sum_by}
use Rattle.cylinder_layout.proofs.Listed.{sum_by_is}
use Rattle.cylinder_layout.proofs.Lengths.total.Goals as goal

pub returns : goal.returns
returns c =
    let ls = c.args.self.items.now in
    let e : c.sum.result ≡ sum_by (λ x. x) ls = search rules in
    e ∙ sum_by_is (λ x. x) ls
