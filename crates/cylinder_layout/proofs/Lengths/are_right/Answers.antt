-- `Lengths::are_right` meets its contract.
use Rattle.std.proofs.Common.{rules, ◌≡◌, true, length, ℕ, Bool, get_or}
use Rattle.std.specs.Prelude.{IsTrue, EachIndex, ◌↔◌}
use Rattle.std.specs.Cmp.{both_ways}
use Rattle.base.specs.Indexed.{all_to}
use Rattle.base.proofs.Indexed.{all_holds, each_holds}
use Rattle.format.specs.Lent.{length_right}
use Rattle.cylinder.specs.Cylinder.{lengths_right}
use Rattle.cylinder_layout.proofs.Lengths.are_right.Goals as goal

pub returns : goal.returns
unfolding lengths_right
returns c =
    let ls = c.args.self.items.now in
    let p : ℕ → Bool = λ k. length_right (get_or ls k 0) in
    let e : IsTrue c.all.result ↔ EachIndex ls (λ k. p k ≡ true) = search rules in
    both_ways c.all.result (all_to p (length ls)) (λ t. each_holds p (length ls) (e.0 t)) (λ t. e.1 (λ k h. all_holds p (length ls) k t h))
