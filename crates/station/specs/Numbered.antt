-- The rule of the gap that the numbers of a C call name.
use Rattle.std.specs.Prelude.{ℕ, eqb}
use Rattle.base.specs.Pick.{pick}
use Rattle.format.specs.GapRule.{GapRule, rule_one, rule_two}

-- 1 is rule one, whatever a and b; 2 is rule two with a and b; any other number stands for rule two with b = 0, which is out of range.
unfoldable pub numbered_rule : ℕ → ℕ → ℕ → GapRule
numbered_rule n a b = pick (eqb n 1) rule_one (rule_two a (pick (eqb n 2) b 0))
