-- The format's rule of the gap that a value of the code stands for.
use Rattle.format.specs.GapRule.{GapRule, rule_one, rule_two}
use Rattle.encode.specs.declared.GapRule.{GapRule as GapRuleCode}
use Rattle.encode.specs.declared.GapRule.TheVariants.{One, Two}

-- The rule.
abbrev pub as_rule : GapRuleCode → GapRule
as_rule One = rule_one
as_rule (Two a b) = rule_two a b
