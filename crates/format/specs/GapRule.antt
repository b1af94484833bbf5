-- The rules by which the gap after a data block is written.
use Rattle.std.specs.Prelude.{ℕ, ◌+◌, ◌*◌, ◌/◌, Bool, true, ◌&&◌, List, leb}
use Rattle.format.specs.Sector.{content_right}

-- The gap by rule one: 21 + floor((KL + DL) / 20).
unfoldable pub gap_one : ℕ → ℕ → ℕ
gap_one kl dl = 21 + (kl + dl) / 20

-- The gap by rule two with the ratio of a to b: 21 + floor((KL + DL) * a / b).
unfoldable pub gap_two : ℕ → ℕ → ℕ → ℕ → ℕ
gap_two a b kl dl = 21 + (kl + dl) * a / b

-- A rule: rule one, or rule two with a and b.
pub data GapRule : Type 0 where
  rule_one : GapRule
  rule_two : ℕ → ℕ → GapRule

-- The gap after a data block by a rule, by KL and DL.
abbrev pub gap_by : GapRule → ℕ → ℕ → ℕ
gap_by rule_one = gap_one
gap_by (rule_two a b) = gap_two a b

-- A rule is in range: rule one always, rule two where b is from 1 to 1,000 and a from 0 to b.
unfoldable pub rule_right : GapRule → Bool
rule_right rule_one = true
rule_right (rule_two a b) = leb 1 b && (leb b 1000 && leb a b)

-- What Add and Correct both are told is in range: the rule, the key and the data.
unfoldable pub wanted_right : GapRule → List ℕ → List ℕ → Bool
wanted_right rule key body = rule_right rule && content_right key body
