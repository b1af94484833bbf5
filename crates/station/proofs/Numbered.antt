-- Which numbers of a C call name a rule in range.
use mathlib.Core.Path.{◌≡◌, refl}
use Prim.Native.Nat.{ℕ}
use mathlib.Core.Bool.{◌&&◌, ◌||◌}
use lib.Dec.{eqb}
use Rattle.base.proofs.Tests.{cases}
use Rattle.format.specs.GapRule.{rule_one, rule_two, rule_right}
use Rattle.station.specs.Numbered.{numbered_rule}

-- 1 is rule one, whatever a and b.
pub number_one : (a b : ℕ) → numbered_rule 1 a b ≡ rule_one
unfolding numbered_rule
number_one a b = refl

-- 2 is rule two with a and b.
pub number_two : (a b : ℕ) → numbered_rule 2 a b ≡ rule_two a b
unfolding numbered_rule
number_two a b = refl

-- 1 names one, 2 where a and b are in range, and no other number does.
pub number_right : (n a b : ℕ) → rule_right (numbered_rule n a b) ≡ (eqb n 1 || (eqb n 2 && rule_right (rule_two a b)))
unfolding numbered_rule rule_right
number_right n a b = cases (eqb n 1) (λ e. rw e) (λ e. rw e (cases (eqb n 2) (λ f. rw f) (λ f. rw f)))
