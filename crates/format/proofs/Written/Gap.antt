-- The rules of the gap: their bounds, and which of them are the same.
use mathlib.Core.Path.{◌≡◌, refl, subst}
use Prim.Native.Nat.{ℕ, ◌+◌, ◌*◌, ◌/◌, ◌≤◌, ◌<◌}
use native.Mathlib.Nat.{mul_comm, mul-le-mul_left, div-le_of_le-mul, div-mul-le_self, lt-div-mul-add}
use native.Mathlib.Omega.{arith}
use mathlib.Core.Bool.{true, ◌&&◌}
use mathlib.Core.List.{List}
use lib.Dec.{leb}
use borrow.Author.Tests.{leb-true, le-leb}
use Rattle.base.proofs.Tests.{and_both}
use Rattle.format.specs.Sector.{content_right}
use Rattle.format.specs.GapRule.{gap_one, gap_two, GapRule, rule_one, rule_two, gap_by, rule_right, wanted_right}

-- A rule two in range has b from 1 to 1,000 and a from 0 to b,
pub ratio_right : (a b : ℕ) → rule_right (rule_two a b) ≡ true → (1 ≤ b) × (b ≤ 1000) × (a ≤ b)
unfolding rule_right
ratio_right a b e =
    let h = and_both (leb 1 b) (leb b 1000 && leb a b) e in
    let k = and_both (leb b 1000) (leb a b) h.1 in
    (leb-true 1 b h.0, leb-true b 1000 k.0, leb-true a b k.1)

-- and one with such a and b is in range.
pub right_ratio : (a b : ℕ) → 1 ≤ b → b ≤ 1000 → a ≤ b → rule_right (rule_two a b) ≡ true
unfolding rule_right
right_ratio a b h k l = rw (le-leb 1 b h, le-leb b 1000 k, le-leb a b l)

-- A gap has at least 21 bytes,
pub rule_least : (rule : GapRule) (kl dl : ℕ) → 21 ≤ gap_by rule kl dl
unfolding gap_one gap_two
rule_least rule_one kl dl = omega arith
rule_least (rule_two a b) kl dl = let n : ℕ = (kl + dl) * a / b in omega arith

-- and by a rule in range at most 21 and one for each byte of the key and of the data.
pub rule_most : (rule : GapRule) → rule_right rule ≡ true → (kl dl : ℕ) → gap_by rule kl dl ≤ 21 + kl + dl
unfolding gap_one gap_two
rule_most rule_one e kl dl = omega arith
rule_most (rule_two a b) e kl dl =
    let n : ℕ = kl + dl in
    let h : n * a ≤ b * n = subst (λ (z : ℕ). n * a ≤ z) (mul_comm n b) (mul-le-mul_left n (ratio_right a b e).2) in
    omega (arith, div-le_of_le-mul b h)

-- By rule two the gap has 21 bytes and the largest whole number of bytes that, times b, is at most (KL + DL) * a.
pub ratio_floor : (a b kl dl : ℕ) → 1 ≤ b → (n : ℕ) × (gap_by (rule_two a b) kl dl ≡ 21 + n) × (n * b ≤ (kl + dl) * a) × ((kl + dl) * a < n * b + b)
unfolding gap_two
ratio_floor a b kl dl h = let p : ℕ = (kl + dl) * a in (p / b, refl, div-mul-le_self p b, lt-div-mul-add h)

-- Where what Add and Correct both are told is in range, the rule is, and key and data are.
pub wanted_parts : (rule : GapRule) (key body : List ℕ) → wanted_right rule key body ≡ true → (rule_right rule ≡ true) × (content_right key body ≡ true)
unfolding wanted_right
wanted_parts rule key body e = and_both (rule_right rule) (content_right key body) e

-- Rule two with 1 and 20 is rule one.
pub one_in_twenty : (kl dl : ℕ) → gap_by (rule_two 1 20) kl dl ≡ gap_by rule_one kl dl
unfolding gap_one gap_two
one_in_twenty kl dl = omega arith
