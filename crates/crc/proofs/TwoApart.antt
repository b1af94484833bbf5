-- What the check does not catch: two single bits exactly sixteen apart, in information and check of any length and at any place.
use mathlib.Core.Path.{◌≡◌, refl, sym, ap, ◌∙◌}
use mathlib.Core.Logic.{◌⊎◌, inl, inr}
use Prim.Native.Nat.{ℕ, zero, suc, ◌+◌, ◌^◌, ◌≤◌, ◌<◌}
use native.Mathlib.Omega.{arith}
use native.Mathlib.Nat.{pow-suc}
use mathlib.Core.Bool.{true}
use mathlib.Core.List.{List, [], ◌∷◌, ◌++◌}
use lib.Dec.{lit<}
use lib.ListN.{get_or}
use lib.Pow.{pow-lt}
use Rattle.crc.specs.Check.{bring_down, remainder, agrees}
use Rattle.crc.specs.Division.{Digits}
use Rattle.crc.specs.Burst.{checked_bits, Burst, TwoApart}
use Rattle.crc.proofs.Xor.{xor_zero_same}
use Rattle.crc.proofs.Coefficients.{coefficients_digits}
use Rattle.crc.proofs.Turn.{bring_turn, shifted}
use Rattle.crc.proofs.Linear.{sums, sums_digits, sum_differs, differs_sum, remainder_sum}
use Rattle.crc.proofs.Checked.{agrees_ones, ones_agree}
use Rattle.crc.proofs.Burst.{zero_unless, burst_at}

-- The remainder of zeros is 0.
zeros_nothing : (ds : List ℕ) → Digits ds → ((i : ℕ) → get_or ds i 0 ≡ 0) → remainder 0 ds ≡ 0
unfolding remainder Digits
zeros_nothing [] d z = refl
zeros_nothing (c ∷ ds) d z =
    let t : bring_down 0 c ≡ 0 = omega (arith, shifted 0 c (lit< tt) d.0, z 0) in
    rw t (zeros_nothing ds d.1 (λ i. z (suc i)))

-- A 1 that is j places on in the remainder is cancelled by one 16 - j places further on.
second_cancels : (n j : ℕ) (ds : List ℕ) → j + n ≡ 15 → Digits ds → (get_or ds n 0 ≡ 0 → ⊥) → ((i : ℕ) → (i ≡ n → ⊥) → get_or ds i 0 ≡ 0) → remainder (2 ^ j) ds ≡ 0
unfolding remainder Digits
second_cancels n j [] l d o z = absurd (o refl)
second_cancels zero j (c ∷ ds) l d o z =
    let e : j ≡ 15 = omega arith in
    let one : c ≡ 1 = omega (arith, d.0, o) in
    rw (e, one) (ap (λ (r : ℕ). remainder r ds) (bring_turn 1 0 1 (lit< tt) (lit< tt) (lit< tt)) ∙ zeros_nothing ds d.1 (λ i. z (suc i) (λ q. omega arith)))
second_cancels (suc n) j (c ∷ ds) l d o z =
    let small : 2 ^ j < 32768 = pow-lt {i = j} {j = 15} (omega arith) in
    let t : bring_down (2 ^ j) c ≡ 2 ^ suc j = omega (arith, shifted (2 ^ j) c small d.0, z 0 (λ q. omega arith), pow-suc 2 j) in
    rw t (second_cancels n (suc j) ds (omega arith) d.1 o (λ i q. z (suc i) (λ e. q (omega arith))))

-- The remainder of two ones that are n + 1 apart, and zeros besides, is 0 where n is 15.
two_cancel : (n i : ℕ) (ds : List ℕ) → n ≡ 15 → Digits ds → (get_or ds i 0 ≡ 0 → ⊥) → (get_or ds (i + suc n) 0 ≡ 0 → ⊥)
    → ((j : ℕ) → (j ≡ i → ⊥) → (j ≡ i + suc n → ⊥) → get_or ds j 0 ≡ 0) → remainder 0 ds ≡ 0
unfolding remainder Digits
two_cancel n i [] l d a b z = absurd (a refl)
two_cancel n zero (c ∷ ds) l d a b z =
    let t : bring_down 0 c ≡ 1 = omega (arith, shifted 0 c (lit< tt) d.0, d.0, a) in
    let e : 0 + suc n ≡ suc n = omega arith in
    rw t (second_cancels n 0 ds (omega arith) d.1 (rw e at b) (λ i q. z (suc i) (λ e. omega arith) (λ e. q (omega arith))))
two_cancel n (suc i) (c ∷ ds) l d a b z =
    let t : bring_down 0 c ≡ 0 = omega (arith, shifted 0 c (lit< tt) d.0, z 0 (λ q. omega arith) (λ q. omega arith)) in
    let e : suc i + suc n ≡ suc (i + suc n) = omega arith in
    rw t (two_cancel n i ds l d.1 a (rw e at b) (λ j p q. z (suc j) (λ e. p (omega arith)) (λ e. q (omega arith))))

-- Bits of which two that are n + 1 apart are altered have the same remainder where n is 15.
remainders_same : (n i : ℕ) (xs ys : List ℕ) → n ≡ 15 → Digits xs → Digits ys → TwoApart (suc n) i xs ys → remainder 0 xs ≡ remainder 0 ys
remainders_same n i xs ys l dx dy p =
    let ds : List ℕ = sums xs ys in
    let k = p.same_length in
    xor_zero_same (remainder 0 xs) (remainder 0 ys)
    (sym (remainder_sum xs ys 0 0 k dx dy (lit< tt) (lit< tt))
    ∙ two_cancel n i ds l (sums_digits xs ys dx dy) (differs_sum xs ys k i p.first) (differs_sum xs ys k (i + suc n) p.second)
    (λ j a b. zero_unless (get_or ds j 0) (λ o. other j a b (p.nowhere_else j (sum_differs xs ys k j o)))))
  where
    other : (j : ℕ) → (j ≡ i → ⊥) → (j ≡ i + suc n → ⊥) → (j ≡ i) ⊎ (j ≡ i + suc n) → ⊥
    other j a b (inl e) = a e
    other j a b (inr e) = b e

-- Information of any length that agrees with its check still agrees after two bits of both, sixteen apart, are altered.
pub two_apart_agree : (bs cs : List ℕ) (high low high' low' i : ℕ) → agrees bs high low ≡ true → high' < 256 → low' < 256
    → TwoApart 16 i (checked_bits bs high low) (checked_bits cs high' low') → agrees cs high' low' ≡ true
two_apart_agree bs cs high low high' low' i e hh hl p =
    ones_agree cs high' low' hh hl
    (sym (remainders_same 15 i (checked_bits bs high low) (checked_bits cs high' low') refl (coefficients_digits (bs ++ high ∷ low ∷ [])) (coefficients_digits (cs ++ high' ∷ low' ∷ [])) p)
    ∙ agrees_ones bs high low e)

-- Two bits sixteen apart are a burst of seventeen bits.
pub two_apart_burst : (i : ℕ) (xs ys : List ℕ) → TwoApart 16 i xs ys → Burst 17 xs ys
two_apart_burst i xs ys p =
    burst_at 17 i i xs ys p.same_length (λ j d. go j (p.nowhere_else j d)) p.first
  where
    go : (j : ℕ) → (j ≡ i) ⊎ (j ≡ i + 16) → (i ≤ j) × (j < i + 17)
    go j (inl e) = (omega arith, omega arith)
    go j (inr e) = (omega arith, omega arith)
