-- The remainder is that of a division by x^16 + 1: dividend = quotient times divisor, plus remainder, and in one way only.
use mathlib.Core.Path.{◌≡◌, refl, sym, ap, ap₂, ◌∙◌}
use Prim.Native.Nat.{ℕ, ◌+◌, ◌*◌, ◌/◌, ◌<◌}
use native.Mathlib.Omega.{arith}
use native.Mathlib.Nat.{add-zero}
use mathlib.Core.Bool.{Bool, true, false}
use mathlib.Core.List.{List, [], ◌∷◌}
use lib.Dec.{ltb, lit<}
use lib.Bits.{bit_xor, xor_self, xor_zero_r, xor_block, xor_shifted, xor_shr, xor_assoc}
use Rattle.base.specs.Pick.{pick}
use Rattle.crc.specs.Check.{divisor, bring_down, remainder, coefficients}
use Rattle.crc.specs.Division.{Digits, value, times, quotient}
use Rattle.crc.proofs.Xor.{xor_middle, xor_twice, xor_cancel, xor_zero_same}
use Rattle.crc.proofs.Coefficients.{coefficients_digits}
use Rattle.crc.proofs.Remainder.{remainder_lt}

-- Exclusive or with an even number leaves the last digit.
xor_even : (a b c : ℕ) → c < 2 → bit_xor (a * 2) (b * 2 + c) ≡ bit_xor a b * 2 + c
xor_even a b c h = ap (λ (z : ℕ). bit_xor z (b * 2 + c)) (sym (add-zero (a * 2))) ∙ xor_block 1 a b 0 c (lit< tt) h

-- The product of 1 and x^16 + 1 is the divisor.
pub times_one : times 1 ≡ divisor
unfolding times divisor
times_one = refl

-- A quotient shifted gives the product shifted.
times_even : (q : ℕ) → times (q * 2) ≡ times q * 2
unfolding times
times_even q =
    ap₂ bit_xor (shuffle q) (sym (add-zero (q * 2))) ∙ xor_even (q * 65536) q 0 (lit< tt) ∙ add-zero (bit_xor (q * 65536) q * 2)
  where
    shuffle : (n : ℕ) → n * 2 * 65536 ≡ n * 65536 * 2
    shuffle n = omega arith

-- One more than an even number is that number with 1 added over GF(2).
odd_xor : (q : ℕ) → q * 2 + 1 ≡ bit_xor (q * 2) 1
odd_xor q = sym (xor_shifted q 1 1 (lit< tt))

-- A last digit 1 of the quotient adds the divisor to the product.
times_odd : (q : ℕ) → times (q * 2 + 1) ≡ bit_xor (times (q * 2)) 65537
unfolding times
times_odd q = ap₂ bit_xor high (odd_xor q) ∙ xor_middle (q * 2 * 65536) 65536 (q * 2) 1
  where
    high : (q * 2 + 1) * 65536 ≡ bit_xor (q * 2 * 65536) 65536
    high =
        ap (λ (z : ℕ). z * 65536) (odd_xor q)
        ∙ sym (add-zero (bit_xor (q * 2) 1 * 65536))
        ∙ sym (xor_block 16 (q * 2) 1 0 0 (lit< tt) (lit< tt))
        ∙ ap (λ (z : ℕ). bit_xor z 65536) (add-zero (q * 2 * 65536))

-- One step of the division: the dividend gains a coefficient, and the quotient a digit.
division_step : (q r c : ℕ) → c < 2
    → bit_xor (times q) r * 2 + c ≡ bit_xor (times (q * 2 + pick (ltb (r * 2 + c) 65536) 0 1)) (bring_down r c)
unfolding bring_down divisor
division_step q r c h = go (ltb (r * 2 + c) 65536)
  where
    even : bit_xor (times q) r * 2 + c ≡ bit_xor (times (q * 2)) (r * 2 + c)
    even = sym (xor_even (times q) r c h) ∙ ap (λ (z : ℕ). bit_xor z (r * 2 + c)) (sym (times_even q))

    go : (b : Bool) → bit_xor (times q) r * 2 + c ≡ bit_xor (times (q * 2 + pick b 0 1)) (pick b (r * 2 + c) (bit_xor divisor (r * 2 + c)))
    go true = even ∙ ap (λ (z : ℕ). bit_xor (times z) (r * 2 + c)) (sym (add-zero (q * 2)))
    go false =
        even
        ∙ sym (xor_assoc (times (q * 2)) 65537 (bit_xor 65537 (r * 2 + c)) ∙ ap (bit_xor (times (q * 2))) (xor_twice 65537 (r * 2 + c)))
        ∙ ap (λ (z : ℕ). bit_xor z (bit_xor 65537 (r * 2 + c))) (sym (times_odd q))

-- The division from any quotient and remainder so far.
pub division_from : (q r : ℕ) (cs : List ℕ) → Digits cs → value (bit_xor (times q) r) cs ≡ bit_xor (times (quotient q r cs)) (remainder r cs)
unfolding value quotient remainder Digits
division_from q r [] d = refl
division_from q r (c ∷ cs) d =
    ap (λ (z : ℕ). value z cs) (division_step q r c d.0)
    ∙ division_from (q * 2 + pick (ltb (r * 2 + c) 65536) 0 1) (bring_down r c) cs d.1

-- The dividend is the quotient times x^16 + 1, plus the remainder, whose degree is below 16.
pub division : (cs : List ℕ) → Digits cs
    → (value 0 cs ≡ bit_xor (times (quotient 0 0 cs)) (remainder 0 cs)) × (remainder 0 cs < 65536)
unfolding times
division cs d = (division_from 0 0 cs d, remainder_lt 0 cs (lit< tt) d)

-- The same for the bits of any bytes.
pub division_bytes : (bs : List ℕ)
    → (value 0 (coefficients bs) ≡ bit_xor (times (quotient 0 0 (coefficients bs))) (remainder 0 (coefficients bs)))
    × (remainder 0 (coefficients bs) < 65536)
division_bytes bs = division (coefficients bs) (coefficients_digits bs)

-- The terms of a dividend from x^16 up say which quotient it has.
high_terms : (q r : ℕ) → r < 65536 → bit_xor (times q) r / 65536 ≡ bit_xor q (q / 65536)
unfolding times
high_terms q r h =
    xor_shr (times q) r 16
    ∙ ap₂ bit_xor (xor_shr (q * 65536) q 16 ∙ ap (λ (z : ℕ). bit_xor z (q / 65536)) whole) none
    ∙ xor_zero_r (bit_xor q (q / 65536))
  where
    whole : q * 65536 / 65536 ≡ q
    whole = omega arith

    none : r / 65536 ≡ 0
    none = omega arith

-- Numbers that are the same once each is added to its own part from x^16 up are the same.
folded_same : (q q' : ℕ) → bit_xor q (q / 65536) ≡ bit_xor q' (q' / 65536) → q ≡ q'
folded_same q q' e = xor_zero_same q q' (below (bit_xor q q') (xor_zero_same (bit_xor q q') (bit_xor q q' / 65536) gone))
  where
    gone : bit_xor (bit_xor q q') (bit_xor q q' / 65536) ≡ 0
    gone =
        ap (bit_xor (bit_xor q q')) (xor_shr q q' 16)
        ∙ xor_middle q q' (q / 65536) (q' / 65536)
        ∙ ap (λ (z : ℕ). bit_xor z (bit_xor q' (q' / 65536))) e
        ∙ xor_self (bit_xor q' (q' / 65536))

    below : (d : ℕ) → d ≡ d / 65536 → d ≡ 0
    below d h = omega arith

-- A dividend has one quotient and one remainder of degree below 16.
pub division_unique : (q r q' r' : ℕ) → r < 65536 → r' < 65536 → bit_xor (times q) r ≡ bit_xor (times q') r' → (q ≡ q') × (r ≡ r')
division_unique q r q' r' h h' e = (same, xor_cancel (times q') r r' (ap (λ (z : ℕ). bit_xor (times z) r) (sym same) ∙ e))
  where
    same : q ≡ q'
    same = folded_same q q' (sym (high_terms q r h) ∙ ap (λ (z : ℕ). z / 65536) e ∙ high_terms q' r' h')

-- Whatever quotient and remainder of degree below 16 the bits of bytes have, the remainder is the one of the check.
pub remainder_unique : (bs : List ℕ) (q r : ℕ) → r < 65536 → value 0 (coefficients bs) ≡ bit_xor (times q) r → r ≡ remainder 0 (coefficients bs)
remainder_unique bs q r h e =
    let d = division_bytes bs in
    (division_unique q r (quotient 0 0 (coefficients bs)) (remainder 0 (coefficients bs)) h d.1 (sym e ∙ d.0)).1
