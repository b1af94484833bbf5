-- A byte put before bytes is exclusive-ored into one half of their check and leaves the other.
use mathlib.Core.Path.{◌≡◌, refl, sym, ap, ap₂, ◌∙◌}
use Prim.Native.Nat.{ℕ, suc, ◌+◌, ◌*◌, ◌%◌, ◌<◌}
use native.Mathlib.Omega.{arith}
use native.Mathlib.Nat.{mod-lt}
use mathlib.Core.List.{List, [], ◌∷◌}
use lib.Dec.{eqb, lit<}
use lib.ListN.{length}
use lib.Bits.{bit_xor, xor_block, xor_lt, xor_zero_r}
use Rattle.base.specs.Pick.{pick}
use Rattle.base.proofs.Tests.{cases}
use Rattle.crc.specs.Check.{coefficients, remainder, check_of}
use Rattle.crc.specs.Halves.{in_half}
use Rattle.crc.proofs.Xor.{xor_last}
use Rattle.crc.proofs.Turn.{bring_digits, bring_byte}
use Rattle.crc.proofs.Check.{check_complement}

-- In which half a byte falls goes by the parity p of the number of bytes behind it.
pub half_parity : (n p b : ℕ) → n % 2 ≡ p → in_half n b ≡ pick (eqb p 0) b (b * 256)
unfolding in_half
half_parity n p b e = ap (λ (z : ℕ). pick (eqb z 0) b (b * 256)) e

-- Before two bytes more a byte falls in the same half.
half_again : (n b : ℕ) → in_half (suc (suc n)) b ≡ in_half n b
unfolding in_half
half_again n b = half_parity (suc (suc n)) (n % 2) b (omega arith)

-- A zero byte is 0 in either half.
half_zero : (n : ℕ) → in_half n 0 ≡ 0
unfolding in_half
half_zero n = cases (eqb (n % 2) 0) (λ e. rw e refl) (λ e. rw e refl)

-- To exclusive-or x and y into the two halves before the bytes bs are brought down changes the remainder as two bytes x and y before bs do.
pub remainder_added : (bs : List ℕ) (h l x y : ℕ) → h < 256 → l < 256 → x < 256 → y < 256
    → remainder (bit_xor h x * 256 + bit_xor l y) (coefficients bs)
    ≡ bit_xor (remainder (h * 256 + l) (coefficients bs)) (in_half (suc (length bs)) x + in_half (length bs) y)
unfolding coefficients remainder
remainder_added [] h l x y hh hl hx hy =
    sym (xor_block 8 h x l y hl hy) ∙ ap (bit_xor (h * 256 + l)) (ap₂ ◌+◌ (sym (half_parity 1 1 x refl)) (sym (half_parity 0 0 y refl)))
remainder_added (b ∷ bs) h l x y hh hl hx hy =
    let n : ℕ = length bs in
    let c : ℕ = b % 256 in
    let hc : c < 256 = mod-lt b (lit< tt) in
    let again : in_half (suc n) y + in_half n x ≡ in_half (suc (suc n)) x + in_half (suc n) y = omega (arith, half_again n x) in
    bring_digits 8 256 (bit_xor l y) (bit_xor h x) b (coefficients bs) refl (xor_lt 8 h x hh hx) (xor_lt 8 l y hl hy)
    ∙ ap (λ (z : ℕ). remainder (bit_xor l y * 256 + z) (coefficients bs)) (xor_last h x c)
    ∙ remainder_added bs l (bit_xor h c) y x hl (xor_lt 8 h c hh hc) hy hx
    ∙ ap₂ bit_xor (sym (bring_digits 8 256 l h b (coefficients bs) refl hh hl)) again

-- The remainder of b ∷ bs is that of bs with b exclusive-ored into one half: the low one where the length of bs is even, the high one where it is odd.
remainder_before : (b : ℕ) (bs : List ℕ) → b < 256
    → remainder 0 (coefficients (b ∷ bs)) ≡ bit_xor (remainder 0 (coefficients bs)) (in_half (length bs) b)
unfolding coefficients
remainder_before b bs h =
    bring_byte 0 0 b (coefficients bs) (lit< tt) (lit< tt) h
    ∙ remainder_added bs 0 0 0 b (lit< tt) (lit< tt) (lit< tt) h
    ∙ ap (bit_xor (remainder 0 (coefficients bs))) (omega (arith, half_zero (suc (length bs))))

-- The check of b ∷ bs is that of bs with b exclusive-ored into one half, the low one where the length of bs is even, the high one where it is odd:
-- the bits in which b is 1 change there, and every other bit stays.
pub check_before : (b : ℕ) (bs : List ℕ) → b < 256 → check_of (b ∷ bs) ≡ bit_xor (check_of bs) (in_half (length bs) b)
check_before b bs h =
    check_complement (b ∷ bs)
    ∙ ap (λ (r : ℕ). bit_xor r 65535) (remainder_before b bs h)
    ∙ xor_last (remainder 0 (coefficients bs)) (in_half (length bs) b) 65535
    ∙ ap (λ (r : ℕ). bit_xor r (in_half (length bs) b)) (sym (check_complement bs))

-- A byte exclusive-ored into the low half of a number.
add_low : (h l b : ℕ) → l < 256 → b < 256 → bit_xor (h * 256 + l) b ≡ h * 256 + bit_xor l b
add_low h l b hl hb =
    ap (bit_xor (h * 256 + l)) (omega arith) ∙ xor_block 8 h 0 l b hl hb ∙ ap (λ (z : ℕ). z * 256 + bit_xor l b) (xor_zero_r h)

-- A byte exclusive-ored into the high half of a number.
add_high : (h l b : ℕ) → l < 256 → bit_xor (h * 256 + l) (b * 256) ≡ bit_xor h b * 256 + l
add_high h l b hl =
    ap (bit_xor (h * 256 + l)) (omega arith) ∙ xor_block 8 h b l 0 hl (lit< tt) ∙ ap (λ (z : ℕ). bit_xor h b * 256 + z) (xor_zero_r l)

-- The halves h and l of the remainder of bs.
module _ (h l : ℕ) (bs : List ℕ) (hl : l < 256) (known : h * 256 + l ≡ remainder 0 (coefficients bs)) where
  -- Before an even number of bytes a byte goes into the low half.
  pub low_before : (b : ℕ) → b < 256 → length bs % 2 ≡ 0 → h * 256 + bit_xor l b ≡ remainder 0 (coefficients (b ∷ bs))
  low_before b hb e = sym (remainder_before b bs hb ∙ ap₂ bit_xor (sym known) (half_parity (length bs) 0 b e) ∙ add_low h l b hl hb)

  -- Before an odd number of bytes a byte goes into the high half.
  pub high_before : (b : ℕ) → b < 256 → length bs % 2 ≡ 1 → bit_xor h b * 256 + l ≡ remainder 0 (coefficients (b ∷ bs))
  high_before b hb e = sym (remainder_before b bs hb ∙ ap₂ bit_xor (sym known) (half_parity (length bs) 1 b e) ∙ add_high h l b hl)
