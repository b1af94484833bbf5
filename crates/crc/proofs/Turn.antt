-- A coefficient brought down turns the remainder round by one bit, and a byte turns it round by eight.
use mathlib.Core.Path.{◌≡◌, refl, sym, ap, ap₂, ◌∙◌, subst}
use Prim.Native.Nat.{ℕ, zero, suc, ◌+◌, ◌*◌, ◌/◌, ◌%◌, ◌^◌, ◌<◌}
use native.Mathlib.Omega.{arith}
use native.Mathlib.Numerals.{one-add}
use native.Mathlib.Nat.{zero-add, mul_comm, pow-suc, mod-lt, mod-one, div-lt_iff_lt-mul, div-add-mod', mod-eq_of_lt}
use mathlib.Core.List.{List, ◌++◌}
use lib.Dec.{lit<}
use lib.Bits.{bit_xor, xor_block, xor_lt}
use lib.Pow.{pow_pos, mod-pow-add}
use lib.Arith.{digits_lt, lt-one}
use borrow.Author.Tests.{lt-ltb, le-ltb}
use Rattle.crc.specs.Check.{digits, divisor, bring_down, remainder}

-- A remainder with no term in x^15 is shifted.
pub shifted : (t b : ℕ) → t < 32768 → b < 2 → bring_down t b ≡ t * 2 + b
unfolding bring_down
shifted t b ht hb = simp (lt-ltb (t * 2 + b) 65536 (omega arith))

-- A remainder with a term in x^15 is shifted, and the term comes round as 1.
subtracted : (t b : ℕ) → t < 32768 → b < 2 → bring_down (32768 + t) b ≡ t * 2 + bit_xor 1 b
unfolding bring_down divisor
subtracted t b ht hb =
    simp (le-ltb ((32768 + t) * 2 + b) 65536 (omega arith))
    (ap (bit_xor 65537) e
    ∙ xor_block 16 1 1 1 (t * 2 + b) (lit< tt) (omega arith)
    ∙ zero-add (bit_xor 1 (t * 2 + b))
    ∙ xor_block 1 0 t 1 b (lit< tt) hb)
  where
    e : (32768 + t) * 2 + b ≡ 1 * 2 ^ 16 + (t * 2 + b)
    e = omega arith

-- The top digit of the remainder comes round to the bottom, and the coefficient is added to it.
pub bring_turn : (c t b : ℕ) → c < 2 → t < 32768 → b < 2 → bring_down (c * 32768 + t) b ≡ t * 2 + bit_xor c b
bring_turn zero t b hc ht hb = ap (λ (r : ℕ). bring_down r b) (omega arith) ∙ shifted t b ht hb
bring_turn (suc zero) t b hc ht hb = subtracted t b ht hb
bring_turn (suc (suc c)) t b hc ht hb = absurd (omega arith)

-- The top digit c of the digits e, taken off the remainder e m + y.
top_off : (e c P e' m y : ℕ) → e ≡ c * P + e' → P * m ≡ 32768 → e * m + y ≡ c * 32768 + (e' * m + y)
top_off e c P e' m y h k = rw h (omega (arith, ap (λ (z : ℕ). c * z) k))

-- A factor 2 may go last.
swap_two : (a m : ℕ) → a * 2 * m ≡ a * m * 2
swap_two a m = omega arith

-- Half of x^16 is x^15.
half_of : (n : ℕ) → n * 2 ≡ 65536 → n ≡ 32768
half_of n h = omega arith

-- Twice x^15 is x^16.
twice_of : (P m : ℕ) → P * m ≡ 32768 → P * (m * 2) ≡ 65536
twice_of P m h = omega arith

-- A shift of the remainder e m + y is a shift of both parts.
double_low : (e m y x : ℕ) → (e * m + y) * 2 + x ≡ e * (m * 2) + (y * 2 + x)
double_low e m y x = omega arith

-- A digit x behind y, before P and z, belongs to the lower part.
pub regroup : (y x P z : ℕ) → (y * 2 + x) * P + z ≡ y * (P * 2) + (x * P + z)
regroup y x P z = omega arith

-- The k low digits of B, brought down behind a remainder whose top k digits are e and whose others are y, turn it round by k digits and are added to e.
pub bring_digits : (k m y e B : ℕ) (cs : List ℕ) → 2 ^ k * m ≡ 65536 → e < 2 ^ k → y < m
    → remainder (e * m + y) (digits k B ++ cs) ≡ remainder (y * 2 ^ k + bit_xor e (B % 2 ^ k)) cs
unfolding digits remainder
bring_digits zero m y e B cs hm he hy =
    let e0 : e ≡ 0 = lt-one he in
    rw (e0, mod-one) (ap (λ (r : ℕ). remainder r cs) (omega arith))
bring_digits (suc k) m y e B cs hm he hy =
    let P : ℕ = 2 ^ k in
    let c : ℕ = e / P in
    let e' : ℕ = e % P in
    let b : ℕ = B / P % 2 in
    let h_p : 2 ^ suc k ≡ P * 2 = pow-suc 2 k in
    let h_pm : P * m ≡ 32768 = half_of (P * m) (sym (swap_two P m) ∙ ap (λ (z : ℕ). z * m) (sym h_p) ∙ hm) in
    let hc : c < 2 = (div-lt_iff_lt-mul (pow_pos k)).1 (subst (λ (z : ℕ). e < z) (h_p ∙ mul_comm P 2) he) in
    let he' : e' < P = mod-lt e (pow_pos k) in
    let hb : b < 2 = mod-lt (B / P) (lit< tt) in
    let x : ℕ = bit_xor c b in
    let hx : x < 2 = xor_lt 1 c b hc hb in
    let es : e ≡ c * P + e' = sym (div-add-mod' e P) in
    let ht : e' * m + y < 32768 = subst (λ (z : ℕ). e' * m + y < z) h_pm (digits_lt he' hy) in
    ap (λ (r : ℕ). remainder (bring_down r b) (digits k B ++ cs)) (top_off e c P e' m y es h_pm)
    ∙ ap (λ (r : ℕ). remainder r (digits k B ++ cs)) (bring_turn c (e' * m + y) b hc ht hb ∙ double_low e' m y x)
    ∙ bring_digits k (m * 2) (y * 2 + x) e' B cs (twice_of P m h_pm) he' (digits_lt hy hx)
    ∙ ap (λ (r : ℕ). remainder r cs)
    (regroup y x P (bit_xor e' (B % P))
    ∙ ap₂ (λ (u v : ℕ). y * u + v) (sym h_p)
    (sym (xor_block k c b e' (B % P) he' (mod-lt B (pow_pos k)))
    ∙ ap₂ bit_xor (sym es) (sym (mod-pow-add B 1 k) ∙ ap (λ (j : ℕ). B % 2 ^ j) (one-add k))))

-- A byte b brought down behind the halves h and l: the halves change places, and b is added to h.
pub bring_byte : (h l b : ℕ) (cs : List ℕ) → h < 256 → l < 256 → b < 256
    → remainder (h * 256 + l) (digits 8 b ++ cs) ≡ remainder (l * 256 + bit_xor h b) cs
bring_byte h l b cs hh hl hb =
    bring_digits 8 256 l h b cs refl hh hl ∙ ap (λ (z : ℕ). remainder (l * 256 + bit_xor h z) cs) (mod-eq_of_lt hb)
