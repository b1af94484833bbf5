-- The remainder is linear over GF(2): the remainder of a sum is the sum of the remainders.
use mathlib.Core.Path.{◌≡◌, refl, sym, ap, ap₂, ◌∙◌}
use Prim.Native.Nat.{ℕ, zero, suc, ◌+◌, ◌*◌, ◌/◌, ◌%◌, ◌<◌}
use native.Mathlib.Omega.{arith}
use mathlib.Core.List.{List, [], ◌∷◌}
use lib.ListN.{length, get_or}
use lib.Bits.{bit_xor, xor_block, xor_lt, xor_shr, xor_mod, xor_self}
use Rattle.crc.specs.Check.{bring_down, remainder}
use Rattle.crc.specs.Division.{Digits}
use Rattle.crc.specs.Burst.{DiffersAt}
use Rattle.crc.proofs.Xor.{xor_middle, xor_zero_same}
use Rattle.crc.proofs.Remainder.{bring_is, bring_lt}

-- The sum of two lists of coefficients over GF(2), place by place, as far as both go.
unfoldable pub sums : List ℕ → List ℕ → List ℕ
sums [] ys = []
sums (x ∷ xs) [] = []
sums (x ∷ xs) (y ∷ ys) = bit_xor x y ∷ sums xs ys

-- Sums of coefficients are coefficients.
pub sums_digits : (xs ys : List ℕ) → Digits xs → Digits ys → Digits (sums xs ys)
unfolding sums Digits
sums_digits [] ys d e = tt
sums_digits (x ∷ xs) [] d e = tt
sums_digits (x ∷ xs) (y ∷ ys) d e = (xor_lt 1 x y d.0 e.0, sums_digits xs ys d.1 e.1)

-- What stands at place i of the sum of two lists of one length.
sums_at : (xs ys : List ℕ) (i : ℕ) → length xs ≡ length ys → get_or (sums xs ys) i 0 ≡ bit_xor (get_or xs i 0) (get_or ys i 0)
unfolding sums
sums_at [] [] i e = refl
sums_at [] (y ∷ ys) i e = absurd (omega arith)
sums_at (x ∷ xs) [] i e = absurd (omega arith)
sums_at (x ∷ xs) (y ∷ ys) zero e = refl
sums_at (x ∷ xs) (y ∷ ys) (suc i) e = sums_at xs ys i (omega arith)

-- The coefficients xs and ys, which are as many.
module _ (xs ys : List ℕ) (e : length xs ≡ length ys) (i : ℕ) where
  -- Where their sum is not 0 they differ,
  pub sum_differs : (get_or (sums xs ys) i 0 ≡ 0 → ⊥) → DiffersAt xs ys i
  sum_differs n q = n (sums_at xs ys i e ∙ ap (λ (z : ℕ). bit_xor z (get_or ys i 0)) q ∙ xor_self (get_or ys i 0))

  -- and where they differ it is not 0.
  pub differs_sum : DiffersAt xs ys i → get_or (sums xs ys) i 0 ≡ 0 → ⊥
  differs_sum n q = n (xor_zero_same (get_or xs i 0) (get_or ys i 0) (sym (sums_at xs ys i e) ∙ q))

-- A sum of coefficients brought down behind a sum of remainders.
bring_sum : (r s x y : ℕ) → r < 65536 → s < 65536 → x < 2 → y < 2 → bring_down (bit_xor r s) (bit_xor x y) ≡ bit_xor (bring_down r x) (bring_down s y)
bring_sum r s x y hr hs hx hy =
    let u : ℕ = bit_xor (r / 32768) x in
    let v : ℕ = bit_xor (s / 32768) y in
    bring_is (bit_xor r s) (bit_xor x y) (xor_lt 16 r s hr hs) (xor_lt 1 x y hx hy)
    ∙ ap₂ (λ (t b : ℕ). t * 2 + b) (xor_mod r s 15) (ap (λ (z : ℕ). bit_xor z (bit_xor x y)) (xor_shr r s 15) ∙ xor_middle (r / 32768) (s / 32768) x y)
    ∙ sym (xor_block 1 (r % 32768) (s % 32768) u v (xor_lt 1 (r / 32768) x (omega arith) hx) (xor_lt 1 (s / 32768) y (omega arith) hy))
    ∙ ap₂ bit_xor (sym (bring_is r x hr hx)) (sym (bring_is s y hs hy))

-- The remainder of a sum is the sum of the remainders.
pub remainder_sum : (xs ys : List ℕ) (r s : ℕ) → length xs ≡ length ys → Digits xs → Digits ys → r < 65536 → s < 65536
    → remainder (bit_xor r s) (sums xs ys) ≡ bit_xor (remainder r xs) (remainder s ys)
unfolding sums Digits remainder
remainder_sum [] [] r s e dx dy hr hs = refl
remainder_sum [] (y ∷ ys) r s e dx dy hr hs = absurd (omega arith)
remainder_sum (x ∷ xs) [] r s e dx dy hr hs = absurd (omega arith)
remainder_sum (x ∷ xs) (y ∷ ys) r s e dx dy hr hs =
    ap (λ (z : ℕ). remainder z (sums xs ys)) (bring_sum r s x y hr hs dx.0 dy.0)
    ∙ remainder_sum xs ys (bring_down r x) (bring_down s y) (omega arith) dx.1 dy.1 (bring_lt r x hr dx.0) (bring_lt s y hs dy.0)
