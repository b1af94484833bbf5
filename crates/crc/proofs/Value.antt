-- The dividend of bytes is the number that the bytes make, the first byte highest.
use mathlib.Core.Path.{◌≡◌, sym, ap, ap₂, ◌∙◌}
use Prim.Native.Nat.{ℕ, zero, suc, ◌+◌, ◌*◌, ◌/◌, ◌%◌, ◌^◌, ◌<◌}
use native.Mathlib.Omega.{arith}
use native.Mathlib.Numerals.{one-add}
use native.Mathlib.Nat.{pow-suc, mod-one, mod-eq_of_lt}
use mathlib.Core.List.{List, [], ◌∷◌, ◌++◌}
use lib.ListN.{replicate}
use lib.Pow.{mod-pow-add}
use Rattle.crc.specs.Check.{digits, coefficients}
use Rattle.crc.specs.Division.{value}
use Rattle.crc.proofs.Turn.{regroup}

-- The k low digits of n, put behind v, shift v by k digits and add what they make.
value_digits : (k v n : ℕ) (cs : List ℕ) → value v (digits k n ++ cs) ≡ value (v * 2 ^ k + n % 2 ^ k) cs
unfolding value digits
value_digits zero v n cs = rw mod-one (ap (λ (z : ℕ). value z cs) (omega arith))
value_digits (suc k) v n cs =
    value_digits k (v * 2 + n / 2 ^ k % 2) n cs
    ∙ ap (λ (z : ℕ). value z cs)
    (regroup v (n / 2 ^ k % 2) (2 ^ k) (n % 2 ^ k)
    ∙ ap₂ (λ (u w : ℕ). v * u + w) (sym (pow-suc 2 k)) (sym (mod-pow-add n 1 k) ∙ ap (λ (j : ℕ). n % 2 ^ j) (one-add k)))

-- A byte put behind v shifts v by eight digits and is added.
pub value_byte : (v b : ℕ) (bs : List ℕ) → b < 256 → value v (coefficients (b ∷ bs)) ≡ value (v * 256 + b) (coefficients bs)
unfolding coefficients
value_byte v b bs h =
    value_digits 8 v b (coefficients bs) ∙ ap (λ (z : ℕ). value (v * 256 + z) (coefficients bs)) (mod-eq_of_lt h)

-- Sixteen zeros behind the coefficients multiply the dividend by x^16.
pub value_x16 : (v : ℕ) (cs : List ℕ) → value v (cs ++ replicate 16 0) ≡ value v cs * 65536
unfolding value
value_x16 v [] = sixteen v
  where
    sixteen : (n : ℕ) → value n (replicate 16 0) ≡ n * 65536
    sixteen n = omega arith
value_x16 v (c ∷ cs) = value_x16 (v * 2 + c) cs
