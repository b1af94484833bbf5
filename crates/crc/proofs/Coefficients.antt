-- The coefficients of bytes: each is 0 or 1, there are eight for each byte, and those of two parts are those of each in turn.
use mathlib.Core.Path.{◌≡◌, refl, sym, ap, ◌∙◌}
use Prim.Native.Nat.{ℕ, zero, suc, ◌*◌, ◌/◌, ◌^◌}
use native.Mathlib.Omega.{arith}
use native.Mathlib.Nat.{mod-lt}
use mathlib.Core.List.{List, [], ◌∷◌, ◌++◌, append_assoc}
use lib.Dec.{lit<}
use lib.ListN.{length}
use Rattle.crc.specs.Check.{digits, coefficients}
use Rattle.crc.specs.Division.{Digits}

-- The binary digits of a number, before digits, are digits.
digits_append : (k n : ℕ) (cs : List ℕ) → Digits cs → Digits (digits k n ++ cs)
unfolding Digits digits
digits_append zero n cs d = d
digits_append (suc k) n cs d = (mod-lt (n / 2 ^ k) (lit< tt), digits_append k n cs d)

-- Each coefficient of any bytes is 0 or 1.
pub coefficients_digits : (bs : List ℕ) → Digits (coefficients bs)
unfolding Digits coefficients
coefficients_digits [] = tt
coefficients_digits (b ∷ bs) = digits_append 8 b (coefficients bs) (coefficients_digits bs)

-- The coefficients of bytes in two parts are those of each part, one after the other.
pub coefficients_append : (bs cs : List ℕ) → coefficients (bs ++ cs) ≡ coefficients bs ++ coefficients cs
unfolding coefficients
coefficients_append [] cs = refl
coefficients_append (b ∷ bs) cs =
    ap (λ (xs : List ℕ). digits 8 b ++ xs) (coefficients_append bs cs) ∙ sym (append_assoc (digits 8 b) (coefficients bs) (coefficients cs))

-- There are eight for each byte.
pub coefficients_length : (bs : List ℕ) → length (coefficients bs) ≡ 8 * length bs
unfolding coefficients digits
coefficients_length [] = refl
coefficients_length (b ∷ bs) = omega (arith, coefficients_length bs)
