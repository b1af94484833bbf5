-- The remainder has degree below 16, and goes by parts of the coefficients.
use mathlib.Core.Path.{◌≡◌, refl, ap, ◌∙◌}
use Prim.Native.Nat.{ℕ, ◌+◌, ◌*◌, ◌/◌, ◌%◌, ◌<◌}
use native.Mathlib.Omega.{arith}
use mathlib.Core.List.{List, [], ◌∷◌, ◌++◌}
use lib.Bits.{bit_xor, xor_lt}
use Rattle.crc.specs.Check.{bring_down, remainder}
use Rattle.crc.specs.Division.{Digits}
use Rattle.crc.proofs.Turn.{bring_turn}

-- What bringing down a coefficient makes of any remainder: its other digits move up, and its top digit, with the coefficient added, becomes the lowest.
pub bring_is : (r c : ℕ) → r < 65536 → c < 2 → bring_down r c ≡ r % 32768 * 2 + bit_xor (r / 32768) c
bring_is r c h k =
    ap (λ (z : ℕ). bring_down z c) (omega arith) ∙ bring_turn (r / 32768) (r % 32768) c (omega arith) (omega arith) k

-- Bringing down a coefficient keeps the degree below 16.
pub bring_lt : (r c : ℕ) → r < 65536 → c < 2 → bring_down r c < 65536
bring_lt r c h k =
    let hx : bit_xor (r / 32768) c < 2 = xor_lt 1 (r / 32768) c (omega arith) k in
    omega (arith, bring_is r c h k)

-- The remainder has degree below 16.
pub remainder_lt : (r : ℕ) (cs : List ℕ) → r < 65536 → Digits cs → remainder r cs < 65536
unfolding remainder Digits
remainder_lt r [] h d = h
remainder_lt r (c ∷ cs) h d = remainder_lt (bring_down r c) cs (bring_lt r c h d.0) d.1

-- The coefficients in two parts are brought down one part after the other.
pub remainder_append : (r : ℕ) (cs ds : List ℕ) → remainder r (cs ++ ds) ≡ remainder (remainder r cs) ds
unfolding remainder
remainder_append r [] ds = refl
remainder_append r (c ∷ cs) ds = remainder_append (bring_down r c) cs ds
