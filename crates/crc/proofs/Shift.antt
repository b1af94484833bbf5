-- Multiplying by x^16 before the division changes nothing.
use mathlib.Core.Path.{◌≡◌, sym, ap, ◌∙◌}
use Prim.Native.Nat.{ℕ, ◌+◌, ◌*◌, ◌/◌, ◌%◌, ◌<◌}
use native.Mathlib.Omega.{arith}
use mathlib.Core.List.{List, [], ◌++◌}
use lib.Dec.{lit<}
use lib.ListN.{replicate}
use lib.Bits.{xor_zero_r}
use Rattle.crc.specs.Check.{digits, coefficients, remainder}
use Rattle.crc.specs.Division.{Digits}
use Rattle.crc.proofs.Turn.{bring_byte}
use Rattle.crc.proofs.Coefficients.{coefficients_digits}
use Rattle.crc.proofs.Remainder.{remainder_lt, remainder_append}

-- Sixteen zeros brought down turn a remainder of degree below 16 once round.
turned_round : (r : ℕ) → r < 65536 → remainder r (replicate 16 0) ≡ r
unfolding digits remainder
turned_round r h =
    ap (λ (z : ℕ). remainder z (digits 8 0 ++ (digits 8 0 ++ []))) (halves r)
    ∙ bring_byte (r / 256) (r % 256) 0 (digits 8 0 ++ []) (omega arith) (omega arith) (lit< tt)
    ∙ ap (λ (z : ℕ). remainder (r % 256 * 256 + z) (digits 8 0 ++ [])) (xor_zero_r (r / 256))
    ∙ bring_byte (r % 256) (r / 256) 0 [] (omega arith) (omega arith) (lit< tt)
    ∙ ap (λ (z : ℕ). r / 256 * 256 + z) (xor_zero_r (r % 256))
    ∙ sym (halves r)
  where
    halves : (n : ℕ) → n ≡ n / 256 * 256 + n % 256
    halves n = omega arith

-- Multiplying by x^16 first changes no remainder.
pub times_x16 : (cs : List ℕ) → Digits cs → remainder 0 (cs ++ replicate 16 0) ≡ remainder 0 cs
times_x16 cs d = remainder_append 0 cs (replicate 16 0) ∙ turned_round (remainder 0 cs) (remainder_lt 0 cs (lit< tt) d)

-- The same for the bits of any bytes.
pub times_x16_bytes : (bs : List ℕ) → remainder 0 (coefficients bs ++ replicate 16 0) ≡ remainder 0 (coefficients bs)
times_x16_bytes bs = times_x16 (coefficients bs) (coefficients_digits bs)
