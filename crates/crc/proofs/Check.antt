-- The check is the remainder's complement, fits 16 bits, and is stored as two bytes.
use mathlib.Core.Path.{◌≡◌, refl}
use Prim.Native.Nat.{ℕ, ◌-◌, ◌<◌}
use native.Mathlib.Omega.{arith}
use mathlib.Core.List.{List}
use lib.ListN.{length}
use lib.Bits.{bit_xor, xor_add_and, and_mask}
use Rattle.crc.specs.Check.{coefficients, remainder, check_of, check_bytes}
use Rattle.crc.specs.Halves.{AllBytes}
use Rattle.crc.proofs.Coefficients.{coefficients_digits}
use Rattle.crc.proofs.Remainder.{remainder_lt}

-- The check is the remainder with 1 added over GF(2) to each of its 16 digits.
pub check_complement : (bs : List ℕ) → check_of bs ≡ bit_xor (remainder 0 (coefficients bs)) 65535
check_complement bs = go (remainder 0 (coefficients bs)) (remainder_lt 0 (coefficients bs) (omega arith) (coefficients_digits bs))
  where
    go : (r : ℕ) → r < 65536 → 65535 - r ≡ bit_xor r 65535
    go r h = omega (arith, xor_add_and r 65535, and_mask r 16)

-- The check fits 16 bits.
pub check_lt : (bs : List ℕ) → check_of bs < 65536
check_lt bs = omega arith

-- The two stored bytes are bytes.
pub check_bytes_all : (bs : List ℕ) → AllBytes (check_bytes bs)
unfolding check_bytes AllBytes
check_bytes_all bs = (omega (arith, check_lt bs), (omega arith, tt))

-- The stored check has two bytes.
pub check_bytes_length : (bs : List ℕ) → length (check_bytes bs) ≡ 2
unfolding check_bytes
check_bytes_length bs = refl
