-- The remainder by parts: where the second has an even number of bytes, the remainders of the two are added.
use mathlib.Core.Path.{◌≡◌, sym, ap, ◌∙◌}
use Prim.Native.Nat.{ℕ, suc, ◌*◌, ◌/◌, ◌%◌, ◌<◌}
use native.Mathlib.Omega.{arith}
use native.Mathlib.Nat.{div-add-mod'}
use mathlib.Core.List.{List, ◌++◌}
use lib.Dec.{lit<}
use lib.ListN.{length, take, drop, take-append-drop}
use lib.Bits.{bit_xor, xor_comm}
use Rattle.crc.specs.Check.{coefficients, remainder}
use Rattle.crc.specs.Halves.{in_half}
use Rattle.crc.proofs.Coefficients.{coefficients_digits, coefficients_append}
use Rattle.crc.proofs.Remainder.{remainder_lt, remainder_append}
use Rattle.crc.proofs.Before.{half_parity, remainder_added}

-- Bytes brought down behind a remainder r, an even number of them: r is added to their own remainder.
remainder_behind : (r : ℕ) (bs : List ℕ) → r < 65536 → length bs % 2 ≡ 0 → remainder r (coefficients bs) ≡ bit_xor r (remainder 0 (coefficients bs))
remainder_behind r bs h e =
    let n : ℕ = length bs in
    let high : in_half (suc n) (r / 256) ≡ r / 256 * 256 = half_parity (suc n) 1 (r / 256) (omega arith) in
    let low : in_half n (r % 256) ≡ r % 256 = half_parity n 0 (r % 256) e in
    ap (λ (z : ℕ). remainder z (coefficients bs)) (sym (div-add-mod' r 256))
    ∙ remainder_added bs 0 0 (r / 256) (r % 256) (lit< tt) (lit< tt) (omega arith) (omega arith)
    ∙ ap (bit_xor (remainder 0 (coefficients bs))) (omega arith)
    ∙ xor_comm (remainder 0 (coefficients bs)) r

-- The remainder of bytes in two parts, the second an even number of bytes, is the exclusive or of the remainders of the parts.
pub remainder_parts : (bs cs : List ℕ) → length cs % 2 ≡ 0
    → remainder 0 (coefficients (bs ++ cs)) ≡ bit_xor (remainder 0 (coefficients bs)) (remainder 0 (coefficients cs))
remainder_parts bs cs e =
    ap (remainder 0) (coefficients_append bs cs)
    ∙ remainder_append 0 (coefficients bs) (coefficients cs)
    ∙ remainder_behind (remainder 0 (coefficients bs)) cs (remainder_lt 0 (coefficients bs) (lit< tt) (coefficients_digits bs)) e

-- The same for bytes cut at place n.
pub remainder_cut : (n : ℕ) (bs : List ℕ) → length (drop n bs) % 2 ≡ 0
    → remainder 0 (coefficients bs) ≡ bit_xor (remainder 0 (coefficients (take n bs))) (remainder 0 (coefficients (drop n bs)))
remainder_cut n bs e =
    ap (λ (xs : List ℕ). remainder 0 (coefficients xs)) (sym (take-append-drop n bs)) ∙ remainder_parts (take n bs) (drop n bs) e
