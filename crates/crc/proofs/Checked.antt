-- Information with its check behind it, divided as a whole: the remainder is all ones exactly where the two agree.
use mathlib.Core.Path.{◌≡◌, sym, ap, ◌∙◌}
use Prim.Native.Nat.{ℕ, ◌+◌, ◌*◌, ◌/◌, ◌%◌, ◌<◌}
use native.Mathlib.Omega.{arith}
use mathlib.Core.Bool.{true}
use mathlib.Core.List.{List, [], ◌∷◌, ◌++◌}
use lib.Dec.{lit<}
use lib.Bits.{bit_xor, xor_block, xor_lt}
use borrow.Author.Tests.{eq-eqb}
use Rattle.crc.specs.Check.{digits, coefficients, remainder, check_of, agrees}
use Rattle.crc.specs.Burst.{checked_bits}
use Rattle.crc.proofs.Xor.{xor_twice, xor_cancel}
use Rattle.crc.proofs.Coefficients.{coefficients_digits, coefficients_append}
use Rattle.crc.proofs.Turn.{bring_byte}
use Rattle.crc.proofs.Remainder.{remainder_lt, remainder_append}
use Rattle.crc.proofs.Check.{check_complement, check_lt}
use Rattle.crc.proofs.Agreement.{agrees_parts, agrees_number}

-- Two bytes brought down behind a remainder are added to it over GF(2).
bring_two : (r h l : ℕ) → r < 65536 → h < 256 → l < 256 → remainder r (coefficients (h ∷ l ∷ [])) ≡ bit_xor r (h * 256 + l)
unfolding coefficients remainder
bring_two r h l hr hh hl =
    let a : ℕ = r / 256 in
    let b : ℕ = r % 256 in
    let halves : r ≡ a * 256 + b = omega arith in
    let ha : a < 256 = omega arith in
    let hb : b < 256 = omega arith in
    ap (λ (z : ℕ). remainder z (digits 8 h ++ (digits 8 l ++ []))) halves
    ∙ bring_byte a b h (digits 8 l ++ []) ha hb hh
    ∙ bring_byte b (bit_xor a h) l [] hb (xor_lt 8 a h ha hh) hl
    ∙ sym (xor_block 8 a h b l hb hl)
    ∙ ap (λ (z : ℕ). bit_xor z (h * 256 + l)) (sym halves)

-- The remainder of the whole is that of the information with the check added.
remainder_checked : (bs : List ℕ) (h l : ℕ) → h < 256 → l < 256 → remainder 0 (checked_bits bs h l) ≡ bit_xor (remainder 0 (coefficients bs)) (h * 256 + l)
remainder_checked bs h l hh hl =
    ap (remainder 0) (coefficients_append bs (h ∷ l ∷ []))
    ∙ remainder_append 0 (coefficients bs) (coefficients (h ∷ l ∷ []))
    ∙ bring_two (remainder 0 (coefficients bs)) h l (remainder_lt 0 (coefficients bs) (lit< tt) (coefficients_digits bs)) hh hl

-- Where they agree it is all ones,
pub agrees_ones : (bs : List ℕ) (h l : ℕ) → agrees bs h l ≡ true → remainder 0 (checked_bits bs h l) ≡ 65535
agrees_ones bs h l e =
    let p = agrees_parts bs h l e in
    let n : h * 256 + l ≡ check_of bs = omega (arith, p.0, p.1) in
    remainder_checked bs h l (omega (arith, check_lt bs)) (omega arith)
    ∙ ap (bit_xor (remainder 0 (coefficients bs))) (n ∙ check_complement bs)
    ∙ xor_twice (remainder 0 (coefficients bs)) 65535

-- and where it is all ones they agree.
pub ones_agree : (bs : List ℕ) (h l : ℕ) → h < 256 → l < 256 → remainder 0 (checked_bits bs h l) ≡ 65535 → agrees bs h l ≡ true
ones_agree bs h l hh hl e =
    let r : ℕ = remainder 0 (coefficients bs) in
    let n : h * 256 + l ≡ bit_xor r 65535 = xor_cancel r (h * 256 + l) (bit_xor r 65535) (sym (remainder_checked bs h l hh hl) ∙ e ∙ sym (xor_twice r 65535)) in
    agrees_number bs h l hh hl ∙ eq-eqb (check_of bs) (h * 256 + l) (check_complement bs ∙ sym n)
