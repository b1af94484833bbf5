-- The check by bytes: each half is the complement of the exclusive or of the bytes that fall in it.
use mathlib.Core.Path.{◌≡◌, refl, ap, ap₂, ◌∙◌}
use Prim.Native.Nat.{ℕ, ◌+◌, ◌-◌, ◌*◌, ◌/◌, ◌%◌, ◌<◌}
use native.Mathlib.Omega.{arith}
use mathlib.Core.List.{List, [], ◌∷◌, reverse, reverse_aux}
use lib.Dec.{lit<}
use lib.ListN.{drop}
use lib.Bits.{bit_xor, xor_lt, xor_comm, xor_zero_l}
use Rattle.crc.specs.Check.{coefficients, remainder, check_bytes}
use Rattle.crc.specs.Halves.{AllBytes, every_other, low_half, high_half}
use Rattle.crc.proofs.Bytes.{all_reverse}
use Rattle.crc.proofs.Turn.{bring_byte}

-- The exclusive or of bytes is a byte.
other_lt : (bs : List ℕ) → AllBytes bs → every_other bs < 256
unfolding every_other AllBytes
other_lt [] a = lit< tt
other_lt (b ∷ []) a = a.0
other_lt (b ∷ c ∷ bs) a = xor_lt 8 b (every_other bs) a.0 (other_lt bs a.1.1)

-- The exclusive or of bytes from the second on is a byte.
rest_lt : (bs : List ℕ) → AllBytes bs → every_other (drop 1 bs) < 256
unfolding AllBytes
rest_lt [] a = other_lt [] tt
rest_lt (b ∷ bs) a = other_lt bs a.1

-- A byte before the others is added to the second, the fourth and so on.
other_cons : (b : ℕ) (bs : List ℕ) → bit_xor (every_other (drop 1 bs)) b ≡ every_other (b ∷ bs)
unfolding every_other
other_cons b [] = xor_zero_l b
other_cons b (c ∷ bs) = xor_comm (every_other bs) b

-- The remainder of bytes brought down behind those of acc, which stand last byte first.
halves_from : (bs acc : List ℕ) → AllBytes bs → AllBytes acc
    → remainder (every_other (drop 1 acc) * 256 + every_other acc) (coefficients bs)
    ≡ every_other (drop 1 (reverse_aux bs acc)) * 256 + every_other (reverse_aux bs acc)
unfolding coefficients AllBytes remainder
halves_from [] acc hb ha = refl
halves_from (b ∷ bs) acc hb ha =
    bring_byte (every_other (drop 1 acc)) (every_other acc) b (coefficients bs) (rest_lt acc ha) (other_lt acc ha) hb.0
    ∙ ap (λ (z : ℕ). remainder (every_other acc * 256 + z) (coefficients bs)) (other_cons b acc)
    ∙ halves_from bs (b ∷ acc) hb.1 (hb.0, ha)

-- The remainder of bytes is their high half and then their low half.
pub remainder_halves : (bs : List ℕ) → AllBytes bs → remainder 0 (coefficients bs) ≡ high_half bs * 256 + low_half bs
unfolding high_half low_half every_other AllBytes
remainder_halves bs a = halves_from bs [] a tt

-- Each half is a byte.
pub halves_lt : (bs : List ℕ) → AllBytes bs → (high_half bs < 256) × (low_half bs < 256)
unfolding high_half low_half AllBytes
halves_lt bs a =
    let r : AllBytes (reverse bs) = all_reverse bs [] a tt in
    (rest_lt (reverse bs) r, other_lt (reverse bs) r)

-- The check of bytes, of any number of them, is stored as the complement of the high half and the complement of the low half.
pub check_halves : (bs : List ℕ) → AllBytes bs → check_bytes bs ≡ (255 - high_half bs) ∷ (255 - low_half bs) ∷ []
unfolding check_bytes
check_halves bs a =
    ap (λ (r : ℕ). (65535 - r) / 256 ∷ (65535 - r) % 256 ∷ []) (remainder_halves bs a)
    ∙ ap₂ (λ (u v : ℕ). u ∷ v ∷ []) (high (high_half bs) (low_half bs) k.0 k.1) (low (high_half bs) (low_half bs) k.0 k.1)
  where
    k : (high_half bs < 256) × (low_half bs < 256)
    k = halves_lt bs a

    high : (h l : ℕ) → h < 256 → l < 256 → (65535 - (h * 256 + l)) / 256 ≡ 255 - h
    high h l hh hl = omega arith

    low : (h l : ℕ) → h < 256 → l < 256 → (65535 - (h * 256 + l)) % 256 ≡ 255 - l
    low h l hh hl = omega arith
