-- The lanes of a word: those of bytes side by side are the bytes' remainder, those of a sum are the sum of the lanes, and folding a word gives its lanes.
use mathlib.Core.Path.{◌≡◌, refl, sym, ap, ap₂, ◌∙◌}
use Prim.Native.Nat.{ℕ, zero, suc, ◌+◌, ◌*◌, ◌/◌, ◌%◌, ◌≤◌, ◌<◌}
use native.Mathlib.Omega.{arith}
use mathlib.Core.List.{List, [], ◌∷◌}
use lib.ListN.{length, get_or, drop}
use lib.Bits.{bit_xor, xor_shr, xor_mod, xor_block, xor_assoc, xor_comm, xor_zero_r}
use Rattle.crc.specs.Check.{coefficients, remainder}
use Rattle.crc.specs.Halves.{AllBytes, every_other, low_half, high_half}
use Rattle.crc.specs.Word.{word, word_of, word_at, pair, lanes}
use Rattle.crc.proofs.Xor.{xor_middle}
use Rattle.crc.proofs.Halves.{remainder_halves}
use Rattle.crc.proofs.Cut.{drop_eight}
use Rattle.crc.proofs.Parts.{remainder_parts}

-- The lowest pair of a sum is the sum of the lowest pairs.
pair_xor : (x y : ℕ) → pair (bit_xor x y) ≡ bit_xor (pair x) (pair y)
unfolding pair
pair_xor x y =
    ap₂ (λ (h l : ℕ). h * 256 + l) (xor_mod x y 8) (ap (λ (z : ℕ). z % 256) (xor_shr x y 8) ∙ xor_mod (x / 256) (y / 256) 8)
    ∙ sym (xor_block 8 (x % 256) (y % 256) (x / 256 % 256) (y / 256 % 256) (omega arith) (omega arith))

-- The lanes of a sum are the sum of the lanes.
pub lanes_xor : (k x y : ℕ) → lanes k (bit_xor x y) ≡ bit_xor (lanes k x) (lanes k y)
unfolding lanes
lanes_xor zero x y = refl
lanes_xor (suc k) x y =
    ap₂ bit_xor (pair_xor x y) (ap (lanes k) (xor_shr x y 16) ∙ lanes_xor k (x / 65536) (y / 65536))
    ∙ xor_middle (pair x) (pair y) (lanes k (x / 65536)) (lanes k (y / 65536))

-- Two bytes and more side by side: the two are the lowest pair,
pair_word : (a b w : ℕ) → a < 256 → b < 256 → pair (a + (b + w * 256) * 256) ≡ a * 256 + b
unfolding pair
pair_word a b w ha hb = omega arith

-- and the others follow.
rest_word : (a b w : ℕ) → a < 256 → b < 256 → (a + (b + w * 256) * 256) / 65536 ≡ w
rest_word a b w ha hb = omega arith

-- The remainder of two bytes is the number that they make.
pub remainder_two : (a b : ℕ) → a < 256 → b < 256 → remainder 0 (coefficients (a ∷ b ∷ [])) ≡ a * 256 + b
unfolding high_half low_half every_other AllBytes
remainder_two a b ha hb = remainder_halves (a ∷ b ∷ []) (ha, (hb, tt)) ∙ ap (λ (z : ℕ). a * 256 + z) (xor_zero_r b)

-- The remainder of no bytes is 0.
pub remainder_none : remainder 0 (coefficients []) ≡ 0
unfolding coefficients remainder
remainder_none = refl

-- The lanes of k pairs of bytes side by side are the remainder of the bytes.
pub lanes_word : (k : ℕ) (bs : List ℕ) → length bs ≡ k * 2 → AllBytes bs → lanes k (word bs) ≡ remainder 0 (coefficients bs)
unfolding lanes word AllBytes
lanes_word zero [] e h = sym remainder_none
lanes_word zero (b ∷ bs) e h = absurd (omega arith)
lanes_word (suc k) [] e h = absurd (omega arith)
lanes_word (suc k) (b ∷ []) e h = absurd (omega arith)
lanes_word (suc k) (a ∷ b ∷ bs) e h =
    ap₂ (λ (p w : ℕ). bit_xor p (lanes k w)) (pair_word a b (word bs) h.0 h.1.0) (rest_word a b (word bs) h.0 h.1.0)
    ∙ ap₂ bit_xor (sym (remainder_two a b h.0 h.1.0)) (lanes_word k bs (omega arith) h.1.1)
    ∙ sym (remainder_parts (a ∷ b ∷ []) bs (omega arith))

-- A word folded to two pairs, and these to one: the lowest pair is the lanes of all four.
pub fold_lanes : (w two one : ℕ) → two ≡ bit_xor w (w / 0x100000000) → one ≡ bit_xor two (two / 0x10000) → pair one ≡ lanes 4 w
unfolding lanes
fold_lanes w two one e f =
    let p : ℕ = pair w in
    let q : ℕ = pair (w / 65536) in
    let r : ℕ = pair (w / 65536 / 65536) in
    let s : ℕ = pair (w / 65536 / 65536 / 65536) in
    let twice : w / 0x100000000 ≡ w / 65536 / 65536 = omega arith in
    let t : two ≡ bit_xor w (w / 65536 / 65536) = e ∙ ap (bit_xor w) twice in
    let low : pair two ≡ bit_xor p r = ap pair t ∙ pair_xor w (w / 65536 / 65536) in
    let high : pair (two / 65536) ≡ bit_xor q s =
    ap (λ (z : ℕ). pair (z / 65536)) t ∙ ap pair (xor_shr w (w / 65536 / 65536) 16) ∙ pair_xor (w / 65536) (w / 65536 / 65536 / 65536) in
    ap pair f
    ∙ pair_xor two (two / 65536)
    ∙ ap₂ bit_xor low high
    ∙ xor_middle p r q s
    ∙ xor_assoc p q (bit_xor r s)
    ∙ ap (λ (z : ℕ). bit_xor p (bit_xor q (bit_xor r z))) (sym (xor_zero_r s))

-- Eight bytes as one number stand side by side.
pub word_of_lem : (a b c d e f g h : ℕ) → word_of a b c d e f g h ≡ word (a ∷ b ∷ c ∷ d ∷ e ∷ f ∷ g ∷ h ∷ [])
unfolding word
word_of_lem a b c d e f g h = omega arith

-- The word at place k, added to the words whose lanes are the remainder of the bytes from place n on, eight places behind k.
pub lanes_turn : (s : List ℕ) (n k w x : ℕ) → ((i : ℕ) → get_or s i 0 < 256) → n ≡ k + 8 → n ≤ length s → length (drop n s) % 2 ≡ 0
    → x ≡ word_at s k → lanes 4 w ≡ remainder 0 (coefficients (drop n s)) → lanes 4 (bit_xor w x) ≡ remainder 0 (coefficients (drop k s))
unfolding AllBytes
lanes_turn s n k w x byte en m even so known =
    let bs : List ℕ =
    get_or s k 0 ∷ get_or s (k + 1) 0 ∷ get_or s (k + 2) 0 ∷ get_or s (k + 3) 0 ∷ get_or s (k + 4) 0 ∷ get_or s (k + 5) 0 ∷ get_or s (k + 6) 0 ∷ get_or s (k + 7) 0 ∷ [] in
    let all : AllBytes bs = (byte k, (byte (k + 1), (byte (k + 2), (byte (k + 3), (byte (k + 4), (byte (k + 5), (byte (k + 6), (byte (k + 7), tt)))))))) in
    let added : lanes 4 x ≡ remainder 0 (coefficients bs) =
    ap (lanes 4) (so ∙ word_of_lem (get_or s k 0) (get_or s (k + 1) 0) (get_or s (k + 2) 0) (get_or s (k + 3) 0) (get_or s (k + 4) 0) (get_or s (k + 5) 0) (get_or s (k + 6) 0) (get_or s (k + 7) 0))
    ∙ lanes_word 4 bs refl all in
    lanes_xor 4 w x
    ∙ xor_comm (lanes 4 w) (lanes 4 x)
    ∙ ap₂ bit_xor added known
    ∙ sym (remainder_parts bs (drop n s) even)
    ∙ ap (λ (r : List ℕ). remainder 0 (coefficients r)) (sym (drop_eight s n k en m))
