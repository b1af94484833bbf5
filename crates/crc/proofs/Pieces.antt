-- Bytes passed by pieces of a fixed even number, the last of which ends with the bytes: each piece adds its own remainder.
use mathlib.Core.Path.{◌≡◌, refl, sym, ap, ap₂, ◌∙◌}
use Prim.Native.Nat.{ℕ, zero, suc, ◌+◌, ◌-◌, ◌*◌, ◌/◌, ◌%◌, ◌≤◌, ◌<◌}
use native.Mathlib.Omega.{arith}
use mathlib.Core.List.{List, [], ◌∷◌, ◌++◌}
use lib.ListN.{length, get_or, take, drop, length-drop}
use lib.Seq.{take-add, length-take-le, get_or-take, drop-length}
use lib.Bits.{bit_xor, xor_lt}
use Rattle.std.proofs.lemmas.List.{drop-drop, get_or-drop, length_push, same_from_push}
use Rattle.std.specs.Int.{from_le_bytes, w64}
use Rattle.std.specs.Simd.{first_chunks}
use Rattle.crc.specs.Check.{coefficients, remainder}
use Rattle.crc.specs.Halves.{AllBytes}
use Rattle.crc.specs.Word.{word, word_at, lanes}
use Rattle.crc.proofs.Bytes.{all_bytes}
use Rattle.crc.proofs.Before.{low_before, high_before}
use Rattle.crc.proofs.Cut.{drop_two, drop_eight}
use Rattle.crc.proofs.Parts.{remainder_parts}
use Rattle.crc.proofs.Lanes.{remainder_none, lanes_word, lanes_xor}

-- Piece k of the first m pieces of n elements.
piece_at : {A : Type 0} (n m k : ℕ) (xs : List A) → k < m → get_or (first_chunks n m xs) k [] ≡ take n (drop (k * n) xs)
piece_at n zero k xs h = absurd (omega arith)
piece_at n (suc m) zero xs h = ap (λ (j : ℕ). take n (drop j xs)) {x = 0} {y = 0 * n} (omega arith)
piece_at n (suc m) (suc k) xs h =
    piece_at n m k (drop n xs) (omega arith) ∙ ap (take n) (drop-drop (k * n) n xs ∙ ap (λ (j : ℕ). drop j xs) {x = n + k * n} {y = suc k * n} (omega arith))

-- Piece k of the bytes s, cut into pieces of n behind those in front.
module _ (n k : ℕ) (s : List ℕ) (cs : List (List ℕ)) (e : cs ≡ first_chunks n (length s / n) (drop (length s % n) s)) (hk : k < length s / n) (hs : length s % n + (k + 1) * n ≤ length s) where
  -- So many stand in front.
  abbrev r : ℕ
  r = length s % n

  -- It is the next n bytes behind those passed,
  next : get_or cs k [] ≡ take n (drop (r + k * n) s)
  next = ap (λ (x : List (List ℕ)). get_or x k []) e ∙ piece_at n (length s / n) k (drop r s) hk ∙ ap (take n) (drop-drop (k * n) r s)

  -- has n of them,
  count : length (get_or cs k []) ≡ n
  count = ap length next ∙ length-take-le n (drop (r + k * n) s) (omega (arith, length-drop (r + k * n) s))

  -- and where s has bytes only, so has the piece.
  all : ((i : ℕ) → get_or s i 0 < 256) → AllBytes (get_or cs k [])
  all byte =
      all_bytes (get_or cs k []) (λ i l.
      rw next (rw (get_or-take n (drop (r + k * n) s) i 0 (omega (arith, count)), get_or-drop (r + k * n) s i 0) (byte (r + k * n + i))))

  -- With it the bytes passed have their remainder and the piece's, added.
  added : n % 2 ≡ 0 → remainder 0 (coefficients (take (r + (k + 1) * n) s)) ≡ bit_xor (remainder 0 (coefficients (take (r + k * n) s))) (remainder 0 (coefficients (get_or cs k [])))
  added even =
      let more : take (r + (k + 1) * n) s ≡ take (r + k * n) s ++ get_or cs k [] =
      ap (λ (j : ℕ). take j s) {x = r + (k + 1) * n} {y = r + k * n + n} (omega arith) ∙ take-add (r + k * n) n s ∙ ap (λ (x : List ℕ). take (r + k * n) s ++ x) (sym next) in
      ap (λ (x : List ℕ). remainder 0 (coefficients x)) more ∙ remainder_parts (take (r + k * n) s) (get_or cs k []) (rw count even)

-- One piece more stands behind the others.
pieces_more : {A : Type 0} (n m : ℕ) (xs : List A) → first_chunks n (suc m) xs ≡ first_chunks n m xs ++ take n (drop (m * n) xs) ∷ []
pieces_more {A = A} n zero xs = ap (λ (j : ℕ). take n (drop j xs) ∷ []) {x = 0} {y = 0 * n} (omega arith)
pieces_more {A = A} n (suc m) xs =
    ap (λ (r : List (List A)). take n xs ∷ r) (pieces_more n m (drop n xs))
    ∙ ap (λ (p : List A). take n xs ∷ first_chunks n m (drop n xs) ++ p ∷ []) (ap (take n) (drop-drop (m * n) n xs ∙ ap (λ (j : ℕ). drop j xs) {x = n + m * n} {y = suc m * n} (omega arith)))

-- The last of the pieces cs taken off: the others are the first pieces still, and it stands behind them.
piece_off : {A : Type 0} (n : ℕ) (xs p : List A) (cs others : List (List A)) → cs ≡ first_chunks n (length cs) xs → cs ≡ others ++ p ∷ []
    → (others ≡ first_chunks n (length others) xs) × (p ≡ take n (drop (length others * n) xs))
piece_off {A = A} n xs p cs others e off =
    let more : length cs ≡ suc (length others) = ap length off ∙ length_push others p ∙ omega arith in
    same_from_push others (first_chunks n (length others) xs) p (take n (drop (length others * n) xs))
    (sym off ∙ e ∙ ap (λ (m : ℕ). first_chunks n m xs) more ∙ pieces_more n (length others) xs)

-- At first all of the pairs are left, and the bytes behind them are none.
pub all_left : (s : List ℕ) (left cs : List (List ℕ)) → left ≡ cs → length cs ≡ length s / 2 → cs ≡ first_chunks 2 (length s / 2) (drop (length s % 2) s)
    → (length left ≤ length s / 2) × (left ≡ first_chunks 2 (length left) (drop (length s % 2) s)) × (0 ≡ remainder 0 (coefficients (drop (length s % 2 + length left * 2) s)))
all_left s left cs same n e =
    let m : length left ≡ length s / 2 = ap length same ∙ n in
    let none : drop (length s % 2 + length left * 2) s ≡ [] = ap (λ (j : ℕ). drop j s) {x = length s % 2 + length left * 2} {y = length s} (omega arith) ∙ drop-length s in (
      omega arith,
      same ∙ e ∙ ap (λ (j : ℕ). first_chunks 2 j (drop (length s % 2) s)) (sym m),
      sym (ap (λ (xs : List ℕ). remainder 0 (coefficients xs)) none ∙ remainder_none),
    )

-- The last of the pairs cs that are left, taken into the halves h and l of the remainder of the bytes behind them: its second byte into the low half, and then its first into the high half.
pub pair_taken : (h l : ℕ) (s p : List ℕ) (cs others : List (List ℕ)) → ((i : ℕ) → get_or s i 0 < 256) → l < 256 → length cs ≤ length s / 2
    → cs ≡ first_chunks 2 (length cs) (drop (length s % 2) s) → cs ≡ others ++ p ∷ [] → h * 256 + l ≡ remainder 0 (coefficients (drop (length s % 2 + length cs * 2) s))
    → (length others ≤ length s / 2) × (others ≡ first_chunks 2 (length others) (drop (length s % 2) s))
    × (bit_xor h (get_or p 0 0) * 256 + bit_xor l (get_or p 1 0) ≡ remainder 0 (coefficients (drop (length s % 2 + length others * 2) s)))
pair_taken h l s p cs others byte hl hs e off known =
    let more : length cs ≡ suc (length others) = ap length off ∙ length_push others p ∙ omega arith in
    let two : (others ≡ first_chunks 2 (length others) (drop (length s % 2) s)) × (p ≡ take 2 (drop (length others * 2) (drop (length s % 2) s))) =
    piece_off 2 (drop (length s % 2) s) p cs others e off in
    let k : ℕ = length s % 2 + length others * 2 in
    let n : ℕ = length s % 2 + length cs * 2 in
    let pair : p ≡ take 2 (drop k s) = two.1 ∙ ap (take 2) (drop-drop (length others * 2) (length s % 2) s) in
    let cut : drop k s ≡ get_or s k 0 ∷ get_or s (k + 1) 0 ∷ drop n s = drop_two s n k (k + 1) (omega arith) refl (omega arith) in
    let first : get_or p 0 0 ≡ get_or s k 0 = ap (λ (x : List ℕ). get_or x 0 0) (pair ∙ ap (take 2) cut) in
    let second : get_or p 1 0 ≡ get_or s (k + 1) 0 = ap (λ (x : List ℕ). get_or x 1 0) (pair ∙ ap (take 2) cut) in
    let even : length (drop n s) % 2 ≡ 0 = omega (arith, length-drop n s) in
    let last : h * 256 + bit_xor l (get_or s (k + 1) 0) ≡ remainder 0 (coefficients (get_or s (k + 1) 0 ∷ drop n s)) =
    low_before h l (drop n s) hl known (get_or s (k + 1) 0) (byte (k + 1)) even in
    let both : bit_xor h (get_or s k 0) * 256 + bit_xor l (get_or s (k + 1) 0) ≡ remainder 0 (coefficients (get_or s k 0 ∷ get_or s (k + 1) 0 ∷ drop n s)) =
    high_before h (bit_xor l (get_or s (k + 1) 0)) (get_or s (k + 1) 0 ∷ drop n s) (xor_lt 8 l (get_or s (k + 1) 0) hl (byte (k + 1))) last (get_or s k 0) (byte k) (omega (arith, even)) in
    (omega arith, two.0, rw (first, second, cut) both)

-- The eight bytes from place i on as one number stand side by side.
le_word : (s : List ℕ) (i : ℕ) → i + 8 ≤ length s → from_le_bytes w64 (take 8 (drop i s)) ≡ word (take 8 (drop i s))
unfolding word
le_word s i h = rw (drop_eight s (i + 8) i refl h) (omega arith)

-- A word added to the words whose lanes are the remainder of the bytes passed.
pub word_added : (k w x : ℕ) (s : List ℕ) (cs : List (List ℕ)) → ((i : ℕ) → get_or s i 0 < 256) → cs ≡ first_chunks 8 (length s / 8) (drop (length s % 8) s) → k < length s / 8
    → x ≡ from_le_bytes w64 (get_or cs k []) → lanes 4 w ≡ remainder 0 (coefficients (take (length s % 8 + k * 8) s))
    → lanes 4 (bit_xor w x) ≡ remainder 0 (coefficients (take (length s % 8 + (k + 1) * 8) s))
word_added k w x s cs byte e hk so known =
    let ps : List ℕ = get_or cs k [] in
    let hs : length s % 8 + (k + 1) * 8 ≤ length s = omega arith in
    let eight : length ps ≡ 8 = count 8 k s cs e hk hs in
    let whole : x ≡ word ps = so ∙ rw (next 8 k s cs e hk hs) (le_word s (length s % 8 + k * 8) (omega arith)) in
    let own : lanes 4 x ≡ remainder 0 (coefficients ps) = ap (lanes 4) whole ∙ lanes_word 4 ps eight (all 8 k s cs e hk hs byte) in
    lanes_xor 4 w x ∙ ap₂ bit_xor known own ∙ sym (added 8 k s cs e hk hs refl)

-- Of a part of eight bytes the first piece is the part.
pub eight_at : (s ps : List ℕ) (i : ℕ) (cs : List (List ℕ)) → i + 8 ≤ length s → ps ≡ take (i + 8 - i) (drop i s) → cs ≡ first_chunks 8 (length ps / 8) ps
    → from_le_bytes w64 (get_or cs 0 []) ≡ word_at s i
eight_at s ps i cs h e f =
    let part : ps ≡ take 8 (drop i s) = e ∙ ap (λ (j : ℕ). take j (drop i s)) {x = i + 8 - i} {y = 8} (omega arith) in
    let long : length ps ≡ 8 = ap length part ∙ length-take-le 8 (drop i s) (omega (arith, length-drop i s)) in
    let first : get_or cs 0 [] ≡ take 8 ps = ap (λ (x : List (List ℕ)). get_or x 0 []) f ∙ piece_at 8 (length ps / 8) 0 ps (omega (arith, long)) in
    ap (from_le_bytes w64) first ∙ rw (part, drop_eight s (i + 8) i refl h) (omega arith)
