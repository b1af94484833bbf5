-- Laws of bytes as one number: its trailing zeros say how many zeros the bytes start with.
use mathlib.Core.Path.{◌≡◌, refl, sym, ap, ◌∙◌}
use Prim.Native.Nat.{ℕ, zero, suc, ◌+◌, ◌*◌, ◌/◌, ◌%◌, ◌^◌, ◌≤◌, ◌<◌}
use native.Mathlib.Nat.{add-zero, add-suc, suc-add, mul-suc, pow-suc}
use native.Mathlib.Numerals.{towards_suc}
use native.Mathlib.Omega.{arith}
use mathlib.Core.List.{List}
use lib.Bits.{shifted_even, shifted_half}
use lib.Count.{count_trailing_zeros, trailing_le}
use lib.Dec.{eqb}
use lib.ListN.{length, get_or, drop}
use borrow.Author.Tests.{eqb-true, eqb-false}
use Rattle.base.specs.Pick.{pick}
use Rattle.base.proofs.Tests.{cases}
use Rattle.crc.specs.Word.{word_of}
use Rattle.search.specs.Zero.{zero_run, word_at, word_zeros}
use Rattle.search.proofs.Zero.{zeros_on, zeros_off}

-- The lowest digit of n is 0, or it is not.
trailing_even : (k n : ℕ) → n % 2 ≡ 0 → count_trailing_zeros (suc k) n ≡ suc (count_trailing_zeros k (n / 2))
unfolding count_trailing_zeros
trailing_even k n e = rw e

trailing_odd : (k n : ℕ) → n % 2 ≡ 1 → count_trailing_zeros (suc k) n ≡ 0
unfolding count_trailing_zeros
trailing_odd k n e = rw e

-- Its j lowest digits are 0.
trailing_shift : (j k n : ℕ) → count_trailing_zeros (k + j) (n * 2 ^ j) ≡ count_trailing_zeros k n + j
trailing_shift zero k n = let e : n * 1 ≡ n = omega arith in rw (add-zero k, e, add-zero (count_trailing_zeros k n))
trailing_shift (suc j) k n =
    rw (add-suc k j, trailing_even (k + j) (n * 2 ^ suc j) (shifted_even n j), shifted_half n j, trailing_shift j k n) (omega arith)

-- Its j lowest digits, the number b, are not all 0.
trailing_set : (j k b n : ℕ) → 0 < b → b < 2 ^ j → count_trailing_zeros k (b + n * 2 ^ j) < j
trailing_set zero k b n z l = absurd (omega arith)
trailing_set (suc j) zero b n z l = omega (arith, trailing_le 0 (b + n * 2 ^ suc j))
trailing_set (suc j) (suc k) b n z l =
    let x = n * 2 ^ j in
    let e : n * 2 ^ suc j ≡ x * 2 = omega (arith, shifted_even n j, shifted_half n j) in
    let p : 2 ^ suc j ≡ 2 ^ j * 2 = pow-suc 2 j in
    let q : (b + x * 2) / 2 ≡ b / 2 + x = omega arith in
    cases (eqb (b % 2) 0)
    (λ s.
    let t = eqb-true (b % 2) 0 s in
    rw (e, trailing_even k (b + x * 2) (omega arith), q) (omega (arith, trailing_set j k (b / 2) n (omega arith) (omega arith))))
    (λ s.
    let t = eqb-false (b % 2) 0 s in
    rw (e, trailing_odd k (b + x * 2) (omega arith)) (omega arith))

-- Its lowest byte is 0, or it is not.
byte_zero : (k v : ℕ) → count_trailing_zeros (k + 8) (0 + 256 * v) / 8 ≡ suc (count_trailing_zeros k v / 8)
byte_zero k v = let e : 0 + 256 * v ≡ v * 2 ^ 8 = omega arith in rw (e, trailing_shift 8 k v) (omega arith)

byte_set : (k b v : ℕ) → 0 < b → b < 256 → count_trailing_zeros (k + 8) (b + 256 * v) / 8 ≡ 0
byte_set k b v z l = let e : 256 * v ≡ v * 2 ^ 8 = omega arith in rw e (omega (arith, trailing_set 8 (k + 8) b v z l))

-- The n bytes of s from place i on are all 0.
word_zero : (n : ℕ) (s : List ℕ) (i : ℕ) → i + n ≤ length s → word_at n s i ≡ 0 → zero_run (drop i s) ≡ n + zero_run (drop (i + n) s)
unfolding word_at
word_zero zero s i h e = rw (add-zero i) (omega arith)
word_zero (suc n) s i h e =
    rw (zeros_on s i (omega arith) (omega arith), word_zero n s (suc i) (omega arith) (omega arith), suc-add i n, add-suc i n) (omega arith)

-- They are not.
word_set : (n : ℕ) (s : List ℕ) (i : ℕ) → i + n ≤ length s → ((j : ℕ) → get_or s j 0 < 256) → (word_at n s i ≡ 0 → ⊥)
    → zero_run (drop i s) ≡ count_trailing_zeros (8 * n) (word_at n s i) / 8
unfolding word_at
word_set zero s i h b e = absurd (e refl)
word_set (suc n) s i h b e =
    let v = word_at n s (suc i) in
    cases (eqb (get_or s i 0) 0)
    (λ z.
    let t = eqb-true (get_or s i 0) 0 z in
    rw (mul-suc 8 n, zeros_on s i (omega arith) t, t, byte_zero (8 * n) v) (ap suc (word_set n s (suc i) (omega arith) b (λ f. e (omega arith)))))
    (λ z.
    let t : get_or s i 0 ≡ 0 → ⊥ = eqb-false (get_or s i 0) 0 z in
    rw (mul-suc 8 n, zeros_off s i (omega arith) t) (sym (byte_set (8 * n) (get_or s i 0) v (omega arith) (b i))))

-- Eight bytes, each with its weight, are the word at their place: the check's definition of it and this one agree.
pub words_agree : (s : List ℕ) (i : ℕ) → Rattle.crc.specs.Word.word_at s i ≡ word_at 8 s i
unfolding word_at
words_agree s i = simp towards_suc (omega arith)

-- The word w from place i to place j of s is 0, or it is not.
pub word_run : (s : List ℕ) (i j w : ℕ) → j ≡ i + 8 → j ≤ length s → ((k : ℕ) → get_or s k 0 < 256) → w ≡ word_at 8 s i
    → zero_run (drop i s) ≡ pick (eqb w 0) (8 + zero_run (drop j s)) (word_zeros w)
word_run s i j w e h bytes so =
    cases (eqb w 0)
    (λ z. rw (z, e) (word_zero 8 s i (omega arith) (sym so ∙ eqb-true w 0 z)))
    (λ z. rw (z, so) (word_set 8 s i (omega arith) bytes (λ x. eqb-false w 0 z (so ∙ x))))
