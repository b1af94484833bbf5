-- Bits altered at any place of information of any length with its check: with one the two no longer agree, with two that are sixteen apart they do.
use mathlib.Core.Path.{◌≡◌, refl, sym, ap, ap₂, ◌∙◌}
use mathlib.Core.Logic.{inl, inr}
use Prim.Native.Nat.{ℕ, zero, suc, ◌+◌, ◌-◌, ◌*◌, ◌/◌, ◌%◌, ◌^◌, ◌≤◌, ◌<◌}
use native.Mathlib.Omega.{arith}
use native.Mathlib.Numerals.{add-one}
use mathlib.Core.Bool.{true, false}
use mathlib.Core.List.{List, [], ◌∷◌, ◌++◌}
use lib.Dec.{ltb, eqb}
use lib.ListN.{length, get_or, take, set, length-set, length-append, drop_of_length-le, get_or-append}
use lib.Seq.{split_at, drop-cons, get_or-append_seam, get_or-append-add, set-append_left, get_or-set_same, get_or-set_other}
use lib.Bits.{bit_xor, xor_lt, xor_shr, xor_mod, xor_zero_r}
use lib.Pow.{pow-lt}
use borrow.Author.Tests.{ltb-true, ltb-false, eqb-true, eqb-false}
use Rattle.base.proofs.Tests.{cases}
use Rattle.crc.specs.Check.{digits, coefficients, check_of, check_bytes, agrees}
use Rattle.crc.specs.Burst.{checked_bits, Burst, TwoApart, alter_bit}
use Rattle.crc.proofs.Xor.{xor_cancel}
use Rattle.crc.proofs.Coefficients.{coefficients_length}
use Rattle.crc.proofs.Check.{check_lt}
use Rattle.crc.proofs.Agreement.{stored_agrees}
use Rattle.crc.proofs.Linear.{sums}
use Rattle.crc.proofs.Burst.{burst_caught, burst_at}
use Rattle.crc.proofs.TwoApart.{two_apart_agree, two_apart_burst}

-- The bits with the one at place i altered.
abbrev alter_at : ℕ → List ℕ → List ℕ
alter_at i xs = set xs i (bit_xor (get_or xs i 0) 1)

-- The digits of an exclusive or are the sums of the digits.
digits_xor : (k a b : ℕ) → digits k (bit_xor a b) ≡ sums (digits k a) (digits k b)
unfolding digits sums
digits_xor zero a b = refl
digits_xor (suc k) a b =
    ap₂ (λ (d : ℕ) (ds : List ℕ). d ∷ ds) (ap (λ (n : ℕ). n % 2) (xor_shr a b k) ∙ xor_mod (a / 2 ^ k) (b / 2 ^ k) 1) (digits_xor k a b)

-- A byte with its bit at place i altered has the digits with the one at place i altered.
byte_altered : (i b : ℕ) → i < 8 → digits 8 (bit_xor b (2 ^ (7 - i))) ≡ alter_at i (digits 8 b)
unfolding digits sums
byte_altered zero b h = digits_xor 8 b 128 ∙ simp xor_zero_r
byte_altered (suc zero) b h = digits_xor 8 b 64 ∙ simp xor_zero_r
byte_altered (suc (suc zero)) b h = digits_xor 8 b 32 ∙ simp xor_zero_r
byte_altered (suc (suc (suc zero))) b h = digits_xor 8 b 16 ∙ simp xor_zero_r
byte_altered (suc (suc (suc (suc zero)))) b h = digits_xor 8 b 8 ∙ simp xor_zero_r
byte_altered (suc (suc (suc (suc (suc zero))))) b h = digits_xor 8 b 4 ∙ simp xor_zero_r
byte_altered (suc (suc (suc (suc (suc (suc zero)))))) b h = digits_xor 8 b 2 ∙ simp xor_zero_r
byte_altered (suc (suc (suc (suc (suc (suc (suc zero))))))) b h = digits_xor 8 b 1 ∙ simp xor_zero_r
byte_altered (suc (suc (suc (suc (suc (suc (suc (suc i)))))))) b h = absurd (omega arith)

-- A bit altered among those in front leaves what is behind them.
alter_front : (xs ys : List ℕ) (i : ℕ) → i < length xs → alter_at i (xs ++ ys) ≡ alter_at i xs ++ ys
alter_front xs ys i h =
    ap (λ (x : ℕ). set (xs ++ ys) i (bit_xor x 1)) (get_or-append xs ys 0 i h) ∙ set-append_left xs ys i (bit_xor (get_or xs i 0) 1) h

-- A bit altered behind leaves those in front.
alter_behind : (xs ys : List ℕ) (i : ℕ) → length xs ≤ i → alter_at i (xs ++ ys) ≡ xs ++ alter_at (i - length xs) ys
alter_behind [] ys i h = ap (λ (k : ℕ). alter_at k ys) (omega arith)
alter_behind (x ∷ xs) ys zero h = absurd (omega arith)
alter_behind (x ∷ xs) ys (suc i) h =
    ap (λ (zs : List ℕ). x ∷ zs) (alter_behind xs ys i (omega arith) ∙ ap (λ (k : ℕ). xs ++ alter_at k ys) (omega arith))

-- Bytes with their bit at place i altered have the coefficients with the one at place i altered.
coefficients_altered : (i : ℕ) (bs : List ℕ) → coefficients (alter_bit i bs) ≡ alter_at i (coefficients bs)
unfolding coefficients alter_bit digits
coefficients_altered i [] = refl
coefficients_altered i (b ∷ bs) =
    cases (ltb i 8)
    (λ e.
    let h : i < 8 = ltb-true i 8 e in
    rw e (ap (λ (ds : List ℕ). ds ++ coefficients bs) (byte_altered i b h) ∙ sym (alter_front (digits 8 b) (coefficients bs) i h)))
    (λ e.
    let h : 8 ≤ i = ltb-false i 8 e in
    rw e (ap (λ (cs : List ℕ). digits 8 b ++ cs) (coefficients_altered (i - 8) bs) ∙ sym (alter_behind (digits 8 b) (coefficients bs) i h)))

-- Bytes with a bit altered are as many.
altered_length : (i : ℕ) (bs : List ℕ) → length (alter_bit i bs) ≡ length bs
altered_length i bs =
    let xs : List ℕ = coefficients bs in
    let same : length (coefficients (alter_bit i bs)) ≡ length xs = ap length (coefficients_altered i bs) ∙ length-set xs i (bit_xor (get_or xs i 0) 1) in
    omega (arith, coefficients_length bs, coefficients_length (alter_bit i bs))

-- Where a byte stands, a byte stands after a bit is altered.
altered_byte_lt : (i j : ℕ) (bs : List ℕ) → get_or bs j 0 < 256 → get_or (alter_bit i bs) j 0 < 256
unfolding alter_bit
altered_byte_lt i j [] h = h
altered_byte_lt i zero (b ∷ bs) h =
    cases (ltb i 8) (λ e. rw e (xor_lt 8 b (2 ^ (7 - i)) h (pow-lt {i = 7 - i} {j = 8} (omega arith)))) (λ e. rw e h)
altered_byte_lt i (suc j) (b ∷ bs) h = cases (ltb i 8) (λ e. rw e h) (λ e. rw e (altered_byte_lt (i - 8) j bs h))

-- A bit is not what it is altered to.
bit_altered : (x : ℕ) → x ≡ bit_xor x 1 → ⊥
bit_altered x e =
    let z : ◌≡◌ {A = ℕ} 0 1 = xor_cancel x 0 1 (xor_zero_r x ∙ e) in
    omega arith

-- Bits with those at places i and i + 16 altered differ there and nowhere else.
alter_two : (i : ℕ) (xs : List ℕ) → i + 16 < length xs → TwoApart 16 i xs (alter_at (i + 16) (alter_at i xs))
alter_two i xs h =
    let j : ℕ = i + 16 in
    let x : ℕ = bit_xor (get_or xs i 0) 1 in
    let ys : List ℕ = set xs i x in
    let y : ℕ = bit_xor (get_or ys j 0) 1 in
    let l : length ys ≡ length xs = length-set xs i x in
    record {
      same_length = sym (length-set ys j y ∙ l);
      first = λ e. bit_altered (get_or xs i 0) (e ∙ get_or-set_other ys j i y 0 (λ q. omega arith) ∙ get_or-set_same xs i x 0 (omega arith));
      second = λ e. bit_altered (get_or xs j 0) (e ∙ get_or-set_same ys j y 0 (omega (arith, l)) ∙ ap (λ (z : ℕ). bit_xor z 1) (get_or-set_other xs i j x 0 (λ q. omega arith)));
      nowhere_else = λ k d.
          cases (eqb k i) (λ e. inl (eqb-true k i e))
          (λ e.
          cases (eqb k j) (λ f. inr (eqb-true k j f))
          (λ f. absurd (d (sym (get_or-set_other ys j k y 0 (eqb-false k j f) ∙ get_or-set_other xs i k x 0 (eqb-false k i e))))));
    }

-- Bits with the one at place i altered differ there and nowhere else, which is a burst.
alter_one : (k i : ℕ) (xs : List ℕ) → 0 < k → i < length xs → Burst k xs (alter_at i xs)
alter_one k i xs l h =
    let x : ℕ = bit_xor (get_or xs i 0) 1 in
    burst_at k i i xs (alter_at i xs) (sym (length-set xs i x))
    (λ j d. cases (eqb j i) (λ e. let same = eqb-true j i e in (omega arith, omega arith)) (λ e. absurd (d (sym (get_or-set_other xs i j x 0 (eqb-false j i e))))))
    (λ e. bit_altered (get_or xs i 0) (e ∙ get_or-set_same xs i x 0 h))

-- A list is what stands before its last two elements, and these.
last_two : (n : ℕ) (f : List ℕ) → length f ≡ n + 2 → take n f ++ get_or f n 0 ∷ get_or f (suc n) 0 ∷ [] ≡ f
last_two n f e =
    sym (split_at f n 0 (omega arith)
    ∙ ap (λ (r : List ℕ). take n f ++ get_or f n 0 ∷ r)
    (drop-cons f (suc n) 0 (omega arith) ∙ ap (λ (r : List ℕ). get_or f (suc n) 0 ∷ r) (drop_of_length-le f {i = suc (suc n)} (omega arith))))

-- Information bytes of any length with their check: whatever place i, with bit i altered the check does not agree.
pub one_bit_caught : (bs : List ℕ) (i : ℕ) → i < 8 * (length bs + 2)
    → (cs : List ℕ) × (high : ℕ) × (low : ℕ) × (cs ++ high ∷ low ∷ [] ≡ alter_bit i (bs ++ check_bytes bs)) × (agrees cs high low ≡ false)
unfolding check_bytes
one_bit_caught bs i h =
    let n : ℕ = length bs in
    let c : ℕ = check_of bs in
    let before : List ℕ = bs ++ check_bytes bs in
    let after : List ℕ = alter_bit i before in
    let cs : List ℕ = take n after in
    let high : ℕ = get_or after n 0 in
    let low : ℕ = get_or after (suc n) 0 in
    let long : length before ≡ n + 2 = length-append bs (check_bytes bs) in
    let whole : cs ++ high ∷ low ∷ [] ≡ after = last_two n after (altered_length i before ∙ long) in
    let bits : checked_bits cs high low ≡ alter_at i (coefficients before) = ap coefficients whole ∙ coefficients_altered i before in (
      cs,
      high,
      low,
      whole,
      burst_caught bs cs (c / 256) (c % 256) high low (stored_agrees bs (c / 256) (c % 256) refl)
          (rw bits (alter_one _ i (coefficients before) (omega arith) (omega (arith, long, coefficients_length before)))),
    )

-- Information bytes of any length with their check: whatever place i, bit i and bit i + 16 altered, the check agrees all the same.
pub two_bits_pass : (bs : List ℕ) (i : ℕ) → i + 16 < 8 * (length bs + 2)
    → (cs : List ℕ) × (high : ℕ) × (low : ℕ)
    × (cs ++ high ∷ low ∷ [] ≡ alter_bit (i + 16) (alter_bit i (bs ++ check_bytes bs)))
    × TwoApart 16 i (checked_bits bs (check_of bs / 256) (check_of bs % 256)) (checked_bits cs high low)
    × (agrees cs high low ≡ true)
unfolding check_bytes
two_bits_pass bs i h =
    let n : ℕ = length bs in
    let c : ℕ = check_of bs in
    let before : List ℕ = bs ++ check_bytes bs in
    let after : List ℕ = alter_bit (i + 16) (alter_bit i before) in
    let cs : List ℕ = take n after in
    let high : ℕ = get_or after n 0 in
    let low : ℕ = get_or after (suc n) 0 in
    let long : length before ≡ n + 2 = length-append bs (check_bytes bs) in
    let whole : cs ++ high ∷ low ∷ [] ≡ after = last_two n after (altered_length (i + 16) (alter_bit i before) ∙ altered_length i before ∙ long) in
    let byte : (j : ℕ) → get_or before j 0 < 256 → get_or after j 0 < 256 = λ j k. altered_byte_lt (i + 16) j (alter_bit i before) (altered_byte_lt i j before k) in
    let hh : high < 256 = byte n (omega (arith, get_or-append_seam bs (c / 256) (c % 256 ∷ []) 0, check_lt bs)) in
    let hl : low < 256 = byte (suc n) (rw (← (add-one n), get_or-append-add bs (check_bytes bs) 1 0) (omega arith)) in
    let bits : checked_bits cs high low ≡ alter_at (i + 16) (alter_at i (coefficients before)) = ap coefficients whole ∙ coefficients_altered (i + 16) (alter_bit i before) ∙ ap (alter_at (i + 16)) (coefficients_altered i before) in
    let apart : TwoApart 16 i (checked_bits bs (c / 256) (c % 256)) (checked_bits cs high low) = rw bits (alter_two i (coefficients before) (omega (arith, long, coefficients_length before))) in
    let agree : agrees bs (c / 256) (c % 256) ≡ true = stored_agrees bs (c / 256) (c % 256) refl in
    (cs, high, low, whole, apart, two_apart_agree bs cs (c / 256) (c % 256) high low i agree hh hl apart)

-- So of seventeen bits the law of bursts is false: for any information of one byte or more there is a burst of seventeen bits after which it agrees with its check.
pub seventeen_pass : (bs : List ℕ) → 0 < length bs
    → (cs : List ℕ) × (high : ℕ) × (low : ℕ) × Burst 17 (checked_bits bs (check_of bs / 256) (check_of bs % 256)) (checked_bits cs high low) × (agrees cs high low ≡ true)
seventeen_pass bs h =
    let (cs, high, low, _, apart, agree) = two_bits_pass bs 0 (omega arith) in
    (cs, high, low, two_apart_burst 0 _ _ apart, agree)
