-- The check catches every burst: bits altered within sixteen successive ones of information and check, however long the information.
use mathlib.Core.Path.{◌≡◌, refl, sym, ap, ◌∙◌}
use Prim.Native.Nat.{ℕ, zero, suc, ◌+◌, ◌*◌, ◌/◌, ◌%◌, ◌^◌, ◌≤◌, ◌<◌}
use native.Mathlib.Omega.{arith}
use native.Mathlib.Nat.{pow-suc, lt_of_lt_of_le}
use mathlib.Core.Bool.{true, false}
use mathlib.Core.List.{List, [], ◌∷◌, ◌++◌}
use lib.Dec.{lit<}
use lib.ListN.{length, get_or}
use lib.Bits.{bit_xor, xor_zero_r, xor_self}
use lib.Pow.{pow_mono}
use Rattle.base.proofs.Tests.{cases}
use Rattle.crc.specs.Check.{coefficients, bring_down, remainder, agrees}
use Rattle.crc.specs.Division.{Digits}
use Rattle.crc.specs.Burst.{checked_bits, DiffersAt, Burst}
use Rattle.crc.proofs.Coefficients.{coefficients_digits, coefficients_length}
use Rattle.crc.proofs.Turn.{shifted}
use Rattle.crc.proofs.Remainder.{bring_is, bring_lt}
use Rattle.crc.proofs.Linear.{sums, sums_digits, sum_differs, differs_sum, remainder_sum}
use Rattle.crc.proofs.Checked.{agrees_ones}

-- There is a 1 among the coefficients.
record HasOne (ds : List ℕ) : Type 0 where
  place : ℕ
  one : get_or ds place 0 ≡ 0 → ⊥

-- Where the first is 0 there is one behind it.
one_behind : (d : ℕ) (ds : List ℕ) → d ≡ 0 → HasOne (d ∷ ds) → HasOne ds
one_behind d ds z s = go s.place s.one
  where
    go : (i : ℕ) → (get_or (d ∷ ds) i 0 ≡ 0 → ⊥) → HasOne ds
    go zero n = absurd (n z)
    go (suc i) n = record { place = i; one = n }

-- Where zeros are brought down a remainder that is not 0 does not become 0: its digits change places and no more.
zeros_kept : (r : ℕ) (ds : List ℕ) → r < 65536 → Digits ds → ((i : ℕ) → get_or ds i 0 ≡ 0) → (r ≡ 0 → ⊥) → remainder r ds ≡ 0 → ⊥
unfolding remainder Digits
zeros_kept r [] h d z n e = n e
zeros_kept r (c ∷ ds) h d z n e =
    let t : bring_down r c ≡ r % 32768 * 2 + r / 32768 = bring_is r c h d.0 ∙ ap (λ (b : ℕ). r % 32768 * 2 + b) (ap (bit_xor (r / 32768)) (z 0) ∙ xor_zero_r (r / 32768)) in
    zeros_kept (bring_down r c) ds (bring_lt r c h d.0) d.1 (λ i. z (suc i)) (λ q. n (omega arith)) e

-- Coefficients with no 1 from place m on, brought down behind a remainder r of at most 16 - m digits: the remainder is 0 only if r and all of them are 0.
window_kept : (m j r : ℕ) (ds : List ℕ) → j + m ≤ 16 → r < 2 ^ j → Digits ds → ((i : ℕ) → m ≤ i → get_or ds i 0 ≡ 0) → (r ≡ 0 → HasOne ds) → remainder r ds ≡ 0 → ⊥
unfolding remainder Digits
window_kept m j r [] l h d z s e = (s e).one refl
window_kept zero j r (c ∷ ds) l h d z s e =
    zeros_kept r (c ∷ ds) (lt_of_lt_of_le h (pow_mono {i = j} {j = 16} (omega arith))) d (λ i. z i (omega arith)) (λ q. let o = s q in o.one (z o.place (omega arith))) e
window_kept (suc m) j r (c ∷ ds) l h d z s e =
    let small : r < 32768 = lt_of_lt_of_le h (pow_mono {i = j} {j = 15} (omega arith)) in
    let t : bring_down r c ≡ r * 2 + c = shifted r c small d.0 in
    window_kept m (suc j) (bring_down r c) ds (omega arith) (omega (arith, pow-suc 2 j, d.0)) d.1 (λ i k. z (suc i) (omega arith))
    (λ q. one_behind c ds (omega arith) (s (omega arith))) e

-- Coefficients with a 1, all of whose ones stand among the k places from s on, of which there are at most sixteen, have a remainder that is not 0.
burst_remains : (k s : ℕ) (ds : List ℕ) → k ≤ 16 → Digits ds → ((i : ℕ) → i < s → get_or ds i 0 ≡ 0) → ((i : ℕ) → s + k ≤ i → get_or ds i 0 ≡ 0) → HasOne ds
    → remainder 0 ds ≡ 0 → ⊥
unfolding remainder Digits
burst_remains k zero ds l d a b o e = window_kept k 0 0 ds (omega arith) (lit< tt) d (λ i h. b i (omega arith)) (λ _. o) e
burst_remains k (suc s) [] l d a b o e = o.one refl
burst_remains k (suc s) (c ∷ ds) l d a b o e =
    let z : c ≡ 0 = a 0 (omega arith) in
    let t : bring_down 0 c ≡ 0 = omega (arith, shifted 0 c (lit< tt) d.0) in
    burst_remains k s ds l d.1 (λ i h. a (suc i) (omega arith)) (λ i h. b (suc i) (omega arith)) (one_behind c ds z o) (rw t at e)

-- A number that cannot differ from 0 is 0.
pub zero_unless : (n : ℕ) → ((n ≡ 0 → ⊥) → ⊥) → n ≡ 0
zero_unless zero h = refl
zero_unless (suc n) h = absurd (h (λ q. omega arith))

-- The bits xs and ys, made out of each other by a burst of at most sixteen bits that alters one, have different remainders.
remainders_differ : (k : ℕ) (xs ys : List ℕ) → k ≤ 16 → Digits xs → Digits ys → (b : Burst k xs ys) → DiffersAt xs ys b.place → remainder 0 xs ≡ remainder 0 ys → ⊥
remainders_differ k xs ys l dx dy b o e =
    let ds : List ℕ = sums xs ys in
    let n = b.same_length in
    burst_remains k b.start ds l (sums_digits xs ys dx dy)
    (λ i h. zero_unless (get_or ds i 0) (λ q. omega (arith, (b.within i (sum_differs xs ys n i q)).0)))
    (λ i h. zero_unless (get_or ds i 0) (λ q. omega (arith, (b.within i (sum_differs xs ys n i q)).1)))
    (record { place = b.place; one = differs_sum xs ys n b.place o })
    (remainder_sum xs ys 0 0 n dx dy (lit< tt) (lit< tt) ∙ ap (bit_xor (remainder 0 xs)) (sym e) ∙ xor_self (remainder 0 xs))

-- Information of any length that agrees with its check: after a burst of sixteen bits, anywhere in information and check, it does not.
pub burst_caught : (bs cs : List ℕ) (high low high' low' : ℕ) → agrees bs high low ≡ true → Burst 16 (checked_bits bs high low) (checked_bits cs high' low') → agrees cs high' low' ≡ false
burst_caught bs cs high low high' low' e b =
    cases (agrees cs high' low')
    (λ a. absurd (remainders_differ 16 (checked_bits bs high low) (checked_bits cs high' low') (omega arith)
    (coefficients_digits (bs ++ high ∷ low ∷ [])) (coefficients_digits (cs ++ high' ∷ low' ∷ [])) b b.differs
    (agrees_ones bs high low e ∙ sym (agrees_ones cs high' low' a))))
    (λ a. a)

-- Bytes of which a burst makes others are as many.
pub burst_length : (k : ℕ) (xs ys : List ℕ) → Burst k (coefficients xs) (coefficients ys) → length ys ≡ length xs
burst_length k xs ys b = omega (arith, b.same_length, coefficients_length xs, coefficients_length ys)

-- Bits that differ at place i, and nowhere but at the k places from s on, are made out of each other by a burst.
pub burst_at : (k s i : ℕ) (xs ys : List ℕ) → length xs ≡ length ys → ((j : ℕ) → DiffersAt xs ys j → (s ≤ j) × (j < s + k)) → DiffersAt xs ys i → Burst k xs ys
burst_at k s i xs ys n w d = record { same_length = n; start = s; within = w; place = i; differs = d }
