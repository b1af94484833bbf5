-- Laws of a step of 32 bytes, taken as four words.
use mathlib.Core.Path.{◌≡◌}
use Prim.Native.Nat.{ℕ, ◌+◌, ◌≤◌, ◌<◌}
use native.Mathlib.Omega.{arith}
use mathlib.Core.List.{List}
use lib.Bits.{bit_or, or_add_and}
use lib.Dec.{eqb}
use lib.ListN.{length, get_or, drop}
use borrow.Author.Tests.{eq-eqb, ne_eqb, eqb-true}
use Rattle.base.specs.Pick.{pick}
use Rattle.base.proofs.Tests.{cases}
use Rattle.search.specs.Zero.{zero_run, word_at, word_zeros, step_zeros}
use Rattle.search.proofs.Fold.{or_left, or_right}
use Rattle.search.proofs.Word.{word_run}

-- Inclusive or of four numbers is 0 where each is, and nowhere else.
or_zero : (a b c d : ℕ) → bit_or (bit_or (bit_or a b) c) d ≡ 0 → (a ≡ 0) × (b ≡ 0) × (c ≡ 0) × (d ≡ 0)
or_zero a b c d e =
    let x = or_left (bit_or (bit_or a b) c) d in
    let y = or_left (bit_or a b) c in
    (omega (arith, or_left a b), omega (arith, or_right a b), omega (arith, or_right (bit_or a b) c), omega (arith, or_right (bit_or (bit_or a b) c) d))

or_set : (a b c d : ℕ) → (bit_or (bit_or (bit_or a b) c) d ≡ 0 → ⊥) → a ≡ 0 → b ≡ 0 → c ≡ 0 → d ≡ 0 → ⊥
or_set a b c d e x y z w = e (omega (arith, or_add_and a b, or_add_and (bit_or a b) c, or_add_and (bit_or (bit_or a b) c) d))

-- A step of 32 bytes of s from place i on, as the four words a, b, c and d.
module _ (s : List ℕ) (i : ℕ) (h : i + 32 ≤ length s) (bytes : (k : ℕ) → get_or s k 0 < 256) (a b c d : ℕ)
    (ea : a ≡ word_at 8 s i) (eb : b ≡ word_at 8 s (i + 8)) (ec : c ≡ word_at 8 s (i + 16)) (ed : d ≡ word_at 8 s (i + 24)) where
  -- Each of the four is 0, or it is not.
  first : zero_run (drop i s) ≡ pick (eqb a 0) (8 + zero_run (drop (i + 8) s)) (word_zeros a)
  first = word_run s i (i + 8) a (omega arith) (omega arith) bytes ea

  second : zero_run (drop (i + 8) s) ≡ pick (eqb b 0) (8 + zero_run (drop (i + 16) s)) (word_zeros b)
  second = word_run s (i + 8) (i + 16) b (omega arith) (omega arith) bytes eb

  third : zero_run (drop (i + 16) s) ≡ pick (eqb c 0) (8 + zero_run (drop (i + 24) s)) (word_zeros c)
  third = word_run s (i + 16) (i + 24) c (omega arith) (omega arith) bytes ec

  fourth : zero_run (drop (i + 24) s) ≡ pick (eqb d 0) (8 + zero_run (drop (i + 32) s)) (word_zeros d)
  fourth = word_run s (i + 24) (i + 32) d (omega arith) (omega arith) bytes ed

  -- All four are 0.
  pub step_zero : bit_or (bit_or (bit_or a b) c) d ≡ 0 → zero_run (drop i s) ≡ 32 + zero_run (drop (i + 32) s)
  step_zero e =
      let z = or_zero a b c d e in
      rw (first, eq-eqb a 0 z.0, second, eq-eqb b 0 z.1, third, eq-eqb c 0 z.2, fourth, eq-eqb d 0 z.3) (omega arith)

  -- They are not.
  pub step_set : (bit_or (bit_or (bit_or a b) c) d ≡ 0 → ⊥) → zero_run (drop i s) ≡ step_zeros a b c d
  step_set e =
      cases (eqb a 0)
      (λ x. cases (eqb b 0)
      (λ y. cases (eqb c 0)
      (λ z.
      let w = or_set a b c d e (eqb-true a 0 x) (eqb-true b 0 y) (eqb-true c 0 z) in
      rw (first, x, second, y, third, z, fourth, ne_eqb d 0 w))
      (λ z. rw (first, x, second, y, third, z)))
      (λ y. rw (first, x, second, y)))
      (λ x. rw (first, x))

-- The first word that is not 0 and the number of bytes before it give the zeros of four words.
pub zeros_join : (a b c d u v w m n o : ℕ) → u ≡ pick (eqb c 0) d c → v ≡ pick (eqb b 0) u b → w ≡ pick (eqb a 0) v a
    → m ≡ pick (eqb c 0) (8 + 0) 0 → n ≡ pick (eqb b 0) (8 + m) 0 → o ≡ pick (eqb a 0) (8 + n) 0 → o + word_zeros w ≡ step_zeros a b c d
zeros_join a b c d u v w m n o eu ev ew em en eo =
    cases (eqb a 0)
    (λ x. cases (eqb b 0)
    (λ y. cases (eqb c 0)
    (λ z. rw (eo, ew, en, ev, em, eu, x, y, z) (omega arith))
    (λ z. rw (eo, ew, en, ev, em, eu, x, y, z) (omega arith)))
    (λ y. rw (eo, ew, en, ev, x, y) (omega arith)))
    (λ x. rw (eo, ew, x) (omega arith))
