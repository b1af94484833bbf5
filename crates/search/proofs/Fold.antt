-- Folds by inclusive or: they say whether each of the bytes is below 2, and whether an opening is the same cell by cell.
use mathlib.Core.Path.{◌≡◌, sym, ◌∙◌}
use Prim.Native.Nat.{ℕ, suc, ◌+◌, ◌<◌, ◌≤◌}
use native.Mathlib.Omega.{arith}
use mathlib.Core.Bool.{Bool, false, ◌&&◌}
use mathlib.Core.List.{List}
use lib.Dec.{ltb, eqb}
use lib.Bits.{bit_or, bit_xor, or_lt, or_add_and, or_zero_r, and_le_l, and_le_r, xor_self}
use lib.ListN.{length, get_or, drop, drop_of_length-le}
use lib.Seq.{drop-cons}
use borrow.Author.Tests.{lt-ltb, le-ltb, ltb-true, ltb-false, ne_eqb, eqb-true, eqb-false}
use Rattle.format.specs.Lent.{marks_legal, cells}
use Rattle.format.specs.Opening.{starts_with}
use Rattle.base.proofs.Tests.{cases, and_assoc, and_right, and_true}
use Rattle.crc.proofs.Xor.{xor_zero_same}
use Rattle.search.proofs.Cells.{other_byte, other_mark, same_cell}

-- Inclusive or is at least each of the two.
pub or_left : (a b : ℕ) → a ≤ bit_or a b
or_left a b = omega (arith, or_add_and a b, and_le_r a b)

pub or_right : (a b : ℕ) → b ≤ bit_or a b
or_right a b = omega (arith, or_add_and a b, and_le_l a b)

-- Below 2 is inclusive or where both are.
or_legal : (a b : ℕ) → ltb (bit_or a b) 2 ≡ (ltb a 2 && ltb b 2)
or_legal a b =
    cases (ltb a 2)
    (λ x. cases (ltb b 2)
    (λ y. lt-ltb (bit_or a b) 2 (or_lt 1 a b (ltb-true a 2 x) (ltb-true b 2 y)) ∙ sym (rw (x, y)))
    (λ y. le-ltb (bit_or a b) 2 (omega (arith, ltb-false b 2 y, or_right a b)) ∙ sym (and_right (ltb a 2) y)))
    (λ x. le-ltb (bit_or a b) 2 (omega (arith, ltb-false a 2 x, or_left a b)) ∙ sym (rw x))

-- One turn of the fold over marks.
pub legal_turn : (m : List ℕ) (i a : ℕ) → i < length m
    → (ltb a 2 && marks_legal (drop i m)) ≡ (ltb (bit_or a (get_or m i 0)) 2 && marks_legal (drop (suc i) m))
unfolding marks_legal
legal_turn m i a h =
    rw (drop-cons m i 0 h, or_legal a (get_or m i 0)) (sym (and_assoc (ltb a 2) (ltb (get_or m i 0) 2) (marks_legal (drop (suc i) m))))

-- Its end.
pub legal_end : (m : List ℕ) (i a : ℕ) → length m ≤ i → (ltb a 2 && marks_legal (drop i m)) ≡ ltb a 2
unfolding marks_legal
legal_end m i a h = rw (drop_of_length-le m {i = i} h) (and_true (ltb a 2))

-- An opening with the bytes u and the marks v, and its cell k beside that at place p + k of a track t with the marks m; n is the fold so far.
module _ (u v t m : List ℕ) (p k n : ℕ) (h : k < length (cells u v)) (l : p + k < length (cells t m)) (a : get_or u k 0 < 256) (b : get_or t (p + k) 0 < 256) where
  -- What is left of the opening stands from this cell on, and from the next one on.
  abbrev here : Bool
  here = starts_with (drop k (cells u v)) (drop (p + k) (cells t m))

  abbrev next : Bool
  next = starts_with (drop (k + 1) (cells u v)) (drop (p + (k + 1)) (cells t m))

  -- The difference of the two bytes, and that of the two marks.
  abbrev byte : ℕ
  byte = bit_xor (get_or t (p + k) 0) (get_or u k 0)

  abbrev mark : ℕ
  mark = bit_xor (get_or m (p + k) 0) (get_or v k 0)

  -- One of the two is not 0.
  differs : (bit_or (bit_or n byte) mark ≡ 0 → ⊥) → here ≡ false → (eqb n 0 && here) ≡ (eqb (bit_or (bit_or n byte) mark) 0 && next)
  differs x e = and_right (eqb n 0) e ∙ sym (rw (ne_eqb (bit_or (bit_or n byte) mark) 0 x))

  -- One turn of the fold over an opening.
  pub opening_turn : (eqb n 0 && here) ≡ (eqb (bit_or (bit_or n byte) mark) 0 && next)
  opening_turn =
      cases (eqb (get_or t (p + k) 0) (get_or u k 0))
      (λ x. cases (eqb (get_or m (p + k) 0) (get_or v k 0))
      (λ y.
      let e = eqb-true (get_or t (p + k) 0) (get_or u k 0) x in
      let f = eqb-true (get_or m (p + k) 0) (get_or v k 0) y in
      rw (same_cell u v t m p k h l a b e f, e, f, xor_self (get_or u k 0), xor_self (get_or v k 0), or_zero_r n, or_zero_r n))
      (λ y.
      let f = eqb-false (get_or m (p + k) 0) (get_or v k 0) y in
      differs (λ z. f (xor_zero_same (get_or m (p + k) 0) (get_or v k 0) (omega (arith, or_right (bit_or n byte) mark)))) (other_mark u v t m p k h l a b f)))
      (λ x.
      let e = eqb-false (get_or t (p + k) 0) (get_or u k 0) x in
      differs (λ z. e (xor_zero_same (get_or t (p + k) 0) (get_or u k 0) (omega (arith, or_left (bit_or n byte) mark, or_right n byte)))) (other_byte u v t m p k h l a b e))

-- Its end.
pub opening_end : (o d : List ℕ) (k n : ℕ) → length o ≤ k → (eqb n 0 && starts_with (drop k o) d) ≡ eqb n 0
opening_end o d k n h = rw (drop_of_length-le o {i = k} h) (and_true (eqb n 0))
