-- Openings: where a list starts with another, where nothing is marked, and that openings do not overlap.
use mathlib.Core.Path.{◌≡◌, refl, sym, ap, ap₂, ◌∙◌}
use Prim.Native.Nat.{ℕ, zero, suc, ◌≤◌, ◌<◌, ◌+◌}
use native.Mathlib.Omega.{arith}
use mathlib.Core.Bool.{Bool, true, false, ◌&&◌}
use mathlib.Core.List.{List, [], ◌∷◌, ◌++◌}
use mathlib.Core.Logic.{◌⊎◌, inl, inr}
use lib.ListN.{length, take, drop, get_or, replicate, length-append}
use lib.Seq.{drop-cons}
use lib.Dec.{ltb, eqb, lit<}
use borrow.Author.Tests.{eqb-true, eq-eqb, ne_eqb, ltb-true, lt-ltb}
use Rattle.format.specs.Lent.{unmarked}
use Rattle.format.specs.Opening.{starts_with, marked_opening, opens}
use Rattle.base.proofs.Tests.{false-true, and_both, and_right, and_make, and_assoc}

-- A list starts with its front.
pub starts_with_self : (o r : List ℕ) → starts_with o (o ++ r) ≡ true
starts_with_self [] r = refl
starts_with_self (x ∷ o) r = rw (eq-eqb x x refl, starts_with_self o r)

-- What starts with a list is that list and what follows it.
pub starts_with_front : (o c : List ℕ) → starts_with o c ≡ true → c ≡ o ++ drop (length o) c
starts_with_front [] c e = refl
starts_with_front (x ∷ o) [] e = false-true e
starts_with_front (x ∷ o) (y ∷ c) e =
    let h = and_both (eqb x y) (starts_with o c) e in
    ap₂ (λ (z : ℕ) (zs : List ℕ). z ∷ zs) (sym (eqb-true x y h.0)) (starts_with_front o c h.1)

-- An opening is compared from its cell k on with the cells from place q on, and so cell by cell.
module _ (o c : List ℕ) (k q : ℕ) (h : k < length o) (l : q < length c) where
  -- Another cell stands there.
  pub starts_other : (get_or o k 0 ≡ get_or c q 0 → ⊥) → starts_with (drop k o) (drop q c) ≡ false
  starts_other ne = rw (drop-cons o k 0 h, drop-cons c q 0 l, ne_eqb (get_or o k 0) (get_or c q 0) ne)

  -- The same cell stands there.
  pub starts_same : get_or o k 0 ≡ get_or c q 0 → starts_with (drop k o) (drop q c) ≡ starts_with (drop (k + 1) o) (drop (q + 1) c)
  starts_same e =
      let a : k + 1 ≡ suc k = omega arith in
      let b : q + 1 ≡ suc q = omega arith in
      rw (a, b, drop-cons o k 0 h, drop-cons c q 0 l, eq-eqb (get_or o k 0) (get_or c q 0) e)

-- Cells that start with two lists in turn.
pub starts_append : (o q c : List ℕ) → starts_with (o ++ q) c ≡ (starts_with o c && starts_with q (drop (length o) c))
starts_append [] q c = refl
starts_append (x ∷ o) q [] = refl
starts_append (x ∷ o) q (y ∷ c) = rw (starts_append o q c) (sym (and_assoc (eqb x y) (starts_with o c) (starts_with q (drop (length o) c))))

-- What starts with a list is at least as long.
pub starts_length : (o c : List ℕ) → starts_with o c ≡ true → length o ≤ length c
starts_length o c e = omega (arith, ap length (starts_with_front o c e), length-append o (drop (length o) c))

-- Whether a long enough list starts with another does not turn on what follows it.
pub starts_with_append : (o r ys : List ℕ) → length o ≤ length r → starts_with o (r ++ ys) ≡ starts_with o r
starts_with_append [] r ys h = refl
starts_with_append (x ∷ o) [] ys h = absurd (omega arith)
starts_with_append (x ∷ o) (y ∷ r) ys h = rw (starts_with_append o r ys (omega arith))

-- Cells fewer than the list o do not start with it.
pub starts_short : (o c : List ℕ) → length c < length o → starts_with o c ≡ false
starts_short [] c h = absurd (omega arith)
starts_short (x ∷ o) [] h = refl
starts_short (x ∷ o) (y ∷ c) h = rw (starts_short o c (omega arith)) (and_right (eqb x y) refl)

-- Two unmarked lists are unmarked together.
pub unmarked_append : (xs ys : List ℕ) → unmarked xs ≡ true → unmarked ys ≡ true → unmarked (xs ++ ys) ≡ true
unfolding unmarked
unmarked_append [] ys e h = h
unmarked_append (x ∷ xs) ys e h =
    let k = and_both (ltb x 256) (unmarked xs) e in
    and_make k.0 (unmarked_append xs ys k.1 h)

-- The first of two lists that are unmarked together is unmarked.
pub unmarked_left : (xs ys : List ℕ) → unmarked (xs ++ ys) ≡ true → unmarked xs ≡ true
unfolding unmarked
unmarked_left [] ys e = refl
unmarked_left (x ∷ xs) ys e =
    let k = and_both (ltb x 256) (unmarked (xs ++ ys)) e in
    and_make k.0 (unmarked_left xs ys k.1)

-- The second of two lists that are unmarked together is unmarked.
pub unmarked_right : (xs ys : List ℕ) → unmarked (xs ++ ys) ≡ true → unmarked ys ≡ true
unfolding unmarked
unmarked_right [] ys e = e
unmarked_right (x ∷ xs) ys e = unmarked_right xs ys (and_both (ltb x 256) (unmarked (xs ++ ys)) e).1

-- A byte in front of an unmarked list leaves it unmarked.
pub unmarked_cons : (x : ℕ) (xs : List ℕ) → x < 256 → unmarked xs ≡ true → unmarked (x ∷ xs) ≡ true
unfolding unmarked
unmarked_cons x xs h e = and_make (lt-ltb x 256 h) e

-- What is taken from an unmarked list is unmarked.
pub unmarked_take : (n : ℕ) (xs : List ℕ) → unmarked xs ≡ true → unmarked (take n xs) ≡ true
unfolding unmarked
unmarked_take zero xs e = refl
unmarked_take (suc n) [] e = refl
unmarked_take (suc n) (x ∷ xs) e =
    let k = and_both (ltb x 256) (unmarked xs) e in
    and_make k.0 (unmarked_take n xs k.1)

-- What is left of it is unmarked.
pub unmarked_drop : (n : ℕ) (xs : List ℕ) → unmarked xs ≡ true → unmarked (drop n xs) ≡ true
unfolding unmarked
unmarked_drop zero xs e = e
unmarked_drop (suc n) [] e = refl
unmarked_drop (suc n) (x ∷ xs) e = unmarked_drop n xs (and_both (ltb x 256) (unmarked xs) e).1

-- One byte many times is unmarked.
pub unmarked_replicate : (n v : ℕ) → v < 256 → unmarked (replicate n v) ≡ true
unfolding unmarked
unmarked_replicate zero v h = refl
unmarked_replicate (suc n) v h = unmarked_cons v (replicate n v) h (unmarked_replicate n v h)

-- Each cell of an unmarked list is a byte.
pub unmarked_at : (xs : List ℕ) (i : ℕ) → unmarked xs ≡ true → get_or xs i 0 < 256
unfolding unmarked
unmarked_at [] i e = lit< tt
unmarked_at (x ∷ xs) zero e = ltb-true x 256 (and_both (ltb x 256) (unmarked xs) e).0
unmarked_at (x ∷ xs) (suc i) e = unmarked_at xs i (and_both (ltb x 256) (unmarked xs) e).1

-- A list of bytes is unmarked.
pub unmarked_below : (xs : List ℕ) → ((i : ℕ) → get_or xs i 0 < 256) → unmarked xs ≡ true
unfolding unmarked
unmarked_below [] h = refl
unmarked_below (x ∷ xs) h = unmarked_cons x xs (h 0) (unmarked_below xs (λ i. h (suc i)))

-- Where an opening stands, its cells and the rest are the list.
pub opens_front : (c : List ℕ) → opens c ≡ true → c ≡ marked_opening ++ drop 8 c
unfolding opens
opens_front c e = starts_with_front marked_opening c e

-- An opening has eight cells.
pub length_opens : (c : List ℕ) → opens c ≡ true → 8 ≤ length c
length_opens c e = omega (arith, ap length (opens_front c e))

-- No marked opening stands where nothing is marked.
pub opens_unmarked : (c : List ℕ) → unmarked c ≡ true → opens c ≡ false
opens_unmarked c u = go (opens c) refl
  where
    go : (b : Bool) → opens c ≡ b → b ≡ false
    go true e = absurd (let sixth : get_or c 5 0 ≡ 0x1FF = ap (λ (r : List ℕ). get_or r 5 0) (opens_front c e) in omega (arith, unmarked_at c 5 u))
    go false e = refl

-- An opening does not lie across the start of another.
opens_seam_front : (x : ℕ) (xs ys : List ℕ) → opens (x ∷ (xs ++ (marked_opening ++ ys))) ≡ opens (x ∷ xs)
unfolding opens
opens_seam_front x [] ys = refl
opens_seam_front x (a ∷ []) ys = refl
opens_seam_front x (a ∷ b ∷ []) ys = refl
opens_seam_front x (a ∷ b ∷ c ∷ []) ys = refl
opens_seam_front x (a ∷ b ∷ c ∷ d ∷ []) ys = refl
opens_seam_front x (a ∷ b ∷ c ∷ d ∷ e ∷ []) ys = refl
opens_seam_front x (a ∷ b ∷ c ∷ d ∷ e ∷ f ∷ []) ys = refl
opens_seam_front x (a ∷ b ∷ c ∷ d ∷ e ∷ f ∷ g ∷ xs) ys = refl

-- Whether an opening stands before another does not turn on that one.
pub opens_seam : (x : ℕ) (xs ys : List ℕ) → opens ys ≡ true → opens (x ∷ (xs ++ ys)) ≡ opens (x ∷ xs)
opens_seam x xs ys e = ap (λ (r : List ℕ). opens (x ∷ (xs ++ r))) (opens_front ys e) ∙ opens_seam_front x xs (drop 8 ys)

-- Only the sixth and the seventh cell of an opening are marked.
pub opening_marks : (j : ℕ) (c : List ℕ) → opens c ≡ true → j < 8 → 256 ≤ get_or c j 0 → (j ≡ 5) ⊎ (j ≡ 6)
opening_marks j c o l m = go j (drop 8 c) l (rw (opens_front c o) at m)
  where
    go : (i : ℕ) (r : List ℕ) → i < 8 → 256 ≤ get_or (marked_opening ++ r) i 0 → (i ≡ 5) ⊎ (i ≡ 6)
    go zero r l m = absurd (omega arith)
    go (suc zero) r l m = absurd (omega arith)
    go (suc (suc zero)) r l m = absurd (omega arith)
    go (suc (suc (suc zero))) r l m = absurd (omega arith)
    go (suc (suc (suc (suc zero)))) r l m = absurd (omega arith)
    go (suc (suc (suc (suc (suc zero))))) r l m = inl refl
    go (suc (suc (suc (suc (suc (suc zero)))))) r l m = inr refl
    go (suc (suc (suc (suc (suc (suc (suc zero))))))) r l m = absurd (omega arith)
    go (suc (suc (suc (suc (suc (suc (suc (suc i)))))))) r l m = absurd (omega arith)

-- No opening starts within another.
pub opening_alone : (x : ℕ) (c : List ℕ) → opens (x ∷ c) ≡ true → (o : ℕ) → o < 7 → opens (drop o c) ≡ true → ⊥
unfolding opens
opening_alone x c e o l h = go o (drop 7 c) l (rw tail at h)
  where
    tail : c ≡ drop 1 marked_opening ++ drop 7 c
    tail = ap (drop 1) (opens_front (x ∷ c) e)

    go : (i : ℕ) (r : List ℕ) → i < 7 → opens (drop i (drop 1 marked_opening ++ r)) ≡ true → ⊥
    go zero r l h = false-true h
    go (suc zero) r l h = false-true h
    go (suc (suc zero)) r l h = false-true h
    go (suc (suc (suc zero))) r l h = false-true h
    go (suc (suc (suc (suc zero)))) r l h = false-true h
    go (suc (suc (suc (suc (suc zero))))) r l h = false-true h
    go (suc (suc (suc (suc (suc (suc zero)))))) r l h = false-true h
    go (suc (suc (suc (suc (suc (suc (suc i))))))) r l h = absurd (omega arith)
