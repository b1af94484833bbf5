-- Laws of lists: slices, and the first of mapped elements.
use mathlib.Core.Path.{◌≡◌, refl, sym, ap, ◌∙◌}
use Prim.Native.Nat.{ℕ, zero, suc, ◌+◌, ◌-◌, ◌≤◌}
use native.Mathlib.Omega.{arith}
use mathlib.Core.List.{List, [], ◌∷◌, map}
use lib.ListN.{length, take, drop, length-drop}
use lib.Seq.{take-nil, take_all, length-take-le}

-- What is left after m of the first n are the next n - m.
pub drop_take : {A : Type 0} (m n : ℕ) (xs : List A) → drop m (take n xs) ≡ take (n - m) (drop m xs)
drop_take zero n xs = let e : n ≡ n - 0 = omega arith in ap (λ (k : ℕ). take k xs) e
drop_take (suc m) zero xs = let e : 0 ≡ 0 - suc m = omega arith in ap (λ (k : ℕ). take k (drop (suc m) xs)) e
drop_take (suc m) (suc n) [] = sym (take-nil (suc n - suc m))
drop_take (suc m) (suc n) (x ∷ xs) = let e : n - m ≡ suc n - suc m = omega arith in drop_take m n xs ∙ ap (λ (k : ℕ). take k (drop m xs)) e

-- A list of no length is empty.
pub none_long : {A : Type 0} (xs : List A) → length xs ≡ 0 → xs ≡ []
none_long [] e = refl
none_long (x ∷ xs) e = absurd (omega arith)

-- A slice from place a on is what remains behind the first a elements.
pub part_all : {A : Type 0} (a : ℕ) (s : List A) → take (length s - a) (drop a s) ≡ drop a s
part_all a s = take_all (length s - a) (drop a s) (omega (arith, length-drop a s))

-- It is as long as they are many.
pub part_all_length : {A : Type 0} (a : ℕ) (s : List A) → length (take (length s - a) (drop a s)) ≡ length s - a
part_all_length a s = ap length (part_all a s) ∙ length-drop a s

-- A slice of n elements that lies in the list has n.
pub part_length : {A : Type 0} (a n : ℕ) (s : List A) → a + n ≤ length s → length (take n (drop a s)) ≡ n
part_length a n s h = length-take-le n (drop a s) (omega (arith, length-drop a s))

-- A slice from a up to a + n has the n elements from a on.
pub cut_is : {A : Type 0} (a n : ℕ) (s : List A) → take (a + n - a) (drop a s) ≡ take n (drop a s)
cut_is a n s = let e : a + n - a ≡ n = omega arith in ap (λ (k : ℕ). take k (drop a s)) e

-- And so as many.
pub cut_length : {A : Type 0} (a n : ℕ) (s : List A) → a + n ≤ length s → length (take (a + n - a) (drop a s)) ≡ n
cut_length a n s h = ap length (cut_is a n s) ∙ part_length a n s h

-- The first n of mapped elements are the mapped first n.
pub take_map : {A B : Type 0} (f : A → B) (n : ℕ) (l : List A) → take n (map f l) ≡ map f (take n l)
take_map f zero l = refl
take_map f (suc n) [] = refl
take_map {A} {B} f (suc n) (x ∷ l) = ap (λ (r : List B). f x ∷ r) (take_map f n l)
