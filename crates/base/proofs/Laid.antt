-- A list laid over another: lengths, one list behind another, and a lent part that comes back.
use Prim.Native.Nat.{ℕ, ◌+◌, ◌-◌, ◌≤◌, ◌<◌}
use mathlib.Core.Path.{◌≡◌, sym, ap, ◌∙◌}
use mathlib.Core.Bool.{Bool, true, false}
use mathlib.Core.List.{List, [], ◌∷◌, ◌++◌, append-nil, append_assoc}
use native.Mathlib.Omega.{arith}
use native.Mathlib.Nat.{add_assoc, add-zero, zero-add}
use native.Mathlib.Numerals.{add-one}
use lib.ListN.{length, take, drop, set, get_or, replicate, length-replicate, length-drop, length-append, take-append-drop, drop_of_length-le, replicate-append-replicate}
use lib.Seq.{take-suc, drop-drop, take_at, drop_at, set_split, length-take-le}
use borrow.Rule.Slice.PartMut.{put_mid, put_same}
use Rattle.base.proofs.Lists.{part_all}
use Rattle.base.specs.Laid.{laid_over, laid_at, laid_if, laid_at_if}

-- Laid at place 0 is laid over the front.
pub laid_front : (xs old : List ℕ) → laid_at 0 xs old ≡ laid_over xs old
unfolding laid_at laid_over
laid_front xs old = rw zero-add

-- What is laid at place 0 under another name is laid over the front.
pub laid_as : (xs ys old new : List ℕ) → xs ≡ ys → new ≡ laid_at 0 xs old → new ≡ laid_over ys old
laid_as xs ys old new e q = q ∙ laid_front xs old ∙ ap (λ (l : List ℕ). laid_over l old) e

-- The empty list changes nothing.
pub laid_none : (a : ℕ) (old : List ℕ) → laid_at a [] old ≡ old
unfolding laid_at
laid_none a old = rw add-zero (take-append-drop a old)

-- A laid list keeps the old one's length.
pub length_laid : (a : ℕ) (xs old : List ℕ) → a + length xs ≤ length old → length (laid_at a xs old) ≡ length old
unfolding laid_at
length_laid a xs old h =
    let l : length (take a old) ≡ a = length-take-le a old (omega arith) in
    simp (length-append, length-drop, l) (omega arith)

-- So does a list laid over the front.
pub length_over : (xs old : List ℕ) → length xs ≤ length old → length (laid_over xs old) ≡ length old
unfolding laid_over
length_over xs old h = simp (length-append, length-drop) (omega arith)

-- Behind p the list v lies over what follows p.
at_seam : (p r v : List ℕ) (n : ℕ) → length p ≡ n → laid_at n v (p ++ r) ≡ p ++ (v ++ drop (length v) r)
unfolding laid_at
at_seam p r v n e = rw (take_at p r n e, ← drop-drop (length v) n (p ++ r), drop_at p r n e)

-- A list laid right behind one that lies over the front is the two laid as one.
pub over_next : (p : ℕ) (xs ys old new last : List ℕ) → p ≡ length xs → new ≡ laid_over xs old → last ≡ laid_at p ys new → last ≡ laid_over (xs ++ ys) old
unfolding laid_over
over_next p xs ys old new last e f g =
    g ∙ ap (laid_at p ys) f ∙ at_seam xs (drop (length xs) old) ys p (sym e) ∙ simp (append_assoc, drop-drop, length-append)

-- A list laid right behind another is the two laid as one.
pub laid_behind : (a : ℕ) (xs ys old : List ℕ) → a ≤ length old → laid_at (a + length xs) ys (laid_at a xs old) ≡ laid_at a (xs ++ ys) old
unfolding laid_at
laid_behind a xs ys old h =
    ap (laid_at (a + length xs) ys) (sym (append_assoc (take a old) xs (drop (a + length xs) old)))
    ∙ at_seam (take a old ++ xs) (drop (a + length xs) old) ys (a + length xs)
    (length-append (take a old) xs ∙ ap (λ (k : ℕ). k + length xs) (length-take-le a old h))
    ∙ simp (append_assoc, drop-drop, length-append, add_assoc)

-- The same for a writer that goes on at place p in a list new.
pub laid_next : (a p : ℕ) (xs ys old new last : List ℕ) → a ≤ length old → p ≡ a + length xs → new ≡ laid_at a xs old → last ≡ laid_at p ys new → last ≡ laid_at a (xs ++ ys) old
laid_next a p xs ys old new last h e f g =
    g ∙ ap (laid_at p ys) f ∙ ap (λ (k : ℕ). laid_at k ys (laid_at a xs old)) e ∙ laid_behind a xs ys old h

-- One store is one element laid.
pub laid_one : (a b : ℕ) (old : List ℕ) → a < length old → set old a b ≡ laid_at a (b ∷ []) old
unfolding laid_at
laid_one a b old h = rw (add-one, set_split)

-- One store right behind a laid list of n elements.
laid_store : (a n b : ℕ) (xs old : List ℕ) → length xs ≡ n → a + n < length old → set (laid_at a xs old) (a + n) b ≡ laid_at a (xs ++ b ∷ []) old
laid_store a n b xs old e h =
    let g : a + length xs < length (laid_at a xs old) = omega (arith, length_laid a xs old (omega arith)) in
    let k : a ≤ length old = omega arith in
    rw (← e) (laid_one (a + length xs) b (laid_at a xs old) g ∙ laid_behind a xs (b ∷ []) old k)

-- Nothing follows such a part.
none_after : (a : ℕ) (s : List ℕ) → drop (length s - a) (drop a s) ≡ []
none_after a s = drop_of_length-le (drop a s) {i = length s - a} (omega (arith, length-drop a s))

-- A list laid over the front of such a part is laid at place a when the part is back.
pub laid_back : (a : ℕ) (xs old ys : List ℕ) → ys ≡ laid_over xs (take (length old - a) (drop a old)) → put_mid a (length old - a) old ys ≡ laid_at a xs old
unfolding laid_over laid_at
laid_back a xs old ys q = rw (q, none_after a old, append-nil, part_all a old, drop-drop)

-- The same for a writer that answers: a refusal leaves the whole list.
pub laid_back_if : (r : Bool) (a : ℕ) (xs old ys : List ℕ) → ys ≡ laid_if r xs (take (length old - a) (drop a old)) → put_mid a (length old - a) old ys ≡ laid_at_if r a xs old
laid_back_if true a xs old ys q = laid_back a xs old ys q
laid_back_if false a xs old ys q = ap (put_mid a (length old - a) old) q ∙ put_same a (length old - a) old

-- One more of the same byte.
pub run_more : (a i b : ℕ) (old : List ℕ) → a + i < length old → set (laid_at a (replicate i b) old) (a + i) b ≡ laid_at a (replicate (i + 1) b) old
run_more a i b old h =
    laid_store a i b (replicate i b) old (length-replicate i b) h
    ∙ ap (λ (l : List ℕ). laid_at a l old) (replicate-append-replicate i 1 b)

-- One more byte of a list that is copied.
pub copy_more : (a i : ℕ) (src old : List ℕ) → i < length src → a + i < length old
    → set (laid_at a (take i src) old) (a + i) (get_or src i 0) ≡ laid_at a (take (i + 1) src) old
copy_more a i src old k h =
    laid_store a i (get_or src i 0) (take i src) old (length-take-le i src (omega arith)) h
    ∙ ap (λ (l : List ℕ). laid_at a l old) (sym (take-suc src i 0 k) ∙ ap (λ (n : ℕ). take n src) (sym (add-one i)))
