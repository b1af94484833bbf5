-- Sums, joined lists and tests of the first n: the next one, equal ones, and one of them alone.
use mathlib.Core.Path.{◌≡◌, refl, sym, ap, ◌∙◌}
use Prim.Native.Nat.{ℕ, zero, suc, ◌+◌, ◌*◌, ◌≤◌, ◌<◌}
use native.Mathlib.Omega.{arith}
use native.Mathlib.Nat.{zero-mul, suc-mul}
use native.Mathlib.Numerals.{add-one}
use mathlib.Core.Bool.{Bool, true, false, ◌&&◌}
use mathlib.Core.List.{List, [], ◌∷◌, ◌++◌, append_assoc}
use lib.ListN.{length, take, drop, get_or, length-append, get_or-append}
use lib.Seq.{take_at, drop_at, take-add, get_or_at, ext_get_or}
use lib.Dec.{ltb}
use borrow.Author.Tests.{ltb-true, ltb-false}
use Rattle.base.proofs.Tests.{cases, and_both, and_make, and_right}
use Rattle.base.specs.Indexed.{sum_to, all_to, join_to, list_to}

-- Each of the first n + 1 is the one at n or one before it.
below : {X : Type 0} (k n : ℕ) → k < suc n → (k < n → X) → (k ≡ n → X) → X
below k n h f g = cases (ltb k n) (λ e. f (ltb-true k n e)) (λ e. let l = ltb-false k n e in g (omega arith))

-- One more of a sum.
pub sum_next : (f : ℕ → ℕ) (n : ℕ) → sum_to f (n + 1) ≡ sum_to f n + f n
unfolding sum_to
sum_next f n = rw (add-one n)

-- The sum of more of them is no less.
sum_grows : (f : ℕ → ℕ) (k n : ℕ) → k ≤ n → sum_to f k ≤ sum_to f n
unfolding sum_to
sum_grows f k zero h = let e : k ≡ 0 = omega arith in rw e (omega arith)
sum_grows f k (suc n) h =
    cases (ltb n k)
    (λ e. let l = ltb-true n k e in let q : k ≡ suc n = omega arith in rw q (omega arith))
    (λ e. let l = ltb-false n k e in omega (arith, sum_grows f k n l))

-- The one at k and all before it are no more than the first n, for k below n.
pub sum_within : (f : ℕ → ℕ) (k n : ℕ) → k < n → sum_to f k + f k ≤ sum_to f n
sum_within f k n h = omega (arith, sum_next f k, sum_grows f (k + 1) n (omega arith))

-- Equal summands have equal sums.
pub sum_same : (f g : ℕ → ℕ) (n : ℕ) → ((k : ℕ) → k < n → f k ≡ g k) → sum_to f n ≡ sum_to g n
unfolding sum_to
sum_same f g zero h = refl
sum_same f g (suc n) h = rw (sum_same f g n (λ k l. h k (omega arith)), h n (omega arith))

-- Equal summands are as many times one of them.
pub sum_const : (d n : ℕ) → sum_to (λ k. d) n ≡ n * d
unfolding sum_to
sum_const d zero = sym (zero-mul d)
sum_const d (suc n) = rw (sum_const d n) (sym (suc-mul n d))

-- Summands of which none is more than d are together no more than as many times d.
pub sum_most : (f : ℕ → ℕ) (n d : ℕ) → ((k : ℕ) → k < n → f k ≤ d) → sum_to f n ≤ n * d
unfolding sum_to
sum_most f zero d h = omega (arith, zero-mul d)
sum_most f (suc n) d h = rw (suc-mul n d) (omega (arith, sum_most f n d (λ k l. h k (omega arith)), h n (omega arith)))

-- One more test.
pub all_next : (p : ℕ → Bool) (n : ℕ) → all_to p (n + 1) ≡ (all_to p n && p n)
unfolding all_to
all_next p n = rw (add-one n)

-- Where all hold each holds,
pub all_holds : (p : ℕ → Bool) (n k : ℕ) → all_to p n ≡ true → k < n → p k ≡ true
unfolding all_to
all_holds p zero k e h = absurd (omega arith)
all_holds p (suc n) k e h =
    let b = and_both (all_to p n) (p n) e in
    below k n h (λ l. all_holds p n k b.0 l) (λ q. ap p q ∙ b.1)

-- where each holds all do,
pub each_holds : (p : ℕ → Bool) (n : ℕ) → ((k : ℕ) → k < n → p k ≡ true) → all_to p n ≡ true
unfolding all_to
each_holds p zero h = refl
each_holds p (suc n) h = and_make (each_holds p n (λ k l. h k (omega arith))) (h n (omega arith))

-- and where one fails not all hold.
pub one_fails : (p : ℕ → Bool) (n k : ℕ) → k < n → p k ≡ false → all_to p n ≡ false
unfolding all_to
one_fails p zero k h e = absurd (omega arith)
one_fails p (suc n) k h e =
    below k n h (λ l. rw (one_fails p n k l e)) (λ q. and_right (all_to p n) (ap p (sym q) ∙ e))

-- Equal tests hold together.
pub all_same : (p q : ℕ → Bool) (n : ℕ) → ((k : ℕ) → k < n → p k ≡ q k) → all_to p n ≡ all_to q n
unfolding all_to
all_same p q zero h = refl
all_same p q (suc n) h = rw (all_same p q n (λ k l. h k (omega arith)), h n (omega arith))

-- One more list.
pub join_next : (f : ℕ → List ℕ) (n : ℕ) → join_to f (n + 1) ≡ join_to f n ++ f n
unfolding join_to
join_next f n = rw (add-one n)

-- Joined lists are together as long as the sum of their lengths.
pub length_join : (f : ℕ → List ℕ) (n : ℕ) → length (join_to f n) ≡ sum_to (λ k. length (f k)) n
unfolding join_to sum_to
length_join f zero = refl
length_join f (suc n) = length-append (join_to f n) (f n) ∙ rw (length_join f n)

-- Equal lists are equal when joined.
pub join_same : (f g : ℕ → List ℕ) (n : ℕ) → ((k : ℕ) → k < n → f k ≡ g k) → join_to f n ≡ join_to g n
unfolding join_to
join_same f g zero h = refl
join_same f g (suc n) h = rw (join_same f g n (λ k l. h k (omega arith)), h n (omega arith))

-- Behind the first k joined lists stands the one at k.
pub join_part : (f : ℕ → List ℕ) (n k : ℕ) (r : List ℕ) → k < n → take (length (f k)) (drop (length (join_to f k)) (join_to f n ++ r)) ≡ f k
unfolding join_to
join_part f zero k r h = absurd (omega arith)
join_part f (suc n) k r h =
    ap (λ (l : List ℕ). take (length (f k)) (drop (length (join_to f k)) l)) (append_assoc (join_to f n) (f n) r)
    ∙ below k n h
    (λ l. join_part f n k (f n ++ r) l)
    (λ q. rw q (ap (take (length (f n))) (drop_at (join_to f n) (f n ++ r) (length (join_to f n)) refl) ∙ take_at (f n) r (length (f n)) refl))

-- A list that is cut into parts of these lengths and joined again is the same as far as they reach.
pub join_cut : (l : ℕ → ℕ) (xs : List ℕ) (n : ℕ) → join_to (λ k. take (l k) (drop (sum_to l k) xs)) n ≡ take (sum_to l n) xs
unfolding join_to sum_to
join_cut l xs zero = refl
join_cut l xs (suc n) = rw (join_cut l xs n) (sym (take-add (sum_to l n) (l n) xs))

-- A list of n elements has n.
pub length_list : (f : ℕ → ℕ) (n : ℕ) → length (list_to f n) ≡ n
unfolding join_to
length_list f zero = refl
length_list f (suc n) = length-append (list_to f n) (f n ∷ []) ∙ omega (arith, length_list f n)

-- Its element at i is the one that the function gives.
pub get_d_list : (f : ℕ → ℕ) (n i d : ℕ) → i < n → get_or (list_to f n) i d ≡ f i
unfolding join_to
get_d_list f zero i d h = absurd (omega arith)
get_d_list f (suc n) i d h =
    below i n h
    (λ l. get_or-append (list_to f n) (f n ∷ []) d i (omega (arith, length_list f n)) ∙ get_d_list f n i d l)
    (λ q. rw q (get_or_at (list_to f n) (f n) [] d n (length_list f n)))

-- A list whose elements the function gives.
pub list_is : (f : ℕ → ℕ) (xs : List ℕ) (n d : ℕ) → length xs ≡ n → ((i : ℕ) → i < n → f i ≡ get_or xs i d) → list_to f n ≡ xs
list_is f xs n d e h =
    ext_get_or d (list_to f n) xs (length_list f n ∙ sym e)
    (λ i l. let g : i < n = omega (arith, length_list f n) in get_d_list f n i d g ∙ h i g)
