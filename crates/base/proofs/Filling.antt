-- Lists joined one behind the other and laid over the front of a slice.
use mathlib.Core.Path.{◌≡◌, refl, sym, ap, ◌∙◌}
use Prim.Native.Nat.{ℕ, zero, suc, ◌+◌, ◌-◌, ◌≤◌, ◌<◌}
use native.Mathlib.Nat.{add-zero}
use native.Mathlib.Omega.{arith}
use mathlib.Core.List.{List, [], ◌∷◌, ◌++◌, append-nil, append_assoc}
use lib.ListN.{length, take, drop, set}
use borrow.Rule.Slice.PartMut.{put_mid}
use Rattle.base.specs.Indexed.{sum_to, join_to, list_to}
use Rattle.base.specs.Laid.{laid_over}
use Rattle.base.proofs.Indexed.{sum_next, sum_same, join_next, length_join, length_list}
use Rattle.base.proofs.Laid.{laid_one, laid_back, over_next, length_over}

-- Nothing laid over a list leaves it.
pub over_nothing : (old : List ℕ) → laid_over [] old ≡ old
unfolding laid_over
over_nothing old = refl

-- The first n + k elements are the first n and then k more.
pub list_append : (f : ℕ → ℕ) (n k : ℕ) → list_to f (n + k) ≡ list_to f n ++ list_to (λ j. f (n + j)) k
unfolding join_to
list_append f n zero = rw add-zero (sym (append-nil (list_to f n)))
list_append f n (suc k) =
    let e : n + suc k ≡ n + k + 1 = omega arith in
    ap (list_to f) e
    ∙ join_next (λ j. f j ∷ []) (n + k)
    ∙ rw (list_append f n k) (append_assoc (list_to f n) (list_to (λ j. f (n + j)) k) (f (n + k) ∷ []))

-- The next element is stored behind the first i, which lie over the front.
pub list_store : (f : ℕ → ℕ) (i b : ℕ) (old new : List ℕ) → i < length new → new ≡ laid_over (list_to f i) old → b ≡ f i → set new i b ≡ laid_over (list_to f (i + 1)) old
list_store f i b old new h e q =
    over_next i (list_to f i) (b ∷ []) old new (set new i b) (sym (length_list f i)) e (laid_one i b new h)
    ∙ rw q (ap (λ (l : List ℕ). laid_over l old) (sym (join_next (λ k. f k ∷ []) i)))

-- The next list is written into the part behind the first k, which are as long as l says and lie over the front.
pub fill_more : (g : ℕ → List ℕ) (l : ℕ → ℕ) (k p : ℕ) (old new part : List ℕ) → p ≡ sum_to l k → ((j : ℕ) → j < k + 1 → length (g j) ≡ l j) → p + l k ≤ length old
    → new ≡ laid_over (join_to g k) old → part ≡ laid_over (g k) (take (length new - p) (drop p new))
    → (length (put_mid p (length new - p) new part) ≡ length old) × (put_mid p (length new - p) new part ≡ laid_over (join_to g (k + 1)) old)
fill_more g l k p old new part e h r q w =
    let n : length (join_to g k) ≡ p = length_join g k ∙ sum_same (λ j. length (g j)) l k (λ j b. h j (omega arith)) ∙ sym e in
    let m : length (join_to g (k + 1)) ≡ p + l k = length_join g (k + 1) ∙ sum_same (λ j. length (g j)) l (k + 1) h ∙ sum_next l k ∙ ap (λ (x : ℕ). x + l k) (sym e) in
    let z = over_next p (join_to g k) (g k) old new _ (sym n) q (laid_back p (g k) new part w) ∙ ap (λ (x : List ℕ). laid_over x old) (sym (join_next g k)) in
    (ap length z ∙ length_over (join_to g (k + 1)) old (omega arith), z)
