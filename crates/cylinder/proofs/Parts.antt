-- What holds of every element of a list and of its parts, and a part that is two lists joined.
use mathlib.Core.Path.{◌≡◌, refl, sym, ap, ◌∙◌, subst}
use Prim.Native.Nat.{ℕ, zero, suc, ◌+◌, ◌-◌, ◌<◌}
use native.Mathlib.Omega.{arith}
use mathlib.Core.List.{List, [], ◌∷◌, ◌++◌}
use lib.ListN.{length, take, drop, get_or, length-take, length-drop}
use lib.Seq.{take_at, drop_at, take-take, take-add, drop-drop, get_or-take, get_or-drop}
use Rattle.base.specs.Indexed.{join_to}
use Rattle.base.proofs.Lists.{drop_take}

-- An element of a part stands in the list at the part's place and its own together.
pub part_at_lem : (p m : ℕ) (f x : List ℕ) (q i : ℕ) → take m (drop p f) ≡ x → q ≡ p + i → i < m → get_or f q 0 ≡ get_or x i 0
part_at_lem p m f x q i e g h = rw g (sym (get_or-drop p f i 0) ∙ sym (get_or-take m (drop p f) i 0 h) ∙ ap (λ (y : List ℕ). get_or y i 0) e)

-- P holds of every element of the list.
abbrev pub Each : (ℕ → Type 0) → List ℕ → Type 0
Each P xs = (i : ℕ) → i < length xs → P (get_or xs i 0)

-- What holds of every element of two lists holds of those of one behind the other.
pub append_keeps : (P : ℕ → Type 0) (a b : List ℕ) → Each P a → Each P b → Each P (a ++ b)
append_keeps P [] b e h i l = h i l
append_keeps P (x ∷ a) b e h zero l = e 0 (omega arith)
append_keeps P (x ∷ a) b e h (suc i) l = append_keeps P a b (λ j k. e (suc j) (omega arith)) h i (omega arith)

-- What holds of every element of the first n lists holds of those of all joined.
pub join_keeps : (P : ℕ → Type 0) (x : ℕ → List ℕ) (n : ℕ) → ((k : ℕ) → k < n → Each P (x k)) → Each P (join_to x n)
unfolding join_to
join_keeps P x zero e = λ i l. absurd (omega arith)
join_keeps P x (suc n) e = append_keeps P (join_to x n) (x n) (join_keeps P x n (λ k l. e k (omega arith))) (e n (omega arith))

-- What holds of every element of a list holds of those of a part.
pub part_keeps : (P : ℕ → Type 0) (p m : ℕ) (xs : List ℕ) → Each P xs → Each P (take m (drop p xs))
part_keeps P p m xs e i h =
    let l : i < m = omega (arith, length-take m (drop p xs)) in
    let g : p + i < length xs = omega (arith, length-take m (drop p xs), length-drop p xs) in
    subst P (part_at_lem p m xs (take m (drop p xs)) (p + i) i refl refl l) (e (p + i) g)

-- Of a part that is two lists joined the front is the first,
pub part_first : (p i j : ℕ) (f a b : List ℕ) → length a ≡ i → take (i + j) (drop p f) ≡ a ++ b → take i (drop p f) ≡ a
part_first p i j f a b l e = sym (take-take i (i + j) (drop p f) (omega arith)) ∙ ap (take i) e ∙ take_at a b i l

-- and the rest is the second.
pub part_second : (p i j : ℕ) (f a b : List ℕ) → length a ≡ i → take (i + j) (drop p f) ≡ a ++ b → take j (drop (p + i) f) ≡ b
part_second p i j f a b l e =
    let q : j ≡ i + j - i = omega arith in
    ap (take j) (sym (drop-drop i p f)) ∙ ap (λ (k : ℕ). take k (drop i (drop p f))) q ∙ sym (drop_take i (i + j) (drop p f)) ∙ ap (drop i) e ∙ drop_at a b i l

-- Two parts of which one ends where the other starts are one.
pub part_joined : (p i j : ℕ) (f : List ℕ) → take (i + j) (drop p f) ≡ take i (drop p f) ++ take j (drop (p + i) f)
part_joined p i j f = take-add i j (drop p f) ∙ ap (λ (y : List ℕ). take i (drop p f) ++ take j y) (drop-drop i p f)
