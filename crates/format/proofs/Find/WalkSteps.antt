-- Walk, step by step: exactly the candidates, each once, from left to right, then answer 12 for ever.
use mathlib.Core.Path.{◌≡◌, refl, sym, ap, ◌∙◌}
use Prim.Native.Nat.{ℕ, zero, suc, ◌≤◌, ◌<◌}
use native.Mathlib.Nat.{le_of_suc-le-suc, le_refl}
use native.Mathlib.Omega.{arith}
use mathlib.Core.Bool.{true, false}
use mathlib.Core.List.{List, [], ◌∷◌, ◌++◌, map}
use lib.ListN.{take, replicate}
use lib.Seq.{append_snoc}
use borrow.Author.Tests.{le-leb, lt-leb}
use Rattle.format.specs.Answer.{lent_wrong, sector_missing}
use Rattle.format.specs.Judged.{Judged, good, refused}
use Rattle.format.specs.Lent.{lent_for_reading, cells}
use Rattle.format.specs.Candidate.{Candidate, stands_at, candidate_at, candidates_from, candidates}
use Rattle.format.specs.Home.{find_home}
use Rattle.format.specs.Walk.{Visited, visited, next_from, step, place_after}
use Rattle.base.proofs.Tests.{cases}

-- The answers of n steps of a reader that has come to place p.
unfoldable pub steps : ℕ → ℕ → List ℕ → List ℕ → List (Judged Visited)
steps zero p t m = []
steps (suc n) p t m = step p t m ∷ steps n (place_after p (step p t m)) t m

-- The places of the candidates are p or later, and each lies behind the one before.
abbrev pub Rising : ℕ → List Candidate → Type 0
Rising p [] = Unit {0}
Rising p (x ∷ xs) = (p ≤ x.place) × Rising (suc x.place) xs

rising_lower : (p q : ℕ) (xs : List Candidate) → q ≤ p → Rising p xs → Rising q xs
rising_lower p q [] l r = tt
rising_lower p q (x ∷ xs) l r = (omega arith, r.1)

candidates_from_rise : (h : Judged ℕ) (p : ℕ) (c : List ℕ) → Rising p (candidates_from h p c)
unfolding candidates_from candidate_at
candidates_from_rise h p [] = tt
candidates_from_rise h p (x ∷ c) =
    let r = candidates_from_rise h (suc p) c in
    cases (stands_at h p (x ∷ c))
    (λ e. rw e (le_refl p, r))
    (λ e. rw e (rising_lower (suc p) p (candidates_from h (suc p) c) (omega arith) r))

-- The candidates of a track come from left to right, each once.
pub candidates_rise : (c : List ℕ) → Rising 0 (candidates c)
unfolding candidates
candidates_rise c = candidates_from_rise (find_home c) 0 c

-- All these candidates were passed by a reader at place p.
abbrev Passed : ℕ → List Candidate → Type 0
Passed p [] = Unit {0}
Passed p (x ∷ xs) = (x.place < p) × Passed p xs

passed_snoc : (p : ℕ) (xs : List Candidate) (y : Candidate) → p ≤ y.place → Passed p xs → Passed (suc y.place) (xs ++ (y ∷ []))
passed_snoc p [] y l b = (omega arith, tt)
passed_snoc p (x ∷ xs) y l b = (omega arith, passed_snoc p xs y l b.1)

next_passed : (p : ℕ) (xs ys : List Candidate) → Passed p xs → next_from p (xs ++ ys) ≡ next_from p ys
unfolding next_from
next_passed p [] ys b = refl
next_passed p (x ∷ xs) ys b = rw (lt-leb p x.place b.0) (next_passed p xs ys b.1)

-- The next is the first one that has its place at p or later.
pub next_here : (p : ℕ) (y : Candidate) (ys : List Candidate) → p ≤ y.place → next_from p (y ∷ ys) ≡ good (visited y)
unfolding next_from
next_here p y ys l = rw (le-leb p y.place l)

-- What a reader is to give for the candidates xs.
abbrev pub visits : List Candidate → List (Judged Visited)
visits xs = map (λ x. good (visited x)) xs

step_is : (p : ℕ) (t m : List ℕ) (xs ys : List Candidate) → lent_for_reading t m ≡ true → candidates (cells t m) ≡ xs ++ ys → Passed p xs → step p t m ≡ next_from p ys
unfolding step
step_is p t m xs ys l e b = rw (l, e) (next_passed p xs ys b)

steps_from : (n k p : ℕ) (t m : List ℕ) (xs ys : List Candidate) → lent_for_reading t m ≡ true → candidates (cells t m) ≡ xs ++ ys → Passed p xs → Rising p ys → n ≤ k
    → steps n p t m ≡ take n (visits ys ++ replicate k (refused sector_missing))
unfolding steps next_from place_after visited
steps_from zero k p t m xs ys l e b r h = refl
steps_from (suc n) zero p t m xs [] l e b r h = absurd (omega arith)
steps_from (suc n) (suc k) p t m xs [] l e b r h =
    let q : step p t m ≡ refused sector_missing = step_is p t m xs [] l e b in
    rw q (ap (λ (z : List (Judged Visited)). refused sector_missing ∷ z) (steps_from n k p t m xs [] l e b r (le_of_suc-le-suc h)))
steps_from (suc n) k p t m xs (y ∷ ys) l e b r h =
    let q : step p t m ≡ good (visited y) = step_is p t m xs (y ∷ ys) l e b ∙ next_here p y ys r.0 in
    rw q
    (ap (λ (z : List (Judged Visited)). good (visited y) ∷ z)
    (steps_from n k (suc y.place) t m (xs ++ (y ∷ [])) ys l (e ∙ sym (append_snoc xs y ys)) (passed_snoc p xs y r.0 b) r.1 (omega arith)))

-- Over a pair that is lent within the rule the steps give exactly the candidates, each once, from left to right, then answer 12.
pub walk_visits : (n : ℕ) (t m : List ℕ) → lent_for_reading t m ≡ true
    → steps n 0 t m ≡ take n (visits (candidates (cells t m)) ++ replicate n (refused sector_missing))
walk_visits n t m l = steps_from n n 0 t m [] (candidates (cells t m)) l refl tt (candidates_rise (cells t m)) (le_refl n)

-- Over any other pair each step answers 1.
pub walk_refuses : (n p : ℕ) (t m : List ℕ) → lent_for_reading t m ≡ false → steps n p t m ≡ replicate n (refused lent_wrong)
unfolding steps step
walk_refuses zero p t m l = refl
walk_refuses (suc n) p t m l =
    rw l (ap (λ (z : List (Judged Visited)). refused lent_wrong ∷ z) (walk_refuses n (place_after p (refused lent_wrong)) t m l))
