-- Stepping a new reader: exactly the candidates, each once, from left to right, then answer 12 for ever.
use mathlib.Core.Path.{◌≡◌, refl, sym, ap, subst, ◌∙◌}
use Prim.Native.Nat.{ℕ, zero, suc, ◌+◌, ◌≤◌, ◌<◌}
use native.Mathlib.Nat.{le_of_suc-le-suc}
use native.Mathlib.Omega.{arith}
use mathlib.Core.Bool.{true, false}
use mathlib.Core.List.{List, [], ◌∷◌, ◌++◌, map}
use lib.ListN.{length, get_or, take, replicate, length-map}
use Rattle.std.proofs.Math.Seq.{take-append-add}
use Rattle.std.proofs.lemmas.List.{take-replicate, get_or-take}
use denote.Ref.{Bor}
use Rattle.format.specs.Answer.{lent_wrong, sector_missing}
use Rattle.format.specs.Judged.{Judged, good, refused}
use Rattle.format.specs.Lent.{lent_for_reading, cells}
use Rattle.format.specs.Candidate.{Candidate, candidates}
use Rattle.format.specs.Walk.{Visited, visited, step, place_after}
use Rattle.base.proofs.Tests.{cases}
use Rattle.format.proofs.Find.WalkSteps.{steps, visits, walk_visits, walk_refuses}
use Rattle.reader.proofs.FindSteps.{step_wrong}
use Rattle.reader.specs.Finding.{judged_visit}
use Rattle.std.specs.Prelude.{Result}
use Rattle.format.specs.declared.Refusal.{Refusal}
use Rattle.reader.specs.declared.walk.Visited.{Visited as VisitedCode}
use Rattle.walking.specs.Walked.{judged_step, reader_at, step_of, after_step, visit_of}
use Rattle.walking.specs.declared.Walk.{Walk}

-- A reader w was stepped and gave rs: each step as its contract says, over the reader that the one before left.
abbrev pub Stepping : Walk → List (Result VisitedCode Refusal) → Type 0
Stepping w [] = Unit {0}
Stepping w (r ∷ rs) = (judged_visit r ≡ step_of w) × ((v : Walk) × (v ≡ after_step w) × Stepping v rs)

-- What a reader made over a pair gives, and where it is after it, is the step of the definition.
pub reader_step : (t m : Bor (List ℕ)) (p : ℕ) → step_of (reader_at t m p) ≡ step p t.now m.now
unfolding judged_step step
reader_step t m p = refl

pub reader_after : (t m : Bor (List ℕ)) (p : ℕ) → after_step (reader_at t m p) ≡ reader_at t m (place_after p (step p t.now m.now))
reader_after t m p = ap (λ (j : Judged Visited). reader_at t m (place_after p j)) (reader_step t m p)

-- What it gave are the steps of the definition, from its place on.
pub stepping_steps : (t m : Bor (List ℕ)) (p : ℕ) (rs : List (Result VisitedCode Refusal)) → Stepping (reader_at t m p) rs → map judged_visit rs ≡ steps (length rs) p t.now m.now
unfolding steps
stepping_steps t m p [] s = refl
stepping_steps t m p (r ∷ rs) s =
    let j : Judged Visited = step p t.now m.now in
    let q = stepping_steps t m (place_after p j) rs (subst (λ (v : Walk). Stepping v rs) (s.1.1 ∙ reader_after t m p) s.1.2) in
    rw (s.0 ∙ reader_step t m p, q)

-- A new reader over a pair that is lent within the rule gives exactly the candidates, each once, from left to right, then answer 12.
pub reader_visits : (t m : Bor (List ℕ)) (w : Walk) (rs : List (Result VisitedCode Refusal)) → w ≡ reader_at t m 0 → Stepping w rs → lent_for_reading t.now m.now ≡ true
    → map judged_visit rs ≡ take (length rs) (visits (candidates (cells t.now m.now)) ++ replicate (length rs) (refused sector_missing))
reader_visits t m w rs e s l =
    stepping_steps t m 0 rs (subst (λ (v : Walk). Stepping v rs) e s) ∙ walk_visits (length rs) t.now m.now l

-- Over any other pair each of its steps answers 1.
pub reader_refuses : (t m : Bor (List ℕ)) (w : Walk) (rs : List (Result VisitedCode Refusal)) → w ≡ reader_at t m 0 → Stepping w rs → lent_for_reading t.now m.now ≡ false
    → map judged_visit rs ≡ replicate (length rs) (refused lent_wrong)
reader_refuses t m w rs e s l =
    stepping_steps t m 0 rs (subst (λ (v : Walk). Stepping v rs) e s) ∙ walk_refuses (length rs) 0 t.now m.now l

take_behind : {A : Type 0} (xs : List A) (n k j : ℕ) (a : A) → n ≡ length xs + k → k ≤ j → take n (xs ++ replicate j a) ≡ xs ++ replicate k a
take_behind {A} xs n k j a e h = rw e (take-append-add xs (replicate j a) k ∙ ap (λ (z : List A). xs ++ z) (take-replicate k j a h))

-- Stepped once for each candidate and k times more, it gives them all, and then k times 12.
pub reader_visits_all : (t m : Bor (List ℕ)) (w : Walk) (rs : List (Result VisitedCode Refusal)) (k : ℕ) → w ≡ reader_at t m 0 → Stepping w rs → lent_for_reading t.now m.now ≡ true
    → length rs ≡ length (candidates (cells t.now m.now)) + k
    → map judged_visit rs ≡ visits (candidates (cells t.now m.now)) ++ replicate k (refused sector_missing)
reader_visits_all t m w rs k e s l n =
    reader_visits t m w rs e s l
    ∙ take_behind (visits (candidates (cells t.now m.now))) (length rs) k (length rs) (refused sector_missing)
    (omega (arith, n, length-map (candidates (cells t.now m.now)) (λ (x : Candidate). good (visited x)))) (omega (arith, n))

-- The place that a reader has come to from place p after i steps.
unfoldable pub reached : ℕ → ℕ → List ℕ → List ℕ → ℕ
reached zero p t m = p
reached (suc i) p t m = place_after (reached i p t m) (step (reached i p t m) t m)

-- A step more.
pub reached_next : (i p : ℕ) (t m : List ℕ) → place_after (reached i p t m) (step (reached i p t m) t m) ≡ reached (i + 1) p t m
unfolding reached
reached_next i p t m = let e : i + 1 ≡ suc i = omega arith in rw e

reached_later : (i p : ℕ) (t m : List ℕ) → reached (suc i) p t m ≡ reached i (place_after p (step p t m)) t m
unfolding reached
reached_later zero p t m = refl
reached_later (suc i) p t m = rw (reached_later i p t m)

steps_at : (n k p : ℕ) (t m : List ℕ) (d : Judged Visited) → n < k → get_or (steps k p t m) n d ≡ step (reached n p t m) t m
unfolding steps reached
steps_at n zero p t m d h = absurd (omega arith)
steps_at zero (suc k) p t m d h = refl
steps_at (suc n) (suc k) p t m d h = steps_at n k (place_after p (step p t m)) t m d (le_of_suc-le-suc h) ∙ ap (λ (q : ℕ). step q t m) (sym (reached_later n p t m))

get_d_same : {A : Type 0} (n k : ℕ) (a : A) → get_or (replicate k a) n a ≡ a
get_d_same n zero a = refl
get_d_same zero (suc k) a = refl
get_d_same (suc n) (suc k) a = get_d_same n k a

get_d_behind : {A : Type 0} (xs : List A) (n k : ℕ) (a : A) → get_or (xs ++ replicate k a) n a ≡ get_or xs n a
get_d_behind [] n k a = get_d_same n k a
get_d_behind (x ∷ xs) zero k a = refl
get_d_behind (x ∷ xs) (suc n) k a = get_d_behind xs n k a

lent_visits : (n : ℕ) (t m : List ℕ) → lent_for_reading t m ≡ true → step (reached n 0 t m) t m ≡ get_or (visits (candidates (cells t m))) n (refused sector_missing)
lent_visits n t m l =
    sym (steps_at n (suc n) 0 t m (refused sector_missing) (omega arith))
    ∙ ap (λ (xs : List (Judged Visited)). get_or xs n (refused sector_missing)) (walk_visits (suc n) t m l)
    ∙ get_or-take (suc n) (visits (candidates (cells t m)) ++ replicate (suc n) (refused sector_missing)) n (refused sector_missing) (omega arith)
    ∙ get_d_behind (visits (candidates (cells t m))) n (suc n) (refused sector_missing)

-- After no step it is where it was.
pub reached_none : (p : ℕ) (t m : List ℕ) → p ≡ reached 0 p t m
unfolding reached
reached_none p t m = refl

-- After n steps a new reader gives the candidate that has n candidates to its left.
pub step_visits : (n : ℕ) (t m : List ℕ) → step (reached n 0 t m) t m ≡ visit_of n t m
unfolding visit_of
step_visits n t m =
    cases (lent_for_reading t m)
    (λ l. rw l (lent_visits n t m l))
    (λ l. rw l (step_wrong (reached n 0 t m) t m l))

-- The step of a reader that i steps over this pair have left, and the place that it has come to by it.
pub walked_step : (w : Walk) (i : ℕ) (t m : List ℕ) → w.track.now ≡ t → w.marks.now ≡ m → w.at ≡ reached i 0 t m → w.lent ≡ lent_for_reading t m → step_of w ≡ step (reached i 0 t m) t m
unfolding judged_step step
walked_step w i t m a b p l = rw (a, b, p, l)

pub walked_place : (w : Walk) (i : ℕ) (t m : List ℕ) → w.track.now ≡ t → w.marks.now ≡ m → w.at ≡ reached i 0 t m → w.lent ≡ lent_for_reading t m → place_after w.at (step_of w) ≡ reached (i + 1) 0 t m
walked_place w i t m a b p l = rw (walked_step w i t m a b p l, p) (reached_next i 0 t m)
