-- Laws of the candidates of a track from a place on.
use mathlib.Core.Path.{◌≡◌, refl, sym, ap, ◌∙◌}
use Prim.Native.Nat.{ℕ, suc, ◌+◌, ◌-◌, ◌≤◌, ◌<◌}
use native.Mathlib.Numerals.{add-one}
use native.Mathlib.Omega.{arith}
use mathlib.Core.Bool.{Bool, true}
use mathlib.Core.List.{List, [], ◌∷◌, ◌++◌}
use lib.ListN.{length, get_or, take, drop, length-drop, drop_of_length-le}
use lib.Seq.{drop-cons, drop-drop}
use lib.Dec.{eqb}
use Rattle.base.specs.Pick.{pick}
use Rattle.format.specs.Judged.{Judged}
use Rattle.format.specs.Count.{count_number}
use Rattle.format.specs.Candidate.{Candidate, first_opens_at, candidate_at, stands_at, candidates_from}
use Rattle.format.specs.Find.{carrying}
use Rattle.base.proofs.Tests.{cases}
use Rattle.reader.specs.Finding.{standing_at}

-- The candidates from place p on, of the whole track c.
abbrev pub candidates_at : Judged ℕ → ℕ → List ℕ → List Candidate
candidates_at h p c = candidates_from h p (drop p c)

-- None behind the last cell.
pub candidates_end : (h : Judged ℕ) (p : ℕ) (c : List ℕ) → length c ≤ p → candidates_at h p c ≡ []
unfolding candidates_from
candidates_end h p c l = rw (drop_of_length-le c {i = p} l)

-- The one at place p, if one stands there, then those behind it.
pub candidates_at_lem : (h : Judged ℕ) (p : ℕ) (c : List ℕ) → p < length c → candidates_at h p c ≡ standing_at h p (drop p c) ++ candidates_at h (p + 1) c
unfolding candidates_from standing_at
candidates_at_lem h p c l =
    rw (add-one, drop-cons c p 0 l)
    (cases (stands_at h p (get_or c p 0 ∷ drop (suc p) c)) (λ e. rw e) (λ e. rw e))

-- One stands at place p.
pub candidates_here : (h : Judged ℕ) (p : ℕ) (c : List ℕ) (x : Candidate) → p < length c → x ∷ [] ≡ standing_at h p (drop p c) → take 1 (candidates_at h p c) ≡ x ∷ []
candidates_here h p c x l e = rw (candidates_at_lem h p c l, ← e)

-- None does.
pub candidates_later : (h : Judged ℕ) (p : ℕ) (c : List ℕ) → p < length c → [] ≡ standing_at h p (drop p c) → candidates_at h p c ≡ candidates_at h (p + 1) c
candidates_later h p c l e = rw (candidates_at_lem h p c l, ← e)

-- The candidates that a test keeps.
abbrev kept : (Candidate → Bool) → List Candidate → List Candidate
kept f [] = []
kept f (x ∷ xs) = pick (f x) (x ∷ kept f xs) (kept f xs)

-- x is the first that a test keeps of the cells c, which start at place p; the others lie behind it.
abbrev KeptFirst : (Candidate → Bool) → Judged ℕ → ℕ → List ℕ → Candidate → Type 0
KeptFirst f h p c x =
    (p ≤ x.place) × (x.place < p + length c)
    × (kept f (candidates_from h p c) ≡ x ∷ kept f (candidates_from h (x.place + 1) (drop (x.place + 1 - p) c)))

kept_here : (f : Candidate → Bool) (h : Judged ℕ) (p y : ℕ) (c : List ℕ) (x z : Candidate) → z.place ≡ p → z ≡ x
    → kept f (candidates_from h p (y ∷ c)) ≡ z ∷ kept f (candidates_from h (suc p) c) → KeptFirst f h p (y ∷ c) x
kept_here f h p y c x z e q k =
    let l : x.place ≡ p = ap (λ (w : Candidate). w.place) (sym q) ∙ e in
    let n : x.place + 1 - p ≡ suc 0 = omega arith in
    let m : x.place + 1 ≡ suc p = omega arith in
    (omega arith, omega arith, k ∙ ap (λ (w : Candidate). w ∷ kept f (candidates_from h (suc p) c)) q ∙ rw (n, m))

kept_behind : (f : Candidate → Bool) (h : Judged ℕ) (p y : ℕ) (c : List ℕ) (x : Candidate)
    → kept f (candidates_from h p (y ∷ c)) ≡ kept f (candidates_from h (suc p) c) → KeptFirst f h (suc p) c x → KeptFirst f h p (y ∷ c) x
kept_behind f h p y c x q r =
    let n : x.place + 1 - p ≡ suc (x.place + 1 - suc p) = omega (arith, r.0) in
    (omega (arith, r.0), omega (arith, r.1), rw n (q ∙ r.2))

kept_first : (f : Candidate → Bool) (h : Judged ℕ) (p : ℕ) (c : List ℕ) (x : Candidate) → x ∷ [] ≡ take 1 (kept f (candidates_from h p c)) → KeptFirst f h p c x
unfolding candidates_from candidate_at
kept_first f h p [] x e = cc
kept_first f h p (y ∷ c) x e =
    let z : Candidate = candidate_at (first_opens_at h p (y ∷ c)) p (y ∷ c) in
    cases (stands_at h p (y ∷ c))
    (λ s. cases (f z)
    (λ k. let q : x ∷ [] ≡ z ∷ [] = rw (s, k) at e in kept_here f h p y c x z refl (cc) (rw (s, k)))
    (λ k. kept_behind f h p y c x (rw (s, k)) (kept_first f h (suc p) c x (rw (s, k) at e))))
    (λ s. kept_behind f h p y c x (rw s) (kept_first f h (suc p) c x (rw s at e)))

-- x is the first of the candidates from place p on, and those behind it are what is left of the track c.
abbrev pub First : List Candidate → ℕ → ℕ → Candidate → List Candidate → Type 0
First xs p n x ys = (p ≤ x.place) × (x.place < n) × (xs ≡ x ∷ ys)

kept_all : (xs : List Candidate) → kept (λ x. true) xs ≡ xs
kept_all [] = refl
kept_all (x ∷ xs) = ap (λ (ys : List Candidate). x ∷ ys) (kept_all xs)

kept_carrying : (s : ℕ) (xs : List Candidate) → kept (λ x. eqb (count_number x.rest) s) xs ≡ carrying s xs
unfolding carrying
kept_carrying s [] = refl
kept_carrying s (x ∷ xs) = rw (kept_carrying s xs)

-- Behind a place of the track.
kept_at : (f : Candidate → Bool) (h : Judged ℕ) (p : ℕ) (c : List ℕ) (x : Candidate) → x ∷ [] ≡ take 1 (kept f (candidates_at h p c))
    → First (kept f (candidates_at h p c)) p (length c) x (kept f (candidates_at h (x.place + 1) c))
kept_at f h p c x e =
    let r = kept_first f h p (drop p c) x e in
    let n : p + (x.place + 1 - p) ≡ x.place + 1 = omega (arith, r.0) in
    let d : drop (x.place + 1 - p) (drop p c) ≡ drop (x.place + 1) c = drop-drop (x.place + 1 - p) p c ∙ ap (λ (k : ℕ). drop k c) n in
    (r.0, omega (arith, r.0, r.1, length-drop p c), r.2 ∙ ap (λ (b : List ℕ). x ∷ kept f (candidates_from h (x.place + 1) b)) d)

-- The first candidate from place p on.
pub candidates_first : (h : Judged ℕ) (p : ℕ) (c : List ℕ) (x : Candidate) → x ∷ [] ≡ take 1 (candidates_at h p c)
    → First (candidates_at h p c) p (length c) x (candidates_at h (x.place + 1) c)
candidates_first h p c x e =
    let r = kept_at (λ x. true) h p c x (rw kept_all e) in
    (r.0, r.1, sym (kept_all (candidates_at h p c)) ∙ r.2 ∙ ap (λ (ys : List Candidate). x ∷ ys) (kept_all (candidates_at h (x.place + 1) c)))

-- The first that carries s.
pub carrying_first : (s : ℕ) (h : Judged ℕ) (p : ℕ) (c : List ℕ) (x : Candidate) → x ∷ [] ≡ take 1 (carrying s (candidates_at h p c))
    → First (carrying s (candidates_at h p c)) p (length c) x (carrying s (candidates_at h (x.place + 1) c))
carrying_first s h p c x e =
    let r = kept_at (λ x. eqb (count_number x.rest) s) h p c x (rw (kept_carrying s (candidates_at h p c)) e) in
    (r.0, r.1, sym (kept_carrying s (candidates_at h p c)) ∙ r.2 ∙ ap (λ (ys : List Candidate). x ∷ ys) (kept_carrying s (candidates_at h (x.place + 1) c)))

-- Where the first is missing there is none.
pub none_first : (xs : List Candidate) → [] ≡ take 1 xs → xs ≡ []
none_first [] e = refl
none_first (x ∷ xs) e = cc
