-- Cutting a track at its marked openings, and joining the spans again.
use mathlib.Core.Path.{◌≡◌, refl, sym, ap, ap₂, ◌∙◌}
use Prim.Native.Nat.{ℕ, zero, suc}
use mathlib.Core.Bool.{true, false}
use mathlib.Core.List.{List, [], ◌∷◌, ◌++◌, append-nil}
use mathlib.Core.Logic.{◌⊎◌, inl, inr}
use Rattle.base.specs.Pick.{pick}
use Rattle.format.specs.Lent.{unmarked}
use Rattle.format.specs.Opening.{marked_opening, opens}
use Rattle.format.specs.Span.{before_opening, later_spans, spans, joined}
use Rattle.format.proofs.Spans.Shape.{Shape}
use Rattle.base.proofs.Tests.{cases}
use Rattle.format.proofs.Cells.Opening.{opens_seam, opens_unmarked, unmarked_right}

-- The spans of a track make it up.
pub joined_spans : (c : List ℕ) → joined (spans c) ≡ c
unfolding spans later_spans before_opening
joined_spans [] = refl
joined_spans (x ∷ c) =
    elim (opens (x ∷ c)) as (λ b. pick b [] (x ∷ before_opening c) ++ joined (pick b ((x ∷ before_opening c) ∷ later_spans c) (later_spans c)) ≡ x ∷ c)
    [ true ↦ ap (λ (r : List ℕ). x ∷ r) (joined_spans c) | false ↦ ap (λ (r : List ℕ). x ∷ r) (joined_spans c) ]

-- The cells before the first opening and the spans from there on make up the track.
pub before_joined : (c : List ℕ) → before_opening c ++ joined (later_spans c) ≡ c
unfolding spans
before_joined c = joined_spans c

-- Nothing stands before an opening at the front.
before_opens : (c : List ℕ) → opens c ≡ true → before_opening c ≡ []
unfolding before_opening
before_opens [] e = refl
before_opens (x ∷ c) e = rw e

-- What is put behind at an opening does not change what stands before the first opening.
pub before_append : (xs ys : List ℕ) → opens ys ≡ true → before_opening (xs ++ ys) ≡ before_opening xs
unfolding before_opening
before_append [] ys e = before_opens ys e
before_append (x ∷ xs) ys e = rw (opens_seam x xs ys e, before_append xs ys e)

-- And its spans come behind those that are there.
pub later_append : (xs ys : List ℕ) → opens ys ≡ true → later_spans (xs ++ ys) ≡ later_spans xs ++ later_spans ys
unfolding later_spans before_opening
later_append [] ys e = refl
later_append (x ∷ xs) ys e =
    rw (opens_seam x xs ys e, before_append xs ys e, later_append xs ys e)
    (elim (opens (x ∷ xs)) as (λ b. pick b ((x ∷ before_opening xs) ∷ (later_spans xs ++ later_spans ys)) (later_spans xs ++ later_spans ys) ≡ pick b ((x ∷ before_opening xs) ∷ later_spans xs) (later_spans xs) ++ later_spans ys)
    [ true ↦ refl | false ↦ refl ])

-- There is no later span, or an opening stands at the front of the later spans.
opens_later : (c : List ℕ) → (later_spans c ≡ []) ⊎ (opens (joined (later_spans c)) ≡ true)
unfolding later_spans before_opening
opens_later [] = inl refl
opens_later (x ∷ c) =
    cases (opens (x ∷ c))
    (λ e. inr (rw (e, before_joined c) e))
    (λ e. rw e (opens_later c))

-- Whether an opening stands in front is seen before the next one.
opens_before : (x : ℕ) (c : List ℕ) → opens (x ∷ before_opening c) ≡ opens (x ∷ c)
opens_before x c = go (opens_later c)
  where
    go : (later_spans c ≡ []) ⊎ (opens (joined (later_spans c)) ≡ true) → opens (x ∷ before_opening c) ≡ opens (x ∷ c)
    go (inl e) = ap (λ (r : List ℕ). opens (x ∷ r)) (sym (append-nil (before_opening c)) ∙ ap (λ (gs : List (List ℕ)). before_opening c ++ joined gs) (sym e) ∙ before_joined c)
    go (inr e) = sym (opens_seam x (before_opening c) (joined (later_spans c)) e) ∙ ap (λ (r : List ℕ). opens (x ∷ r)) (before_joined c)

-- Before the first opening there is none.
pub later_before : (c : List ℕ) → later_spans (before_opening c) ≡ []
unfolding later_spans before_opening
later_before [] = refl
later_before (x ∷ c) =
    cases (opens (x ∷ c))
    (λ e. rw e)
    (λ e. rw (e, opens_before x c ∙ e) (later_before c))

-- A list without an opening stands before the first opening whole.
pub before_whole : (g : List ℕ) → later_spans g ≡ [] → before_opening g ≡ g
before_whole g e = sym (append-nil (before_opening g)) ∙ ap (λ (gs : List (List ℕ)). before_opening g ++ joined gs) (sym e) ∙ before_joined g

-- The later spans have the shape of later spans.
pub shape_later : (i : ℕ) (c : List ℕ) → Shape (suc i) (later_spans c)
unfolding later_spans before_opening
shape_later i [] = tt
shape_later i (x ∷ c) =
    cases (opens (x ∷ c))
    (λ e. rw e ((opens_before x c ∙ e, rw (opens_before x c ∙ e, before_whole (before_opening c) (later_before c), later_before c)), shape_later (suc i) c))
    (λ e. rw e (shape_later i c))

-- The spans of a track have the shape that cutting gives.
pub shape_spans : (c : List ℕ) → Shape 0 (spans c)
unfolding spans
shape_spans c = (later_before c, shape_later 0 c)

-- An opening at the front stays when another opening is put behind.
opens_append : (g ys : List ℕ) → opens g ≡ true → opens ys ≡ true → opens (g ++ ys) ≡ true
opens_append [] ys e h = h
opens_append (x ∷ xs) ys e h = opens_seam x xs ys h ∙ e

-- Later spans joined start with an opening.
pub opens_joined : (i : ℕ) (g : List ℕ) (gs : List (List ℕ)) → Shape (suc i) (g ∷ gs) → opens (joined (g ∷ gs)) ≡ true
opens_joined i g [] h = ap opens (append-nil g) ∙ h.0.0
opens_joined i g (k ∷ gs) h = opens_append g (joined (k ∷ gs)) h.0.0 (opens_joined (suc i) k gs h.1)

-- Later spans are found again when they are joined.
pub later_joined : (i : ℕ) (gs : List (List ℕ)) → Shape (suc i) gs → later_spans (joined gs) ≡ gs
unfolding later_spans
later_joined i [] h = refl
later_joined i (g ∷ []) h = ap later_spans (append-nil g) ∙ h.0.1
later_joined i (g ∷ k ∷ gs) h =
    later_append g (joined (k ∷ gs)) (opens_joined (suc i) k gs h.1) ∙ ap₂ (λ (x y : List (List ℕ)). x ++ y) h.0.1 (later_joined (suc i) (k ∷ gs) h.1)

-- Spans of the right shape are found again when they are joined.
pub spans_joined : (g : List ℕ) (gs : List (List ℕ)) → Shape 0 (g ∷ gs) → spans (joined (g ∷ gs)) ≡ g ∷ gs
unfolding spans
spans_joined g [] h =
    ap (λ (r : List ℕ). before_opening r ∷ later_spans r) (append-nil g) ∙ ap₂ (λ (x : List ℕ) (y : List (List ℕ)). x ∷ y) (before_whole g h.0) h.0
spans_joined g (k ∷ gs) h =
    let o : opens (joined (k ∷ gs)) ≡ true = opens_joined 0 k gs h.1 in
    ap₂ (λ (x : List ℕ) (y : List (List ℕ)). x ∷ y)
    (before_append g (joined (k ∷ gs)) o ∙ before_whole g h.0)
    (later_append g (joined (k ∷ gs)) o ∙ ap₂ (λ (x y : List (List ℕ)). x ++ y) h.0 (later_joined 0 (k ∷ gs) h.1))

-- An unmarked list has no opening.
pub later_unmarked : (xs : List ℕ) → unmarked xs ≡ true → later_spans xs ≡ []
unfolding later_spans
later_unmarked [] u = refl
later_unmarked (x ∷ xs) u = rw (opens_unmarked (x ∷ xs) u) (later_unmarked xs (unmarked_right (x ∷ []) xs u))

-- An opening before an unmarked list is its only one.
pub later_opening : (xs : List ℕ) → unmarked xs ≡ true → later_spans (marked_opening ++ xs) ≡ (marked_opening ++ xs) ∷ []
unfolding later_spans before_opening opens
later_opening xs u = rw (before_whole xs (later_unmarked xs u), later_unmarked xs u)

-- A span before others that have the shape of spans,
pub shape_cons : (i : ℕ) (g : List ℕ) (gs : List (List ℕ)) → Shape i (g ∷ []) → Shape (suc i) gs → Shape i (g ∷ gs)
shape_cons zero g gs v t = (v.0, t)
shape_cons (suc i) g gs v t = (v.0, t)

-- that span alone,
pub shape_head : (i : ℕ) (g : List ℕ) (gs : List (List ℕ)) → Shape i (g ∷ gs) → Shape i (g ∷ [])
shape_head zero g gs v = (v.0, tt)
shape_head (suc i) g gs v = (v.0, tt)

-- and those behind it.
pub shape_tail : (i : ℕ) (g : List ℕ) (gs : List (List ℕ)) → Shape i (g ∷ gs) → Shape (suc i) gs
shape_tail zero g gs v = v.1
shape_tail (suc i) g gs v = v.1
