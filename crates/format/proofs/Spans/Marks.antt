-- Answer 5 in terms of the spans: no stray mark exactly when the head is unmarked and every span is clean.
use mathlib.Core.Path.{◌≡◌, refl, sym, ap, ◌∙◌}
use Prim.Native.Nat.{ℕ, zero, suc, ◌+◌, ◌≤◌, ◌<◌}
use native.Mathlib.Omega.{arith}
use mathlib.Core.Bool.{true}
use mathlib.Core.List.{List, [], ◌∷◌, ◌++◌, append-nil, append_assoc}
use mathlib.Core.Logic.{◌⊎◌, inl, inr}
use lib.ListN.{length, take, drop, length-append, length-drop}
use lib.Seq.{take-append-le, drop-append-le}
use lib.Dec.{leb, ltb}
use borrow.Author.Tests.{le-leb, lt-leb, leb-true, leb-false}
use Rattle.format.specs.Answer.{mark_stray}
use Rattle.format.specs.Judged.{Judged, good, refused}
use Rattle.format.specs.Lent.{unmarked}
use Rattle.format.specs.Opening.{opens, marked_opening}
use Rattle.format.specs.Span.{before_opening, later_spans, spans, joined, clean_span, clean_spans}
use Rattle.format.specs.Accept.{judge_marks}
use Rattle.format.proofs.Spans.Shape.{Shape, FirstReaches}
use Rattle.format.proofs.Base.Judged.{refused-good}
use Rattle.base.proofs.Tests.{cases, and_both, and_make}
use Rattle.format.proofs.Cells.Opening.{unmarked_append, unmarked_take, unmarked_drop, opens_front, opens_unmarked, opens_seam, length_opens}
use Rattle.format.proofs.Spans.Cutting.{before_joined, before_append, before_whole, opens_joined, shape_later, later_unmarked, spans_joined}

-- Cells that belong to an opening are skipped.
pub marks_skip : (e k q : ℕ) (c : List ℕ) → judge_marks e k q c ≡ judge_marks e 0 (q + k) (drop k c)
unfolding judge_marks
marks_skip e zero q c = ap (λ (z : ℕ). judge_marks e 0 z c) (omega arith)
marks_skip e (suc k) q [] = refl
marks_skip e (suc k) q (x ∷ c) = marks_skip e k (suc q) c ∙ ap (λ (z : ℕ). judge_marks e 0 z (drop k c)) (omega arith)

-- An opening at place e or later is passed whole.
pub marks_opening : (e q : ℕ) (c : List ℕ) → e ≤ q → opens c ≡ true → judge_marks e 0 q c ≡ judge_marks e 0 (q + 8) (drop 8 c)
unfolding judge_marks
marks_opening e q [] l o = refl
marks_opening e q (x ∷ c) l o =
    rw (o, le-leb e q l) (marks_skip e 7 (suc q) c ∙ ap (λ (z : ℕ). judge_marks e 0 z (drop 7 c)) (omega arith))

-- An opening before place e is refused at its first mark.
pub marks_early : (e q : ℕ) (c : List ℕ) → q < e → opens c ≡ true → judge_marks e 0 q c ≡ refused (mark_stray (q + 5))
unfolding judge_marks opens
marks_early e q c l o =
    ap (judge_marks e 0 q) (opens_front c o) ∙ rw (lt-leb e q l) (ap {B = Judged (Unit {0})} (λ (z : ℕ). refused (mark_stray z)) (omega arith))

-- Unmarked cells before an opening are passed.
pub marks_pass : (e q : ℕ) (xs ys : List ℕ) → unmarked xs ≡ true → opens ys ≡ true → judge_marks e 0 q (xs ++ ys) ≡ judge_marks e 0 (q + length xs) ys
unfolding judge_marks unmarked
marks_pass e q [] ys u o = ap (λ (z : ℕ). judge_marks e 0 z ys) (omega arith)
marks_pass e q (x ∷ xs) ys u o =
    let h = and_both (ltb x 256) (unmarked xs) u in
    rw (opens_seam x xs ys o ∙ opens_unmarked (x ∷ xs) u, h.0)
    (marks_pass e (suc q) xs ys h.1 o ∙ ap (λ (z : ℕ). judge_marks e 0 z ys) (omega arith))

-- And so are unmarked cells up to index.
pub marks_unmarked : (e q : ℕ) (xs : List ℕ) → unmarked xs ≡ true → judge_marks e 0 q xs ≡ good tt
unfolding judge_marks unmarked
marks_unmarked e q [] u = refl
marks_unmarked e q (x ∷ xs) u =
    let h = and_both (ltb x 256) (unmarked xs) u in
    rw (opens_unmarked (x ∷ xs) u, h.0) (marks_unmarked e (suc q) xs h.1)

-- Clean later spans at place e or later have no stray mark.
clean_later : (e i q : ℕ) (gs : List (List ℕ)) → e ≤ q → Shape (suc i) gs → clean_spans (suc i) gs ≡ true → judge_marks e 0 q (joined gs) ≡ good tt
unfolding judge_marks clean_spans clean_span
clean_later e i q [] l s c = refl
clean_later e i q (g ∷ []) l s c =
    ap (judge_marks e 0 q) (append-nil g)
    ∙ marks_opening e q g l s.0.0
    ∙ marks_unmarked e (q + 8) (drop 8 g) (and_both (unmarked (drop 8 g)) true c).0
clean_later e i q (g ∷ k ∷ gs) l s c =
    let u = and_both (unmarked (drop 8 g)) (clean_spans (suc (suc i)) (k ∷ gs)) c in
    marks_opening e q (g ++ joined (k ∷ gs)) l (opens_joined i g (k ∷ gs) s)
    ∙ ap (judge_marks e 0 (q + 8)) (drop-append-le 8 g (joined (k ∷ gs)) (length_opens g s.0.0))
    ∙ marks_pass e (q + 8) (drop 8 g) (joined (k ∷ gs)) u.0 (opens_joined (suc i) k gs s.1)
    ∙ clean_later e (suc i) (q + 8 + length (drop 8 g)) (k ∷ gs) (omega arith) s.1 u.1

-- An unmarked head and clean spans, the first of which reaches place e, have no stray mark.
pub clean_marks : (e : ℕ) (xs : List ℕ) (gs : List (List ℕ)) → e ≡ length xs + 18 → unmarked xs ≡ true → Shape 0 gs → clean_spans 0 gs ≡ true → FirstReaches 18 gs
    → judge_marks e 0 0 (xs ++ joined gs) ≡ good tt
unfolding clean_spans clean_span
clean_marks e xs [] q u s c f = ap (judge_marks e 0 0) (append-nil xs) ∙ marks_unmarked e 0 xs u
clean_marks e xs (g ∷ []) q u s c f =
    ap (λ (r : List ℕ). judge_marks e 0 0 (xs ++ r)) (append-nil g)
    ∙ marks_unmarked e 0 (xs ++ g) (unmarked_append xs g u (and_both (unmarked g) true c).0)
clean_marks e xs (g ∷ k ∷ gs) q u s c f =
    let v = and_both (unmarked g) (clean_spans 1 (k ∷ gs)) c in
    ap (judge_marks e 0 0) (sym (append_assoc xs g (joined (k ∷ gs))))
    ∙ marks_pass e 0 (xs ++ g) (joined (k ∷ gs)) (unmarked_append xs g u v.0) (opens_joined 0 k gs s.1)
    ∙ clean_later e 0 (0 + length (xs ++ g)) (k ∷ gs) (omega (arith, length-append xs g)) s.1 v.1

-- Where no mark is stray, nothing before the first opening is marked, and that one does not start before place e.
marks_before : (e q : ℕ) (c : List ℕ) → judge_marks e 0 q c ≡ good tt
    → (unmarked (before_opening c) ≡ true) × ((later_spans c ≡ []) ⊎ (e ≤ q + length (before_opening c)))
unfolding judge_marks unmarked before_opening later_spans
marks_before e q [] h = (refl, inl refl)
marks_before e q (x ∷ c) h =
    cases (opens (x ∷ c))
    (λ o. rw o (refl, inr (early o)))
    (λ o. cases (ltb x 256)
    (λ u. let ih = marks_before e (suc q) c (rw (o, u) at h) in rw o (and_make u ih.0, further ih.1))
    (λ u. refused-good _ _ (rw (o, u) at h)))
  where
    early : opens (x ∷ c) ≡ true → e ≤ q + 0
    early o = cases (leb e q)
        (λ l. omega (arith, leb-true e q l))
        (λ l. refused-good _ _ (sym (marks_early e q (x ∷ c) (leb-false e q l) o) ∙ h))

    further : (later_spans c ≡ []) ⊎ (e ≤ suc q + length (before_opening c)) → (later_spans c ≡ []) ⊎ (e ≤ q + suc (length (before_opening c)))
    further (inl z) = inl z
    further (inr l) = inr (omega arith)

-- Behind its opening a later span has no other.
later_behind : (g : List ℕ) → opens g ≡ true → later_spans g ≡ g ∷ [] → later_spans (drop 8 g) ≡ []
unfolding later_spans before_opening opens
later_behind g o e = go (drop 8 g) (opens_front g o) e
  where
    go : (r : List ℕ) → g ≡ marked_opening ++ r → later_spans g ≡ g ∷ [] → later_spans r ≡ []
    go r s h = let k : later_spans (marked_opening ++ r) ≡ g ∷ [] = ap later_spans (sym s) ∙ h in cc

-- Where no mark is stray, later spans at place e or later are clean.
later_clean : (e i q : ℕ) (gs : List (List ℕ)) → e ≤ q → Shape (suc i) gs → judge_marks e 0 q (joined gs) ≡ good tt → clean_spans (suc i) gs ≡ true
unfolding clean_spans clean_span
later_clean e i q [] l s h = refl
later_clean e i q (g ∷ []) l s h =
    let b : before_opening (drop 8 g) ≡ drop 8 g = before_whole (drop 8 g) (later_behind g s.0.0 s.0.1) in
    let j : judge_marks e 0 (q + 8) (drop 8 g) ≡ good tt = sym (marks_opening e q g l s.0.0) ∙ ap (judge_marks e 0 q) (sym (append-nil g)) ∙ h in
    and_make (rw b at (marks_before e (q + 8) (drop 8 g) j).0) refl
later_clean e i q (g ∷ k ∷ gs) l s h =
    let r : List ℕ = joined (k ∷ gs) in
    let o : opens r ≡ true = opens_joined (suc i) k gs s.1 in
    let b : before_opening (drop 8 g ++ r) ≡ drop 8 g = before_append (drop 8 g) r o ∙ before_whole (drop 8 g) (later_behind g s.0.0 s.0.1) in
    let j : judge_marks e 0 (q + 8) (drop 8 g ++ r) ≡ good tt =
    ap (judge_marks e 0 (q + 8)) (sym (drop-append-le 8 g r (length_opens g s.0.0)))
    ∙ sym (marks_opening e q (g ++ r) l (opens_joined i g (k ∷ gs) s)) ∙ h in
    let u : unmarked (drop 8 g) ≡ true = ap unmarked (sym b) ∙ (marks_before e (q + 8) (drop 8 g ++ r) j).0 in
    and_make u (later_clean e (suc i) (q + 8 + length (drop 8 g)) (k ∷ gs) (omega arith) s.1 (sym (marks_pass e (q + 8) (drop 8 g) r u o) ∙ j))

-- The head of n cells is unmarked, the spans behind it are clean, and the first of them reaches 18 cells where another follows.
abbrev CleanAt : ℕ → List ℕ → Type 0
CleanAt n c = (unmarked (take n c) ≡ true) × (clean_spans 0 (spans (drop n c)) ≡ true) × FirstReaches 18 (spans (drop n c))

-- So it is where nothing is marked.
unmarked_clean : (n : ℕ) (c : List ℕ) → unmarked c ≡ true → CleanAt n c
unfolding spans clean_spans clean_span
unmarked_clean n c u =
    let v : unmarked (drop n c) ≡ true = unmarked_drop n c u in
    let z : later_spans (drop n c) ≡ [] = later_unmarked (drop n c) v in
    rw (z, before_whole (drop n c) z) (unmarked_take n c u, and_make v refl, tt)

-- And where no mark is stray, b stands before the first opening, and k is the span that starts with it.
split_clean : (e n : ℕ) (b : List ℕ) (k : List ℕ) (gs : List (List ℕ)) → e ≡ n + 18 → Shape 1 (k ∷ gs) → unmarked b ≡ true → e ≤ length b
    → judge_marks e 0 0 (b ++ joined (k ∷ gs)) ≡ good tt → CleanAt n (b ++ joined (k ∷ gs))
unfolding clean_spans clean_span
split_clean e n b k gs q s u l h =
    let r : List ℕ = joined (k ∷ gs) in
    let m : n ≤ length b = omega arith in
    let v : unmarked (drop n b) ≡ true = unmarked_drop n b u in
    let c : clean_spans 1 (k ∷ gs) ≡ true = later_clean e 0 (0 + length b) (k ∷ gs) (omega arith) s (sym (marks_pass e 0 b r u (opens_joined 0 k gs s)) ∙ h) in
    rw (take-append-le n b r m, drop-append-le n b r m, spans_joined (drop n b) (k ∷ gs) (later_unmarked (drop n b) v, s))
    (unmarked_take n b u, and_make v c, omega (arith, length-drop n b))

-- Where no mark is stray, the head of n cells is unmarked, the spans behind it are clean, and the first of them reaches place e.
pub marks_clean : (e n : ℕ) (c : List ℕ) → e ≡ n + 18 → judge_marks e 0 0 c ≡ good tt
    → (unmarked (take n c) ≡ true) × (clean_spans 0 (spans (drop n c)) ≡ true) × FirstReaches 18 (spans (drop n c))
marks_clean e n c q h = go (later_spans c) refl (marks_before e 0 c h)
  where
    go : (gs : List (List ℕ)) → later_spans c ≡ gs → (unmarked (before_opening c) ≡ true) × ((later_spans c ≡ []) ⊎ (e ≤ 0 + length (before_opening c))) → CleanAt n c
    go [] z p = unmarked_clean n c (rw (before_whole c z) at p.0)
    go (k ∷ gs) z (u, inl w) = absurd (let y : ◌≡◌ {A = ℕ} 0 1 = cc in omega arith)
    go (k ∷ gs) z (u, inr l) =
        let whole : before_opening c ++ joined (k ∷ gs) ≡ c = ap (λ (x : List (List ℕ)). before_opening c ++ joined x) (sym z) ∙ before_joined c in
        rw whole at (split_clean e n (before_opening c) k gs q (rw z at (shape_later 0 c)) u (omega arith) (ap (judge_marks e 0 0) whole ∙ h))
