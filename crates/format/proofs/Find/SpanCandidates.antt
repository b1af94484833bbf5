-- Spans that are read, cut as a track's are and clean, have exactly their sectors as candidates.
use mathlib.Core.Path.{◌≡◌, refl, sym, ap, ap₂, ◌∙◌}
use Prim.Native.Nat.{ℕ, zero, suc, ◌+◌, ◌≤◌, ◌<◌}
use native.Mathlib.Omega.{arith}
use mathlib.Core.Bool.{Bool, true, false, ◌||◌}
use mathlib.Core.List.{List, [], ◌∷◌, ◌++◌, append_assoc, append-nil}
use lib.ListN.{length, drop}
use lib.Dec.{eqb}
use borrow.Author.Tests.{eq-eqb, ne_eqb}
use Rattle.format.specs.Judged.{Judged, good}
use Rattle.format.specs.Opening.{starts_with, plain_opening, opens}
use Rattle.format.specs.Home.{Home, first_count_place}
use Rattle.format.specs.Count.{Settled}
use Rattle.format.specs.Span.{before_opening, later_spans, joined, none, clean_span, clean_spans}
use Rattle.format.specs.Sector.{Sector, opening_length, is_first, settle}
use Rattle.format.specs.Accept.{Placed, placed_rest, placed_from}
use Rattle.format.specs.Candidate.{Candidate, first_opens_at, candidate_at, count_passes, stands_at, candidates_from}
use Rattle.base.specs.Pick.{pick}
use Rattle.base.proofs.Tests.{cases, and_both}
use Rattle.format.proofs.Spans.Shape.{Shape}
use Rattle.format.proofs.Cells.Opening.{starts_with_append, opens_seam}
use Rattle.format.proofs.Spans.Cutting.{opens_joined, shape_tail}
use Rattle.format.proofs.Spans.SpanAgrees.{span_agrees}
use Rattle.format.proofs.Sector.ReadSector.{ReadAs, read_inv, read_first, span_least}
use Rattle.format.proofs.Sector.ReadsAs.{Reads, none_placed}

-- The candidates that placed sectors are to be found as.
unfoldable pub candidates_of : List Placed → List Candidate
candidates_of [] = []
candidates_of (x ∷ xs) =
    record {
      place = x.place;
      first = x.sector.first;
      last = none xs;
      rest = placed_rest x;
    }
    ∷ candidates_of xs

-- Whether an opening stands before later spans does not turn on them.
pub joined_seam : (i : ℕ) (gs : List (List ℕ)) → Shape (suc i) gs → (x : ℕ) (xs : List ℕ) → opens (x ∷ (xs ++ joined gs)) ≡ opens (x ∷ xs)
joined_seam i [] s x xs = ap (λ (r : List ℕ). opens (x ∷ r)) (append-nil xs)
joined_seam i (g ∷ gs) s x xs = opens_seam x xs (joined (g ∷ gs)) (opens_joined i g gs s)

no_opening : (x : ℕ) (xs : List ℕ) → later_spans (x ∷ xs) ≡ [] → (opens (x ∷ xs) ≡ false) × (later_spans xs ≡ [])
unfolding later_spans
no_opening x xs e =
    cases (opens (x ∷ xs))
    (λ o. let z : ((x ∷ before_opening xs) ∷ later_spans xs) ≡ [] = rw o at e in absurd (let w : ◌≡◌ {A = ℕ} 0 1 = cc in omega arith))
    (λ o. (o, rw o at e))

-- Where nothing opens there is no candidate.
pub passed_over : (h p : ℕ) (xs ys r : List ℕ) → later_spans (xs ++ ys) ≡ [] → ((x : ℕ) (zs : List ℕ) → opens (x ∷ (zs ++ r)) ≡ opens (x ∷ zs))
    → ((k : ℕ) → k < length xs → p + k ≡ first_count_place h → ⊥)
    → candidates_from (good h) p (xs ++ (ys ++ r)) ≡ candidates_from (good h) (p + length xs) (ys ++ r)
unfolding candidates_from stands_at first_opens_at
passed_over h p [] ys r l s n = ap (λ (q : ℕ). candidates_from (good h) q (ys ++ r)) (omega arith)
passed_over h p (x ∷ xs) ys r l s n =
    let d = no_opening x (xs ++ ys) l in
    let o : opens (x ∷ (xs ++ (ys ++ r))) ≡ false = ap (λ (zs : List ℕ). opens (x ∷ zs)) (sym (append_assoc xs ys r)) ∙ s x (xs ++ ys) ∙ d.0 in
    let q : eqb p (first_count_place h) ≡ false = ne_eqb p (first_count_place h) (λ w. n 0 (omega arith) (omega arith)) in
    rw (q, o)
    (passed_over h (suc p) xs ys r d.1 s (λ k b w. n (suc k) (omega arith) (omega arith))
    ∙ ap (λ (k : ℕ). candidates_from (good h) k (ys ++ r)) (omega arith))

-- The candidate x before others, if its count passes.
abbrev pub passing : Candidate → List Candidate → List Candidate
passing x xs = pick (count_passes x) (x ∷ xs) xs

candidates_nil : (h : Judged ℕ) (p : ℕ) → candidates_from h p [] ≡ []
unfolding candidates_from
candidates_nil h p = refl

-- A count that opens is a candidate if it passes.
candidate_here : (h : Judged ℕ) (p z : ℕ) (zs : List ℕ) (first : Bool) → first_opens_at h p (z ∷ zs) ≡ first → (first || opens (z ∷ zs)) ≡ true
    → candidates_from h p (z ∷ zs) ≡ passing (candidate_at first p (z ∷ zs)) (candidates_from h (suc p) zs)
unfolding candidates_from stands_at
candidate_here h p z zs first e o = rw (e, o)

-- The candidate of the span g in position i.
abbrev pub candidate_in : ℕ → ℕ → Bool → List ℕ → Candidate
candidate_in i p last g = record { place = p; first = is_first i; last = last; rest = drop (opening_length (is_first i)) g }

-- A count at the front of spans, cut as they are and clean, has its own span.
candidate_agrees : (i p : ℕ) (g : List ℕ) (gs : List (List ℕ)) → opening_length (is_first i) ≤ length g → Shape i (g ∷ gs) → clean_spans i (g ∷ gs) ≡ true
    → candidate_at (is_first i) p (joined (g ∷ gs)) ≡ candidate_in i p (none gs) g
unfolding candidate_at
candidate_agrees i p g gs l t c =
    let a = span_agrees i g gs t c l in
    rw (a.1, a.2)

-- Inside a span nothing opens behind its first cell.
span_tail : (i x : ℕ) (xs : List ℕ) (gs : List (List ℕ)) → Shape i ((x ∷ xs) ∷ gs) → later_spans xs ≡ []
unfolding later_spans
span_tail zero x xs gs s = (no_opening x xs s.0).1
span_tail (suc i) x xs gs s = let z : ((x ∷ before_opening xs) ∷ later_spans xs) ≡ (x ∷ xs) ∷ [] = rw s.0.0 at s.0.1 in cc

-- The count of a span in position i opens.
span_opens : (i : ℕ) (g : List ℕ) (gs : List (List ℕ)) → Shape i (g ∷ gs) → (is_first i || opens (joined (g ∷ gs))) ≡ true
span_opens zero g gs s = refl
span_opens (suc i) g gs s = opens_joined i g gs s

-- The place p is sector 0's in position 0, and behind it in a later position.
abbrev pub AtPosition : ℕ → ℕ → ℕ → Type 0
AtPosition zero h p = p ≡ first_count_place h
AtPosition (suc i) h p = first_count_place h < p

-- Behind a span that is not empty the next position stands further on.
pub position_next : (i h p n : ℕ) → AtPosition i h p → 0 < n → AtPosition (suc i) h (p + n)
position_next zero h p n a l = omega arith
position_next (suc i) h p n a l = omega arith

-- The count at the front is sector 0's in position 0 and in no other.
span_first : (i h p : ℕ) (g : List ℕ) (gs : List (List ℕ)) → opening_length (is_first i) ≤ length g → (i ≡ 0 → starts_with plain_opening g ≡ true) → AtPosition i h p
    → first_opens_at (good h) p (joined (g ∷ gs)) ≡ is_first i
unfolding first_opens_at
span_first zero h p g gs l o a = rw (eq-eqb p (first_count_place h) a) (starts_with_append plain_opening g (joined gs) l ∙ o refl)
span_first (suc i) h p g gs l o a = rw (ne_eqb p (first_count_place h) (λ q. omega arith))

position_past : (i h p k : ℕ) → AtPosition i h p → suc p + k ≡ first_count_place h → ⊥
position_past zero h p k a q = omega arith
position_past (suc i) h p k a q = omega arith

-- A span that is read is not empty.
pub read_some : (m : Home) (i : ℕ) (x : Settled) (last : Bool) (g : List ℕ) (s : Sector) → ReadAs m i x last g s → 0 < length g
read_some m i x true g s v = omega (arith, span_least m i x true g s v)
read_some m i x false g s v = omega (arith, span_least m i x false g s v)

-- At the front of a span whose count opens stands its candidate, if it passes, and the next one not before the next span.
pub candidates_span : (i h p : ℕ) (g : List ℕ) (gs : List (List ℕ)) → opening_length (is_first i) ≤ length g → (i ≡ 0 → starts_with plain_opening g ≡ true)
    → Shape i (g ∷ gs) → clean_spans i (g ∷ gs) ≡ true → AtPosition i h p
    → candidates_from (good h) p (joined (g ∷ gs)) ≡ passing (candidate_in i p (none gs) g) (candidates_from (good h) (p + length g) (joined gs))
candidates_span zero h p [] gs l o t c a = absurd (omega arith)
candidates_span (suc i) h p [] gs l o t c a = absurd (omega arith)
candidates_span i h p (z ∷ zs) gs l o t c a =
    let d : candidate_at (is_first i) p (z ∷ (zs ++ joined gs)) ≡ candidate_in i p (none gs) (z ∷ zs) = candidate_agrees i p (z ∷ zs) gs l t c in
    let w = passed_over h (suc p) zs [] (joined gs) (ap later_spans (append-nil zs) ∙ span_tail i z zs gs t) (joined_seam i gs (shape_tail i (z ∷ zs) gs t)) (λ k b e. position_past i h p k a e) in
    candidate_here (good h) p z (zs ++ joined gs) (is_first i) (span_first i h p (z ∷ zs) gs l o a) (span_opens i (z ∷ zs) gs t)
    ∙ ap₂ passing d (w ∙ ap (λ (k : ℕ). candidates_from (good h) k (joined gs)) (omega arith))

-- Of a span that is read it does pass.
pub candidates_read : (m : Home) (i : ℕ) (x : Settled) (h p : ℕ) (last : Bool) (g : List ℕ) (gs : List (List ℕ)) (s : Sector) → ReadAs m i x last g s
    → Shape i (g ∷ gs) → clean_spans i (g ∷ gs) ≡ true → AtPosition i h p
    → candidates_from (good h) p (joined (g ∷ gs)) ≡ candidate_in i p (none gs) g ∷ candidates_from (good h) (p + length g) (joined gs)
unfolding count_passes
candidates_read m i x h p last g gs s v t c a =
    candidates_span i h p g gs (omega (arith, span_least m i x last g s v)) v.opened t c a ∙ rw (v.count_fits_holds, v.count_closed_holds)

-- The spans of sectors, cut as they are and clean, have those sectors as candidates.
pub candidates_reads : (m : Home) (i : ℕ) (x : Settled) (h p : ℕ) (gs : List (List ℕ)) (ss : List Sector) → Reads m i x p gs ss → Shape i gs → clean_spans i gs ≡ true → AtPosition i h p
    → candidates_from (good h) p (joined gs) ≡ candidates_of (placed_from p gs ss)
unfolding candidates_of placed_from clean_spans
candidates_reads m i x h p [] [] e t c a = candidates_nil (good h) p
candidates_reads m i x h p [] (s ∷ ss) e t c a = absurd e
candidates_reads m i x h p (g ∷ gs) [] e t c a = absurd e
candidates_reads m i x h p (g ∷ gs) (s ∷ ss) e t c a =
    let v = read_inv m i x p (none gs) g s e.0 in
    let k = and_both (clean_span i g) (clean_spans (suc i) gs) c in
    rw (none_placed m (suc i) (settle x s) (p + length g) gs ss e.1, read_first m i x (none gs) g s v)
    (candidates_read m i x h p (none gs) g gs s v t c a
    ∙ ap (λ (ys : List Candidate). candidate_in i p (none gs) g ∷ ys)
    (candidates_reads m (suc i) (settle x s) h (p + length g) gs ss e.1 (shape_tail i g gs t) k.1 (position_next i h p (length g) a (read_some m i x (none gs) g s v))))
