-- Laws of what stands behind a later count: no count opens before the end of its span.
use mathlib.Core.Path.{◌≡◌, refl, sym, ap, ap₂, ◌∙◌}
use Prim.Native.Nat.{ℕ, zero, suc, ◌+◌, ◌-◌, ◌≤◌, ◌<◌}
use native.Mathlib.Omega.{arith}
use mathlib.Core.Bool.{true, false, ◌&&◌}
use mathlib.Core.List.{List, [], ◌∷◌}
use Rattle.std.specs.Prelude.{Option, Some, None, is_some}
use lib.Dec.{leb, eqb}
use lib.ListN.{length, take, drop, length-drop}
use lib.Seq.{drop-drop}
use borrow.Author.Tests.{leb-true, leb-false, eqb-true}
use Rattle.base.specs.Pick.{pick}
use Rattle.format.specs.Answer.{Answer, home_missing}
use Rattle.format.specs.Judged.{Judged, refused}
use Rattle.format.specs.Opening.{opens}
use Rattle.format.specs.Span.{unmarked_run, runs_to_index, span_length}
use Rattle.format.specs.Count.{count_fits, count_closed}
use Rattle.format.specs.Candidate.{Candidate, first_opens_at, candidate_at, count_passes, stands_at, candidates_from}
use Rattle.base.proofs.Tests.{cases, and_both}
use Rattle.format.proofs.Cells.Opening.{length_opens, opening_alone}
use Rattle.format.proofs.Find.CandidateBytes.{span_rest_length}
use Rattle.search.specs.Place.{judged_place, InWindow}
use Rattle.search.proofs.Jump.{no_opening, no_opening_left, run_drop}
use Rattle.reader.specs.Finding.{standing_at}
use Rattle.reader.proofs.CandidateNext.{candidates_at}
use Rattle.reader.proofs.CandidatePlaces.{FirstElsewhere, candidates_past, first_nowhere, first_outside}

-- No opening starts within another,
within_opening : (c : List ℕ) (i : ℕ) → opens c ≡ true → 0 < i → i < 8 → opens (drop i c) ≡ false
within_opening [] i o l u = absurd (omega (arith, length_opens [] o))
within_opening (x ∷ c) zero o l u = absurd (omega arith)
within_opening (x ∷ c) (suc i) o l u = cases (opens (drop i c)) (λ e. absurd (opening_alone x c o i (omega arith) e)) (λ e. e)

-- nor between it and the end of its span,
past_opening : (c : List ℕ) (i : ℕ) → 8 + i < span_length 8 c → opens (drop i (drop 8 c)) ≡ false
unfolding span_length runs_to_index
past_opening c i u =
    let d : List ℕ = drop 8 c in
    cases (eqb (unmarked_run d) (length d))
    (λ e.
    let l : 8 + i < length c = rw e at u in
    let r : unmarked_run d ≡ length d = eqb-true (unmarked_run d) (length d) e in
    no_opening_left (drop i d) (omega (arith, length-drop 8 c, length-drop i d, run_drop i d (omega (arith, length-drop 8 c)))))
    (λ e.
    let l : 8 + i < 8 + unmarked_run d - 5 = rw e at u in
    no_opening (drop i d) (λ f. omega (arith, run_drop i d (omega arith))))

-- so none stands at a place of its span behind its own.
span_closed : (c : List ℕ) (i : ℕ) → opens c ≡ true → 0 < i → i < span_length 8 c → opens (drop i c) ≡ false
span_closed c i o l u =
    cases (leb 8 i)
    (λ e.
    let k : 8 + (i - 8) ≡ i = omega (arith, leb-true 8 i e) in
    ap opens (sym (drop-drop (i - 8) 8 c ∙ ap (λ (j : ℕ). drop j c) k)) ∙ past_opening c (i - 8) (omega arith))
    (λ e. within_opening c i o l (omega (arith, leb-false 8 i e)))

-- The candidates behind the opening at place p are those from the end of its span on, where sector 0's count does not open before that.
past_span : (h : Judged ℕ) (p n : ℕ) (c : List ℕ) → opens (drop p c) ≡ true → n ≡ span_length 8 (drop p c) → 0 < n → FirstElsewhere h (p + 1) (p + n)
    → candidates_at h (p + 1) c ≡ candidates_at h (p + n) c
past_span h p n c o e l f =
    let k : p + 1 + (n - 1) ≡ p + n = omega arith in
    candidates_past h (n - 1) (p + 1) (drop (p + 1) c) closed (λ s b i u. f s b i (omega arith))
    ∙ ap (candidates_from h (p + 1 + (n - 1))) (drop-drop (n - 1) (p + 1) c)
    ∙ ap (λ (q : ℕ). candidates_from h q (drop q c)) k
  where
    closed : (i : ℕ) → i < n - 1 → opens (drop i (drop (p + 1) c)) ≡ false
    closed i u =
        let j : p + 1 + i ≡ p + suc i = omega arith in
        ap opens (drop-drop i (p + 1) c ∙ ap (λ (q : ℕ). drop q c) j ∙ sym (drop-drop (suc i) p c))
        ∙ span_closed (drop p c) (suc i) o (omega arith) (omega arith)

-- Where an opening stands one cell before place p, the candidates of a track without home from there on are those behind the opening.
pub past_opening_cells : (a : Answer) (p : ℕ) (c : List ℕ) → 0 < p → opens (drop (p - 1) c) ≡ true → candidates_at (refused a) p c ≡ candidates_at (refused a) (p + 7) c
past_opening_cells a p c l o =
    candidates_past (refused a) 7 p (drop p c) closed (first_nowhere a p (p + 7)) ∙ ap (candidates_from (refused a) (p + 7)) (drop-drop 7 p c)
  where
    closed : (i : ℕ) → i < 7 → opens (drop i (drop p c)) ≡ false
    closed i u =
        let j : p + i ≡ p - 1 + suc i = omega arith in
        ap opens (drop-drop i p c ∙ ap (λ (q : ℕ). drop q c) j ∙ sym (drop-drop (suc i) (p - 1) c))
        ∙ within_opening (drop (p - 1) c) (suc i) o (omega arith) (omega arith)

-- The same of a home that was not found.
pub past_opening_absent : (h : Option ℕ) (p : ℕ) (c : List ℕ) → is_some h ≡ false → 0 < p → opens (drop (p - 1) c) ≡ true
    → candidates_at (judged_place h) p c ≡ candidates_at (judged_place h) (p + 7) c
past_opening_absent (Some q) p c n l o = cc
past_opening_absent None p c n l o = past_opening_cells home_missing p c l o

-- The first of the candidates of c, which starts at place p, stands at its place.
first_stands : (h : Judged ℕ) (p : ℕ) (c : List ℕ) (x : Candidate) → x ∷ [] ≡ take 1 (candidates_from h p c)
    → (p ≤ x.place) × (x ∷ [] ≡ standing_at h x.place (drop (x.place - p) c))
unfolding candidates_from standing_at candidate_at
first_stands h p [] x e = cc
first_stands h p (y ∷ c) x e =
    cases (stands_at h p (y ∷ c))
    (λ s. let z : Candidate = candidate_at (first_opens_at h p (y ∷ c)) p (y ∷ c) in
    let q : x ∷ [] ≡ z ∷ [] = rw s at e in
    let i : x ≡ z = cc in
    let l : x.place ≡ p = ap (λ (w : Candidate). w.place) i in
    let k : x.place - p ≡ 0 = omega arith in
    let g : z ∷ [] ≡ standing_at h p (y ∷ c) = rw s in
    (omega arith, q ∙ g ∙ sym (ap₂ (λ (a b : ℕ). standing_at h a (drop b (y ∷ c))) l k)))
    (λ s. let r = first_stands h (suc p) c x (rw s at e) in
    let k : x.place - p ≡ suc (x.place - suc p) = omega (arith, r.0) in
    (omega (arith, r.0), r.1 ∙ sym (ap (λ (b : ℕ). standing_at h x.place (drop b (y ∷ c))) k)))

-- A later count that stands at the front of c opens there, and its span holds what follows the opening.
abbrev Later : List ℕ → Candidate → Type 0
Later c x = (opens c ≡ true) × (12 ≤ length x.rest) × (length x.rest ≡ span_length 8 c - 8)

later_is : (p : ℕ) (c : List ℕ) (x : Candidate) → (opens c && count_passes (candidate_at false p c)) ≡ true → x ≡ candidate_at false p c → Later c x
unfolding candidate_at count_passes count_fits
later_is p c x s i =
    let y : Candidate = candidate_at false p c in
    let k = and_both (opens c) (count_passes y) s in
    let m = and_both (count_fits y.rest) (count_closed y.rest) k.1 in
    let l : length x.rest ≡ length y.rest = ap (λ (w : Candidate). length w.rest) i in
    (k.0, omega (arith, leb-true 12 (length y.rest) m.0), l ∙ span_rest_length 8 c)

later_stands : (h : Judged ℕ) (p : ℕ) (c : List ℕ) (x : Candidate) → first_opens_at h p c ≡ false → x ∷ [] ≡ standing_at h p c → Later c x
unfolding standing_at stands_at
later_stands h p c x f e =
    let y : Candidate = candidate_at false p c in
    let a : x ∷ [] ≡ pick (opens c && count_passes y) (y ∷ []) [] = rw f at e in
    cases (opens c && count_passes y)
    (λ s. let b : x ∷ [] ≡ y ∷ [] = rw s at a in later_is p c x s (cc))
    (λ s. let b : x ∷ [] ≡ [] = rw s at a in cc)

-- Sector 0's count opens at no place behind the last one of home's window.
first_before : (f : Option ℕ) (p r : ℕ) → InWindow f → 62 < p → FirstElsewhere (judged_place f) p r
first_before (Some h) p r w l = first_outside h p r (λ i u. omega (arith, w.1))
first_before None p r w l = first_nowhere home_missing p r

-- The first candidate from place p on is x.
module _ (f : Option ℕ) (p : ℕ) (c : List ℕ) (x : Candidate) (w : InWindow f) (e : x ∷ [] ≡ take 1 (candidates_at (judged_place f) p c)) where
  later_here : 62 < x.place → Later (drop x.place c) x
  later_here l =
      let h = judged_place f in
      let r = first_stands h p (drop p c) x e in
      let k : p + (x.place - p) ≡ x.place = omega (arith, r.0) in
      let d : drop (x.place - p) (drop p c) ≡ drop x.place c = drop-drop (x.place - p) p c ∙ ap (λ (j : ℕ). drop j c) k in
      later_stands h x.place (drop x.place c) x
      (first_before f x.place (suc x.place) w l x.place (drop x.place c) (omega arith) (omega arith))
      (r.1 ∙ ap (standing_at h x.place) d)

  past_later : 62 < x.place → candidates_at (judged_place f) (x.place + 1) c ≡ candidates_at (judged_place f) (x.place + 8 + length x.rest) c
  past_later l =
      let v = later_here l in
      let n : x.place + span_length 8 (drop x.place c) ≡ x.place + 8 + length x.rest = omega (arith, v.1, v.2) in
      past_span (judged_place f) x.place (span_length 8 (drop x.place c)) c v.0 refl (omega (arith, v.1, v.2))
      (first_before f (x.place + 1) (x.place + span_length 8 (drop x.place c)) w (omega arith))
      ∙ ap (λ (q : ℕ). candidates_at (judged_place f) q c) n

  -- Those behind it are those from place r on: the end of its span behind the last place of sector 0's count, and else the next place.
  pub candidates_behind : (r n : ℕ) → n ≡ length x.rest → r ≡ pick (leb x.place 62) (x.place + 1) (x.place + 8 + n)
      → (x.place < r) × (candidates_at (judged_place f) (x.place + 1) c ≡ candidates_at (judged_place f) r c)
  candidates_behind r n m q =
      cases (leb x.place 62)
      (λ b. let k : r ≡ x.place + 1 = rw b at q in (omega arith, ap (λ (j : ℕ). candidates_at (judged_place f) j c) (sym k)))
      (λ b. let k : r ≡ x.place + 8 + n = rw b at q in
      let j : x.place + 8 + length x.rest ≡ r = omega arith in
      (omega arith, past_later (omega (arith, leb-false x.place 62 b)) ∙ ap (λ (i : ℕ). candidates_at (judged_place f) i c) j))
