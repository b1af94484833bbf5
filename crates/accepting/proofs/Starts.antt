-- The places of the marked openings: from mark to mark, and as the places of the spans.
use mathlib.Core.Path.{◌≡◌, refl, sym, ap, ap₂, ◌∙◌}
use Prim.Native.Nat.{ℕ, zero, suc, ◌+◌, ◌≤◌}
use native.Mathlib.Omega.{arith}
use mathlib.Core.Bool.{true, false}
use mathlib.Core.List.{List, [], ◌∷◌}
use lib.ListN.{length, drop}
use lib.Dec.{ltb}
use Rattle.format.specs.Answer.{mark_stray}
use Rattle.format.specs.Judged.{Judged, good, refused, answer_of}
use Rattle.format.specs.Opening.{opens}
use Rattle.format.specs.Span.{unmarked_run, before_opening, later_spans}
use Rattle.format.specs.Accept.{judge_marks}
use Rattle.base.proofs.Tests.{cases}
use Rattle.format.proofs.Cells.Opening.{opens_front}
use Rattle.format.proofs.Spans.Marks.{marks_early}
use Rattle.search.proofs.Jump.{no_opening, no_opening_left, run_nil, run_on, run_off}
use Rattle.accepting.specs.Starts.{starts_in, starts_of}

-- A place at which no opening stands is passed.
starts_pass : (q x : ℕ) (c : List ℕ) → opens (x ∷ c) ≡ false → starts_in q (x ∷ c) ≡ starts_in (suc q) c
unfolding starts_in
starts_pass q x c o = rw o

-- Places are passed up to five before the next mark.
pub starts_jump : (q n : ℕ) (c : List ℕ) → n + 5 ≤ unmarked_run c → starts_in q c ≡ starts_in (q + n) (drop n c)
starts_jump q zero c h = ap (λ (z : ℕ). starts_in z c) (omega arith)
starts_jump q (suc n) [] h = absurd (omega (arith, run_nil))
starts_jump q (suc n) (x ∷ c) h =
    cases (ltb x 256)
    (λ u.
    starts_pass q x c (no_opening (x ∷ c) (λ f. omega arith))
    ∙ starts_jump (suc q) n c (omega (arith, run_on x c u))
    ∙ ap (λ (z : ℕ). starts_in z (drop n c)) (omega arith))
    (λ u. absurd (omega (arith, run_off x c u)))

-- Without another mark there is none.
pub starts_none : (q : ℕ) (c : List ℕ) → unmarked_run c ≡ length c → starts_in q c ≡ []
unfolding starts_in
starts_none q [] h = refl
starts_none q (x ∷ c) h =
    cases (ltb x 256)
    (λ u. starts_pass q x c (no_opening_left (x ∷ c) h) ∙ starts_none (suc q) c (omega (arith, run_on x c u)))
    (λ u. absurd (omega (arith, run_off x c u)))

-- Behind an opening the next one starts eight cells on at the earliest.
pub starts_opening : (q : ℕ) (c : List ℕ) → opens c ≡ true → starts_in q c ≡ q ∷ starts_in (q + 8) (drop 8 c)
unfolding starts_in opens
starts_opening q c o =
    ap (starts_in q) (opens_front c o) ∙ ap (λ (z : ℕ). q ∷ starts_in z (drop 8 c)) (omega arith)

-- Where no mark is stray and no opening stands at place q, no mark is stray behind it.
good_next : (e q x : ℕ) (c : List ℕ) → opens (x ∷ c) ≡ false → judge_marks e 0 q (x ∷ c) ≡ good tt → judge_marks e 0 (suc q) c ≡ good tt
unfolding judge_marks
good_next e q x c o h =
    cases (ltb x 256)
    (λ u. rw (o, u) at h)
    (λ u.
    let r : refused (mark_stray q) ≡ good tt = rw (o, u) at h in
    absurd (let z : ◌≡◌ {A = ℕ} 5 0 = ap (λ (j : Judged (Unit {0})). (answer_of j).number) r in omega arith))

-- Where no mark is stray, no opening starts before place e.
pub starts_late : (e q k : ℕ) (c : List ℕ) → judge_marks e 0 q c ≡ good tt → q + k ≤ e → starts_in q c ≡ starts_in (q + k) (drop k c)
unfolding starts_in
starts_late e q zero c h l = ap (λ (z : ℕ). starts_in z c) (omega arith)
starts_late e q (suc k) [] h l = refl
starts_late e q (suc k) (x ∷ c) h l =
    let no : opens (x ∷ c) ≡ false =
    cases (opens (x ∷ c))
    (λ o. absurd (let z : ◌≡◌ {A = ℕ} 5 0 = ap (λ (j : Judged (Unit {0})). (answer_of j).number) (sym (marks_early e q (x ∷ c) (omega arith) o) ∙ h) in omega arith))
    (λ o. o) in
    starts_pass q x c no
    ∙ starts_late e (suc q) k c (good_next e q x c no h) (omega arith)
    ∙ ap (λ (z : ℕ). starts_in z (drop k c)) (omega arith)

-- The marked openings stand where the spans start.
pub starts_spans : (q : ℕ) (c : List ℕ) → starts_in q c ≡ starts_of (q + length (before_opening c)) (later_spans c)
unfolding starts_in starts_of before_opening later_spans
starts_spans q [] = refl
starts_spans q (x ∷ c) =
    let next = starts_spans (suc q) c in
    cases (opens (x ∷ c))
    (λ o.
    rw (o, next)
    (ap₂ (λ (y z : ℕ). y ∷ starts_of z (later_spans c)) {x = q} {y = q + 0} {u = suc q + length (before_opening c)} {v = q + 0 + suc (length (before_opening c))} (omega arith) (omega arith)))
    (λ o. rw (o, next) (ap (λ (z : ℕ). starts_of z (later_spans c)) (omega arith)))
