-- The span by the next mark is the span by the next opening, where no mark is stray.
use mathlib.Core.Path.{◌≡◌, refl, sym, ap, ◌∙◌}
use Prim.Native.Nat.{ℕ, zero, suc, ◌+◌, ◌-◌, ◌≤◌}
use native.Mathlib.Omega.{arith}
use mathlib.Core.Bool.{Bool, true, false}
use mathlib.Core.List.{List, [], ◌∷◌, ◌++◌, append-nil}
use lib.ListN.{length, drop, length-append, length-drop}
use lib.Seq.{take_at, take_all, drop-append-le}
use lib.Dec.{ltb}
use borrow.Author.Tests.{eq-eqb, ne_eqb}
use Rattle.format.specs.Lent.{unmarked}
use Rattle.format.specs.Opening.{opens}
use Rattle.format.specs.Span.{unmarked_run, joined, none, span_rest, runs_to_index, span_length, clean_span, clean_spans}
use Rattle.format.specs.Sector.{opening_length, is_first}
use Rattle.format.proofs.Spans.Shape.{Shape, FirstReaches}
use Rattle.base.proofs.Tests.{and_both}
use Rattle.format.proofs.Cells.Opening.{unmarked_drop, opens_front, length_opens}
use Rattle.format.proofs.Spans.Cutting.{opens_joined}

-- An unmarked list is passed before the first mark.
pub run_append : (xs ys : List ℕ) → unmarked xs ≡ true → unmarked_run (xs ++ ys) ≡ length xs + unmarked_run ys
unfolding unmarked_run unmarked
run_append [] ys u = omega arith
run_append (x ∷ xs) ys u =
    let h = and_both (ltb x 256) (unmarked xs) u in
    rw h.0 (omega (arith, run_append xs ys h.1))

-- Where nothing is marked all is passed.
pub run_whole : (xs : List ℕ) → unmarked xs ≡ true → unmarked_run xs ≡ length xs
unfolding unmarked_run
run_whole xs u = ap unmarked_run (sym (append-nil xs)) ∙ run_append xs [] u ∙ omega arith

-- Five cells of an opening stand before its first mark.
pub run_opens : (c : List ℕ) → opens c ≡ true → unmarked_run c ≡ 5
unfolding unmarked_run
run_opens c e = ap unmarked_run (opens_front c e)

-- What the span of the count with an opening of o cells at the front of c is, and does it run to index?
abbrev SpanIs : ℕ → List ℕ → List ℕ → Bool → Type 0
SpanIs o c g last = (span_length o c ≡ length g) × (span_rest o c ≡ drop o g) × (runs_to_index o c ≡ last)

-- No mark follows.
span_last : (o : ℕ) (g : List ℕ) → unmarked (drop o g) ≡ true → SpanIs o (g ++ []) g true
unfolding span_length span_rest runs_to_index
span_last o g u =
    rw (append-nil g, eq-eqb (unmarked_run (drop o g)) (length (drop o g)) (run_whole (drop o g) u))
    (refl, ap (drop o) (take_all (length g) g (omega arith)), refl)

-- An opening follows.
span_next : (o : ℕ) (g ys : List ℕ) → o ≤ length g → unmarked (drop o g) ≡ true → opens ys ≡ true → SpanIs o (g ++ ys) g false
unfolding span_length span_rest runs_to_index
span_next o g ys l u e =
    let n : unmarked_run (drop o g ++ ys) ≡ length (drop o g) + 5 = run_append (drop o g) ys u ∙ ap (λ (k : ℕ). length (drop o g) + k) (run_opens ys e) in
    let m : length (drop o g ++ ys) ≡ length (drop o g) + length ys = length-append (drop o g) ys in
    let k : 8 ≤ length ys = length_opens ys e in
    let s : o + unmarked_run (drop o g ++ ys) - 5 ≡ length g = omega (arith, length-drop o g) in
    rw (drop-append-le o g ys l, ne_eqb (unmarked_run (drop o g ++ ys)) (length (drop o g ++ ys)) (λ q. omega arith))
    (s, ap (drop o) (take_at g ys (o + unmarked_run (drop o g ++ ys) - 5) (sym s)), refl)

-- A clean span is unmarked behind its opening.
pub clean_behind : (i : ℕ) (g : List ℕ) → clean_span i g ≡ true → unmarked (drop (opening_length (is_first i)) g) ≡ true
unfolding clean_span
clean_behind zero g c = unmarked_drop 6 g c
clean_behind (suc i) g c = c

-- An opening follows a span that is not the last.
pub opens_next : (i : ℕ) (g k : List ℕ) (gs : List (List ℕ)) → Shape i (g ∷ k ∷ gs) → opens (joined (k ∷ gs)) ≡ true
opens_next zero g k gs s = opens_joined 0 k gs s.1
opens_next (suc i) g k gs s = opens_joined (suc i) k gs s.1

-- The first of the spans is what the next mark gives, where it is the last or holds its opening: its length, what follows its opening, and is it the last?
pub first_by_mark : (i : ℕ) (g : List ℕ) (gs : List (List ℕ)) → Shape i (g ∷ gs) → clean_spans i (g ∷ gs) ≡ true → FirstReaches (opening_length (is_first i)) (g ∷ gs)
    → (span_length (opening_length (is_first i)) (joined (g ∷ gs)) ≡ length g)
    × (span_rest (opening_length (is_first i)) (joined (g ∷ gs)) ≡ drop (opening_length (is_first i)) g)
    × (runs_to_index (opening_length (is_first i)) (joined (g ∷ gs)) ≡ none gs)
unfolding clean_spans
first_by_mark i g [] s c l = span_last (opening_length (is_first i)) g (clean_behind i g (and_both (clean_span i g) true c).0)
first_by_mark i g (k ∷ gs) s c l =
    span_next (opening_length (is_first i)) g (joined (k ∷ gs)) l (clean_behind i g (and_both (clean_span i g) (clean_spans (suc i) (k ∷ gs)) c).0) (opens_next i g k gs s)

-- So it is wherever it holds its opening.
pub span_agrees : (i : ℕ) (g : List ℕ) (gs : List (List ℕ)) → Shape i (g ∷ gs) → clean_spans i (g ∷ gs) ≡ true → opening_length (is_first i) ≤ length g
    → (span_length (opening_length (is_first i)) (joined (g ∷ gs)) ≡ length g)
    × (span_rest (opening_length (is_first i)) (joined (g ∷ gs)) ≡ drop (opening_length (is_first i)) g)
    × (runs_to_index (opening_length (is_first i)) (joined (g ∷ gs)) ≡ none gs)
span_agrees i g [] s c l = first_by_mark i g [] s c tt
span_agrees i g (k ∷ gs) s c l = first_by_mark i g (k ∷ gs) s c l
