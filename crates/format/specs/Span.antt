-- The span of a count: on any track by the next mark, and all spans of a track whose marks are those of whole openings.
use Rattle.std.specs.Prelude.{ℕ, zero, suc, ◌+◌, ◌-◌, Bool, true, false, ◌&&◌, List, [], ◌∷◌, ◌++◌, length, take, drop, ltb, eqb}
use Rattle.base.specs.Pick.{pick}
use Rattle.format.specs.Layout.{marked_length}
use Rattle.format.specs.Lent.{unmarked}
use Rattle.format.specs.Opening.{opens}

-- How many cells stand before the first marked one.
unfoldable pub unmarked_run : List ℕ → ℕ
unmarked_run [] = 0
unmarked_run (x ∷ c) = let n = unmarked_run c in pick (ltb x 256) (suc n) 0

-- No mark follows the opening of o cells at the front of c: its span runs to index.
unfoldable pub runs_to_index : ℕ → List ℕ → Bool
runs_to_index o c = eqb (unmarked_run (drop o c)) (length (drop o c))

-- The length of its span: to five cells before the next mark after the opening, or to index if none follows.
unfoldable pub span_length : ℕ → List ℕ → ℕ
span_length o c = pick (runs_to_index o c) (length c) (o + unmarked_run (drop o c) - 5)

-- The rest of a span: what follows its count's opening.
unfoldable pub span_rest : ℕ → List ℕ → List ℕ
span_rest o c = drop o (take (span_length o c) c)

-- The cells before the first marked opening.
unfoldable pub before_opening : List ℕ → List ℕ
before_opening [] = []
before_opening (x ∷ c) = let r = before_opening c in pick (opens (x ∷ c)) [] (x ∷ r)

-- The cells from each marked opening up to the next one or to index.
unfoldable pub later_spans : List ℕ → List (List ℕ)
later_spans [] = []
later_spans (x ∷ c) = let r = later_spans c in pick (opens (x ∷ c)) ((x ∷ before_opening c) ∷ r) r

-- A track from sector 0's count on, cut at its marked openings.
unfoldable pub spans : List ℕ → List (List ℕ)
spans c = before_opening c ∷ later_spans c

-- Spans joined again.
abbrev pub joined : List (List ℕ) → List ℕ
joined [] = []
joined (g ∷ gs) = g ++ joined gs

-- The list is empty.
abbrev pub none : {A : Type 0} → List A → Bool
none [] = true
none (x ∷ xs) = false

-- No mark of the span in position i stands outside its opening.
unfoldable pub clean_span : ℕ → List ℕ → Bool
clean_span zero g = unmarked g
clean_span (suc i) g = unmarked (drop marked_length g)

-- The same of the spans gs, the first of which stands in position i.
unfoldable pub clean_spans : ℕ → List (List ℕ) → Bool
clean_spans i [] = true
clean_spans i (g ∷ gs) = clean_span i g && clean_spans (suc i) gs
