-- The spans of what is left of a track: the first one by the next mark, and what is left behind it.
use mathlib.Core.Path.{◌≡◌, refl, sym, ap, ap₂, ◌∙◌}
use Prim.Native.Nat.{ℕ, suc, ◌+◌, ◌-◌, ◌≤◌, ◌<◌}
use native.Mathlib.Omega.{arith}
use mathlib.Core.Bool.{true}
use mathlib.Core.List.{List, [], ◌∷◌, ◌++◌}
use lib.ListN.{length, get_or, take, drop, length-append, length-drop}
use lib.Dec.{leb}
use borrow.Author.Tests.{lt-leb}
use lib.Seq.{drop_at}
use Rattle.format.specs.Lent.{cells}
use Rattle.format.specs.Span.{span_length, span_rest, before_opening, later_spans, joined, none, clean_span, clean_spans}
use Rattle.base.proofs.Tests.{and_both}
use Rattle.base.proofs.Lists.{none_long, part_all}
use Rattle.format.proofs.Spans.Shape.{Shape}
use Rattle.format.proofs.Cells.Opening.{length_opens}
use Rattle.format.proofs.Spans.Cutting.{before_joined, shape_later, later_joined}
use Rattle.format.proofs.Spans.SpanAgrees.{span_agrees}
use Rattle.format.proofs.Track.Pairs.{length_cells, drop_cells}
use Rattle.format.proofs.Find.CandidateBytes.{span_rest_bytes}
use Rattle.accepting.specs.Starts.{starts_of}
use Rattle.accepting.specs.Accepting.{LaterSpans}

-- In a later position a span is clean as in any other.
clean_two : (i j : ℕ) (gs : List (List ℕ)) → clean_spans (suc i) gs ≡ clean_spans (suc j) gs
unfolding clean_spans clean_span
clean_two i j [] = refl
clean_two i j (g ∷ gs) = rw (clean_two (suc i) (suc j) gs)

-- The first span of what is left from place p on, of n cells, where ns lists the places of the spans.
pub record Front (p n : ℕ) (t m ns : List ℕ) : Type 0 where
  pub span : List ℕ
  pub later : List (List ℕ)
  pub cut : later_spans (cells t m) ≡ span ∷ later
  pub size : length span ≡ n
  pub opening : 8 ≤ n
  pub fits : n ≤ length t
  pub bytes : take (n - 8) (drop 8 t) ≡ drop 8 span
  pub last : leb (length ns) 1 ≡ none later
  pub listed : 1 ≤ length ns
  pub later_cut : later_spans (cells (drop n t) (drop n m)) ≡ later
  pub rest : LaterSpans (p + n) (drop n t) (drop n m) (drop 1 ns)

-- Where the next span starts: by the list, or index.
next_listed : (p l : ℕ) (g : List ℕ) (gs : List (List ℕ)) → length (g ++ joined gs) ≡ l → get_or (starts_of p (g ∷ gs)) 1 (p + l) ≡ p + length g
unfolding starts_of
next_listed p l g [] e = omega (arith, length-append g [])
next_listed p l g (k ∷ gs) e = refl

-- Nothing follows the first span exactly where no more than one is listed.
last_listed : (p : ℕ) (g : List ℕ) (gs : List (List ℕ)) → leb (length (starts_of p (g ∷ gs))) 1 ≡ none gs
unfolding starts_of
last_listed p g [] = refl
last_listed p g (k ∷ gs) = lt-leb (length (starts_of p (g ∷ k ∷ gs))) 1 (omega arith)

-- At least one is.
one_listed : (p : ℕ) (g : List ℕ) (gs : List (List ℕ)) → 1 ≤ length (starts_of p (g ∷ gs))
unfolding starts_of
one_listed p g gs = omega arith

-- The list without the first is that of the other spans.
rest_listed : (p : ℕ) (g : List ℕ) (gs : List (List ℕ)) → drop 1 (starts_of p (g ∷ gs)) ≡ starts_of (p + length g) gs
unfolding starts_of
rest_listed p g gs = refl

-- Nothing stands before later spans that are joined.
pub before_later : (i : ℕ) (gs : List (List ℕ)) → Shape (suc i) gs → before_opening (joined gs) ≡ []
before_later i gs s = none_long (before_opening d) (omega (arith, ap length whole, length-append (before_opening d) d))
  where
    d : List ℕ
    d = joined gs

    whole : before_opening d ++ d ≡ d
    whole = ap (λ (ks : List (List ℕ)). before_opening d ++ joined ks) (sym (later_joined i gs s)) ∙ before_joined d

-- What is left of a track, if anything, starts with a span.
module _ (p : ℕ) (t m ns : List ℕ) (n : ℕ) (r : LaterSpans p t m ns) (e : n ≡ get_or ns 1 (p + length t) - p) where
  first_span : (g : List ℕ) (gs : List (List ℕ)) → later_spans (cells t m) ≡ g ∷ gs → Front p n t m ns
  unfolding clean_spans
  first_span g gs z =
      let c : List ℕ = cells t m in
      let whole : g ++ joined gs ≡ c =
      ap₂ (λ (xs : List ℕ) (ks : List (List ℕ)). xs ++ joined ks) (sym r.opened) (sym z) ∙ before_joined c in
      let shape : Shape 1 (g ∷ gs) = rw z at (shape_later 0 c) in
      let clean : clean_spans 1 (g ∷ gs) ≡ true = ap (clean_spans 1) (sym z) ∙ r.clean in
      let eight : 8 ≤ length g = length_opens g shape.0.0 in
      let a = span_agrees 1 g gs shape clean eight in
      let places : ns ≡ starts_of p (g ∷ gs) = r.places ∙ ap (starts_of p) z in
      let next : get_or ns 1 (p + length t) ≡ p + length g =
      ap (λ (l : List ℕ). get_or l 1 (p + length t)) places ∙ next_listed p (length t) g gs (ap length whole ∙ omega (arith, length_cells t m, r.lengths)) in
      let size : length g ≡ n = omega arith in
      let by-mark : n ≡ span_length 8 c = sym (ap (span_length 8) (sym whole) ∙ a.0 ∙ size) in
      let fits : n ≤ length t = omega (arith, ap length whole, length-append g (joined gs), length_cells t m, r.lengths) in
      let behind : cells (drop n t) (drop n m) ≡ joined gs = sym (drop_cells n t m) ∙ ap (drop n) (sym whole) ∙ drop_at g (joined gs) n size in
      let cut : later_spans (cells (drop n t) (drop n m)) ≡ gs = ap later_spans behind ∙ later_joined 1 gs shape.1 in
      record {
        span = g;
        later = gs;
        cut = z;
        size = size;
        opening = omega arith;
        fits = fits;
        bytes = sym (span_rest_bytes 8 0 (n - 8) t m (ap (λ (k : ℕ). k - 8) by-mark)) ∙ ap (span_rest 8) (sym whole) ∙ a.1;
        last = ap (λ (l : List ℕ). leb (length l) 1) places ∙ last_listed p g gs;
        listed = rw places (one_listed p g gs);
        later_cut = cut;
        rest = record {
          lengths = omega (arith, length-drop n t, length-drop n m, r.lengths);
          within = omega (arith, length-drop n t, r.within);
          opened = ap before_opening behind ∙ before_later 1 gs shape.1;
          clean = ap (clean_spans 1) cut ∙ clean_two 0 1 gs ∙ (and_both (clean_span 1 g) (clean_spans 2 gs) clean).1;
          places = rw (places, cut, ← size) (rest_listed p g gs);
        };
      }

  pub front : 0 < length t → Front p n t m ns
  front l = go (later_spans (cells t m)) refl
    where
      go : (gs : List (List ℕ)) → later_spans (cells t m) ≡ gs → Front p n t m ns
      go [] z =
          let whole : [] ≡ cells t m = ap₂ (λ (xs : List ℕ) (ks : List (List ℕ)). xs ++ joined ks) (sym r.opened) (sym z) ∙ before_joined (cells t m) in
          absurd (omega (arith, ap length whole, length_cells t m, r.lengths))
      go (g ∷ gs) z = first_span g gs z

-- Behind it the next one starts, or index comes; it is listed itself.
pub next_start : (p : ℕ) (t m ns : List ℕ) → LaterSpans p t m ns → (length t ≡ 0 → ⊥) → (p + 8 ≤ get_or ns 1 (p + length t)) × (get_or ns 1 (p + length t) ≤ p + length t) × (1 ≤ length ns)
next_start p t m ns r h =
    let f = front p t m ns (get_or ns 1 (p + length t) - p) r refl (omega arith) in
    (omega (arith, f.opening), omega (arith, f.opening, f.fits), f.listed)

-- Nothing is left: there is no span.
pub no_span : (t m : List ℕ) → length t ≡ 0 → later_spans (cells t m) ≡ []
unfolding cells later_spans
no_span [] m e = refl
no_span (b ∷ t) m e = absurd (omega arith)

-- What is left behind the first span of n cells, as slices; it is shorter.
pub rest_next : (p n : ℕ) (t m ns : List ℕ) → LaterSpans p t m ns → n ≡ get_or ns 1 (p + length t) - p → (length t ≡ 0 → ⊥)
    → (length (take (length t - n) (drop n t)) < length t) × LaterSpans (p + n) (take (length t - n) (drop n t)) (take (length m - n) (drop n m)) (take (length ns - 1) (drop 1 ns))
rest_next p n t m ns r e h =
    let f = front p t m ns n r e (omega arith) in
    rw (part_all n t, part_all n m, part_all 1 ns) (omega (arith, f.opening, f.fits, length-drop n t), f.rest)
