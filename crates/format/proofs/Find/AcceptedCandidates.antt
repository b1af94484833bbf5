-- On an accepted track the candidates are exactly the sectors; on every track without a stray mark the spans are those by the next mark.
use mathlib.Core.Path.{◌≡◌, refl, sym, ap, ◌∙◌, subst}
use Prim.Native.Nat.{ℕ, suc, ◌+◌}
use native.Mathlib.Omega.{arith}
use mathlib.Core.Bool.{Bool, true, false}
use mathlib.Core.List.{List, [], ◌∷◌, ◌++◌}
use lib.ListN.{length, take, drop}
use lib.Seq.{take-append_seam, drop-append_seam, drop-drop}
use Rattle.format.specs.Judged.{Judged, good}
use Rattle.format.specs.Lent.{unmarked}
use Rattle.format.specs.Home.{Home, find_home, home_bytes, judge_home, first_count_place}
use Rattle.format.specs.Count.{Settled, unsettled}
use Rattle.format.specs.Span.{span_rest, runs_to_index, span_length, spans, joined, none, clean_span, clean_spans}
use Rattle.format.specs.Sector.{Sector, opening_length, is_first, settle}
use Rattle.format.specs.Accept.{judge_marks, Placed, placed_from, Accepted, spans_of, first_count_end, accept_cells}
use Rattle.format.specs.Candidate.{candidates_from, candidates}
use Rattle.format.proofs.Base.Judged.{then_good}
use Rattle.base.proofs.Tests.{false-true, and_both}
use Rattle.format.proofs.Spans.Shape.{Shape, FirstReaches}
use Rattle.format.proofs.Cells.Opening.{unmarked_append, length_opens}
use Rattle.format.proofs.Spans.Cutting.{joined_spans, shape_spans, shape_tail, later_unmarked}
use Rattle.format.proofs.Track.HomeLocal.{judged_place_lem}
use Rattle.format.proofs.Spans.SpanAgrees.{first_by_mark}
use Rattle.format.proofs.Spans.Marks.{marks_clean}
use Rattle.format.proofs.Sector.ReadSector.{read_inv, read_first}
use Rattle.format.proofs.Sector.ReadsAs.{Reads, accepted_by, none_placed}
use Rattle.format.proofs.Track.AcceptedSpans.{Track, accepted_of, accepted_track}
use Rattle.format.proofs.Find.SpanCandidates.{candidates_of, joined_seam, passed_over, candidates_reads}

-- A home that is judged was found at its place.
pub home_found : (c : List ℕ) (h : Home) → judge_home c ≡ good h → find_home c ≡ good h.place
unfolding judge_home
home_found c h e = let a = then_good (find_home c) _ h e in a.1 ∙ ap good (judged_place_lem a.0 (home_bytes a.0 c) h a.2)

-- Before the spans there is no candidate: the head without marks is passed over.
pub candidates_behind : (head : List ℕ) (h : ℕ) (gs : List (List ℕ)) → length head ≡ first_count_place h → unmarked head ≡ true → none gs ≡ false → Shape 0 gs → clean_spans 0 gs ≡ true
    → candidates_from (good h) 0 (head ++ joined gs) ≡ candidates_from (good h) (first_count_place h) (joined gs)
unfolding clean_spans clean_span
candidates_behind head h [] l u n t c = false-true (sym n)
candidates_behind head h (g ∷ gs) l u n t c =
    let k = and_both (unmarked g) (clean_spans 1 gs) c in
    passed_over h 0 head g (joined gs) (later_unmarked (head ++ g) (unmarked_append head g u k.0)) (joined_seam 0 gs t.1) (λ i b q. omega arith)
    ∙ ap (λ (q : ℕ). candidates_from (good h) q (joined (g ∷ gs))) (omega (arith, l))

-- The candidates of a head without marks and of the spans behind it.
candidates_track : (head : List ℕ) (h : Home) (gs : List (List ℕ)) (ss : List Sector) → Track head h gs ss
    → candidates_from (good h.place) 0 (head ++ joined gs) ≡ candidates_of (accepted_of h gs ss).sectors
candidates_track head h gs ss t =
    candidates_behind head h.place gs t.head_length_holds t.head_unmarked t.some_span t.shape t.clean
    ∙ candidates_reads h 0 unsettled h.place (first_count_place h.place) gs ss t.reads t.shape t.clean refl

-- The candidates of an accepted track are exactly its sectors.
pub candidates_accepted : (c : List ℕ) (a : Accepted) → accept_cells c ≡ good a → candidates c ≡ candidates_of a.sectors
unfolding candidates
candidates_accepted c a e =
    let t = accepted_track c a e in
    let h : Home = a.home in
    let head : List ℕ = take (first_count_place h.place) c in
    ap (λ (j : Judged ℕ). candidates_from j 0 c) (home_found c h (accepted_by c a e).home_judged)
    ∙ ap (candidates_from (good h.place) 0) (sym t.2)
    ∙ candidates_track head h (spans_of h c) t.0 t.1
    ∙ ap (λ (z : Accepted). candidates_of z.sectors) t.3

-- The span g of a count with an opening of o cells, at place p of the track c, is what the next mark gives: it reaches to five cells before the next mark
-- after that opening, or to index, and the latter exactly where `last` says so.
pub record SpanByMark (c : List ℕ) (o p : ℕ) (last : Bool) (g : List ℕ) : Type 0 where
  pub length_is : span_length o (drop p c) ≡ length g
  pub span_is : take (span_length o (drop p c)) (drop p c) ≡ g
  pub rest_is : span_rest o (drop p c) ≡ drop o g
  pub runs : runs_to_index o (drop p c) ≡ last

-- So are all the spans gs, the first of which stands in position i and at place p; the last one runs to index, and no other.
abbrev pub SpansByMark : List ℕ → ℕ → ℕ → List (List ℕ) → Type 0
SpansByMark c i p [] = Unit {0}
SpansByMark c i p (g ∷ gs) = SpanByMark c (opening_length (is_first i)) p (none gs) g × SpansByMark c (suc i) (p + length g) gs

-- Later spans hold their openings.
later_reach : (i : ℕ) (gs : List (List ℕ)) → Shape (suc i) gs → FirstReaches 8 gs
later_reach i [] t = tt
later_reach i (g ∷ []) t = tt
later_reach i (g ∷ k ∷ gs) t = length_opens g t.0.0

-- A first span of 18 cells holds its opening.
first_reach : (gs : List (List ℕ)) → FirstReaches 18 gs → FirstReaches 6 gs
first_reach [] l = tt
first_reach (g ∷ []) l = tt
first_reach (g ∷ k ∷ gs) l = omega arith

-- Spans as cutting gives them, clean, are those by the next mark.
clean_by_mark : (c : List ℕ) (i p : ℕ) (gs : List (List ℕ)) → Shape i gs → clean_spans i gs ≡ true → FirstReaches (opening_length (is_first i)) gs → drop p c ≡ joined gs
    → SpansByMark c i p gs
unfolding clean_spans
clean_by_mark c i p [] t k l d = tt
clean_by_mark c i p (g ∷ gs) t k l d =
    let w = first_by_mark i g gs t k l in
    let q : drop (p + length g) c ≡ joined gs = sym (drop-drop (length g) p c) ∙ ap (drop (length g)) d ∙ drop-append_seam g (joined gs) in
    let r : Shape (suc i) gs = shape_tail i g gs t in (
      record {
        length_is = rw d w.0;
        span_is = rw (d, w.0, take-append_seam g (joined gs));
        rest_is = rw d w.1;
        runs = rw d w.2;
      },
      clean_by_mark c (suc i) (p + length g) gs r (and_both (clean_span i g) (clean_spans (suc i) gs) k).1 (later_reach i gs r) q,
    )

-- On every track to which answer 5 does not apply, the spans by cutting are those by the next mark.
pub spans_by_mark : (c : List ℕ) (p : ℕ) → judge_marks (first_count_end p) 0 0 c ≡ good tt → SpansByMark c 0 (first_count_place p) (spans (drop (first_count_place p) c))
spans_by_mark c p e =
    let n : ℕ = first_count_place p in
    let d : List ℕ = drop n c in
    let m = marks_clean (first_count_end p) n c (omega arith) e in
    clean_by_mark c 0 n (spans d) (shape_spans d) m.1 (first_reach (spans d) m.2) (sym (joined_spans d))

-- The spans of sectors are those by the next mark, and the last one runs to index, and no other.
abbrev pub SectorsByMark : List ℕ → List Placed → Type 0
SectorsByMark c [] = Unit {0}
SectorsByMark c (x ∷ xs) = SpanByMark c (opening_length x.sector.first) x.place (none xs) x.span × SectorsByMark c xs

-- The sectors that such spans read as have them.
sectors_by_mark : (c : List ℕ) (m : Home) (i : ℕ) (x : Settled) (p : ℕ) (gs : List (List ℕ)) (ss : List Sector) → Reads m i x p gs ss → SpansByMark c i p gs
    → SectorsByMark c (placed_from p gs ss)
unfolding placed_from
sectors_by_mark c m i x p [] [] e w = tt
sectors_by_mark c m i x p [] (s ∷ ss) e w = absurd e
sectors_by_mark c m i x p (g ∷ gs) [] e w = absurd e
sectors_by_mark c m i x p (g ∷ gs) (s ∷ ss) e w =
    let v = read_inv m i x p (none gs) g s e.0 in (
      rw (read_first m i x (none gs) g s v, none_placed m (suc i) (settle x s) (p + length g) gs ss e.1) w.0,
      sectors_by_mark c m (suc i) (settle x s) (p + length g) gs ss e.1 w.1,
    )

-- The spans of an accepted track are those by the next mark.
pub spans_agree : (c : List ℕ) (a : Accepted) → accept_cells c ≡ good a → SectorsByMark c a.sectors
spans_agree c a e =
    let b = accepted_by c a e in
    let n : ℕ = first_count_place a.home.place in
    subst (SectorsByMark c) (sym b.placed)
    (sectors_by_mark c a.home 0 unsettled n (spans_of a.home c) b.sectors b.reads (spans_by_mark c a.home.place b.marks_judged))
