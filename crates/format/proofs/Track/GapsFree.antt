-- Gap contents are free: an accepted track with any other bytes behind its blocks has the same sectors at the same places. It is accepted, unless a block takes so many of these bytes
-- that less than the least gap is left.
use mathlib.Core.Path.{◌≡◌, refl, sym, ap, ap₂, ◌∙◌}
use Prim.Native.Nat.{ℕ, suc, ◌+◌, ◌≤◌}
use native.Mathlib.Omega.{arith}
use mathlib.Core.Bool.{Bool, true, false}
use mathlib.Core.List.{List, [], ◌∷◌, ◌++◌, map}
use lib.ListN.{length, take}
use lib.Seq.{drop_at}
use lib.Dec.{leb}
use borrow.Author.Tests.{le-leb}
use Rattle.format.specs.Answer.{span_too_short}
use Rattle.format.specs.Judged.{Judged, good, refused, then, require}
use Rattle.format.specs.Lent.{unmarked}
use Rattle.format.specs.Home.{Home, first_count_place}
use Rattle.format.specs.Count.{Settled, unsettled}
use Rattle.format.specs.Block.{least_gap}
use Rattle.format.specs.Span.{joined, none, clean_span, clean_spans, spans}
use Rattle.format.specs.Sector.{Sector, is_first, settle, read_span}
use Rattle.format.specs.Accept.{Placed, read_spans, placed_from, judge_numbers, Accepted, spans_of, first_count_end, judge_behind, accept_cells, end_of, sectors_of}
use Rattle.base.proofs.Tests.{cases, and_both, and_make}
use Rattle.format.proofs.Spans.Shape.{Shape, FirstReaches}
use Rattle.format.proofs.Spans.Cutting.{shape_cons, shape_head, shape_tail}
use Rattle.format.proofs.Spans.Marks.{clean_marks}
use Rattle.format.proofs.Sector.ReadSector.{read_inv, read_first}
use Rattle.format.proofs.Sector.Regapped.{block_place, regapped, taken_in, place_in, length_regapped, read_regapped, place_regapped, clean_regapped, shape_regapped, end_placed}
use Rattle.format.proofs.Sector.ReadsAs.{Reads, reads_read, length_reads, sectors_placed}
use Rattle.format.proofs.Track.HomeLocal.{home_local}
use Rattle.format.proofs.Track.AcceptedSpans.{Track, accepted_of, spans_found, track_sectors, accepted_track, same_numbers}

-- Each of the gaps zs holds unmarked bytes, as many as the gap behind the block that is there; the first of the spans gs stands in position i.
abbrev pub OtherGaps : ℕ → List (List ℕ) → List (List ℕ) → Type 0
OtherGaps i [] zs = Unit {0}
OtherGaps i (g ∷ gs) [] = Unit {0}
OtherGaps i (g ∷ gs) (z ∷ zs) = (block_place i g + length z ≡ length g) × (unmarked z ≡ true) × OtherGaps (suc i) gs zs

-- The spans with these gaps.
unfoldable pub with_gaps : ℕ → List (List ℕ) → List (List ℕ) → List (List ℕ)
with_gaps i [] zs = []
with_gaps i (g ∷ gs) [] = g ∷ gs
with_gaps i (g ∷ gs) (z ∷ zs) = regapped i g z ∷ with_gaps (suc i) gs zs

-- How many bytes each block takes from its gap.
unfoldable pub taken_by : ℕ → List (List ℕ) → List (List ℕ) → List ℕ
taken_by i [] zs = []
taken_by i (g ∷ gs) [] = []
taken_by i (g ∷ gs) (z ∷ zs) = taken_in i g z ∷ taken_by (suc i) gs zs

-- Places later by these.
unfoldable pub later_by : List ℕ → List ℕ → List ℕ
later_by [] es = es
later_by (n ∷ ns) [] = []
later_by (n ∷ ns) (e ∷ es) = (e + n) ∷ later_by ns es

-- 9 for the leftmost sector behind whose block less than the least gap is left; the first span stands at place p.
unfoldable pub judge_gaps : ℕ → ℕ → List (List ℕ) → List (List ℕ) → Judged (Unit {0})
judge_gaps i p [] zs = good tt
judge_gaps i p (g ∷ gs) [] = good tt
judge_gaps i p (g ∷ gs) (z ∷ zs) =
    require (leb (taken_in i g z + least_gap (none gs)) (length z)) (span_too_short p) (judge_gaps (suc i) (p + length g) gs zs)

none_gaps : (i : ℕ) (gs zs : List (List ℕ)) → none (with_gaps i gs zs) ≡ none gs
unfolding with_gaps
none_gaps i [] zs = refl
none_gaps i (g ∷ gs) [] = refl
none_gaps i (g ∷ gs) (z ∷ zs) = refl

-- The spans keep their shape,
shape_gaps : (i : ℕ) (gs zs : List (List ℕ)) → Shape i gs → clean_spans i gs ≡ true → OtherGaps i gs zs → Shape i (with_gaps i gs zs)
unfolding with_gaps clean_spans
shape_gaps i [] zs v c o = tt
shape_gaps i (g ∷ gs) [] v c o = v
shape_gaps i (g ∷ gs) (z ∷ zs) v c o =
    let k = and_both (clean_span i g) (clean_spans (suc i) gs) c in
    shape_cons i (regapped i g z) (with_gaps (suc i) gs zs) (shape_regapped i g z (shape_head i g gs v) k.0 o.1)
    (shape_gaps (suc i) gs zs (shape_tail i g gs v) k.1 o.2)

-- have no stray mark,
clean_gaps : (i : ℕ) (gs zs : List (List ℕ)) → Shape i gs → clean_spans i gs ≡ true → OtherGaps i gs zs → clean_spans i (with_gaps i gs zs) ≡ true
unfolding with_gaps clean_spans
clean_gaps i [] zs v c o = refl
clean_gaps i (g ∷ gs) [] v c o = c
clean_gaps i (g ∷ gs) (z ∷ zs) v c o =
    let k = and_both (clean_span i g) (clean_spans (suc i) gs) c in
    and_make (clean_regapped i g z (shape_head i g gs v) k.0 o.1) (clean_gaps (suc i) gs zs (shape_tail i g gs v) k.1 o.2)

-- and are as long as before,
length_gap : (h : Home) (i : ℕ) (x : Settled) (p : ℕ) (last : Bool) (g z : List ℕ) (s : Sector) → read_span h i x p last g ≡ good s → block_place i g + length z ≡ length g
    → length (regapped i g z) ≡ length g
length_gap h i x p last g z s e l = omega (arith, length_regapped i g z (omega (arith, place_in i g h x p last s e)))

-- so that in the first of them there is room for a count.
reaches_gaps : (h : Home) (i : ℕ) (x : Settled) (p n : ℕ) (gs zs : List (List ℕ)) (ss : List Sector) → Reads h i x p gs ss → OtherGaps i gs zs → FirstReaches n gs
    → FirstReaches n (with_gaps i gs zs)
unfolding with_gaps
reaches_gaps h i x p n [] zs ss e o l = tt
reaches_gaps h i x p n (g ∷ gs) [] ss e o l = l
reaches_gaps h i x p n (g ∷ gs) (z ∷ zs) [] e o l = absurd e
reaches_gaps h i x p n (g ∷ []) (z ∷ zs) (s ∷ ss) e o l = tt
reaches_gaps h i x p n (g ∷ k ∷ gs) (z ∷ []) (s ∷ ss) e o l = omega (arith, length_gap h i x p false g z s e.0 o.0)
reaches_gaps h i x p n (g ∷ k ∷ gs) (z ∷ y ∷ zs) (s ∷ ss) e o l = omega (arith, length_gap h i x p false g z s e.0 o.0)

-- There are as many as before.
length_gaps : (i : ℕ) (gs zs : List (List ℕ)) → length (with_gaps i gs zs) ≡ length gs
unfolding with_gaps
length_gaps i [] zs = refl
length_gaps i (g ∷ gs) [] = refl
length_gaps i (g ∷ gs) (z ∷ zs) = ap suc (length_gaps (suc i) gs zs)

then_cons : (j : Judged (Unit {0})) (s : Sector) (ss : List Sector) → then (then j (λ _. good ss)) (λ r. good (s ∷ r)) ≡ then j (λ _. good (s ∷ ss))
then_cons (good u) s ss = refl
then_cons (refused a) s ss = refl

-- The spans gs, read as ss from position i and place p on, with the gaps zs: they read as the same sectors, or 9 is the answer,
read_gaps : (h : Home) (i : ℕ) (x : Settled) (p : ℕ) (gs zs : List (List ℕ)) (ss : List Sector) → Reads h i x p gs ss → OtherGaps i gs zs
    → read_spans h i x p (with_gaps i gs zs) ≡ then (judge_gaps i p gs zs) (λ _. good ss)
unfolding with_gaps read_spans judge_gaps
read_gaps h i x p [] zs [] e o = refl
read_gaps h i x p [] zs (s ∷ ss) e o = absurd e
read_gaps h i x p (g ∷ gs) [] ss e o = reads_read h i x p (g ∷ gs) ss e
read_gaps h i x p (g ∷ gs) (z ∷ zs) [] e o = absurd e
read_gaps h i x p (g ∷ gs) (z ∷ zs) (s ∷ ss) e o =
    let size = length_gap h i x p (none gs) g z s e.0 o.0 in
    let ih = read_gaps h (suc i) (settle x s) (p + length g) gs zs ss e.1 o.2 in
    rw (none_gaps (suc i) gs zs, size, read_regapped i g z h x p p (none gs) (none gs) s e.0)
    (cases (leb (taken_in i g z + least_gap (none gs)) (length z))
    (λ t. rw (t, ih) (then_cons (judge_gaps (suc i) (p + length g) gs zs) s ss))
    (λ f. rw f))

-- at the same places,
places_gaps : (h : Home) (i : ℕ) (x : Settled) (p : ℕ) (gs zs : List (List ℕ)) (ss : List Sector) → Reads h i x p gs ss → OtherGaps i gs zs
    → map (λ y. y.place) (placed_from p (with_gaps i gs zs) ss) ≡ map (λ y. y.place) (placed_from p gs ss)
unfolding with_gaps placed_from
places_gaps h i x p [] zs ss e o = refl
places_gaps h i x p (g ∷ gs) [] ss e o = refl
places_gaps h i x p (g ∷ gs) (z ∷ zs) [] e o = absurd e
places_gaps h i x p (g ∷ gs) (z ∷ zs) (s ∷ ss) e o =
    let size = length_gap h i x p (none gs) g z s e.0 o.0 in
    rw size (ap (λ (ns : List ℕ). p ∷ ns) (places_gaps h (suc i) (settle x s) (p + length g) gs zs ss e.1 o.2))

-- and their blocks end later by what they take.
ends_gaps : (h : Home) (i : ℕ) (x : Settled) (p : ℕ) (gs zs : List (List ℕ)) (ss : List Sector) → Reads h i x p gs ss → OtherGaps i gs zs
    → map end_of (placed_from p (with_gaps i gs zs) ss) ≡ later_by (taken_by i gs zs) (map end_of (placed_from p gs ss))
unfolding with_gaps placed_from taken_by later_by
ends_gaps h i x p [] zs ss e o = refl
ends_gaps h i x p (g ∷ gs) [] ss e o = refl
ends_gaps h i x p (g ∷ gs) (z ∷ zs) [] e o = absurd e
ends_gaps h i x p (g ∷ gs) (z ∷ zs) (s ∷ ss) e o =
    let inside : block_place i g ≤ length g = omega (arith, place_in i g h x p (none gs) s e.0) in
    let size = length_gap h i x p (none gs) g z s e.0 o.0 in
    let f : s.first ≡ is_first i = read_first h i x (none gs) g s (read_inv h i x p (none gs) g s e.0) in
    let end : end_of (record { place = p; span = regapped i g z; sector = s }) ≡ end_of (record { place = p; span = g; sector = s }) + taken_in i g z =
    omega (arith, end_placed i p (regapped i g z) s f, end_placed i p g s f, place_regapped i g z inside) in
    rw size (ap₂ (λ (n : ℕ) (ns : List ℕ). n ∷ ns) end (ends_gaps h (suc i) (settle x s) (p + length g) gs zs ss e.1 o.2))

-- A track of spans with other gaps, judged.
module _ (head : List ℕ) (h : Home) (gs zs : List (List ℕ)) (ss : List Sector) (t : Track head h gs ss) (o : OtherGaps 0 gs zs) where
  abbrev p : ℕ
  p = first_count_place h.place

  abbrev ks : List (List ℕ)
  ks = with_gaps 0 gs zs

  sectors_same : sectors_of (placed_from p ks ss) ≡ ss
  sectors_same = sectors_placed p ks ss (length_gaps 0 gs zs ∙ length_reads h 0 unsettled p gs ss t.reads)

  numbers_same : judge_numbers [] (placed_from p ks ss) ≡ good tt
  numbers_same =
      same_numbers [] (placed_from p gs ss) (placed_from p ks ss)
      (ap (map (λ (s : Sector). s.number)) (track_sectors head h gs ss t ∙ sym sectors_same)) t.numbers

  judge_numbers_lem : (j : Judged (Unit {0})) → then (then j (λ _. good ss)) (λ r. then (judge_numbers [] (placed_from p ks r)) (λ _. good (placed_from p ks r)))
      ≡ then j (λ _. good (placed_from p ks ss))
  judge_numbers_lem (good u) = rw numbers_same
  judge_numbers_lem (refused a) = refl

  judge_home_lem : (j : Judged (Unit {0})) → then (then j (λ _. good (placed_from p ks ss))) (λ xs. good (record { home = h; sectors = xs })) ≡ then j (λ _. good (accepted_of h ks ss))
  judge_home_lem (good u) = refl
  judge_home_lem (refused a) = refl

  accept_gaps : accept_cells (head ++ joined ks) ≡ then (judge_gaps 0 p gs zs) (λ _. good (accepted_of h ks ss))
  unfolding accept_cells judge_behind
  accept_gaps =
      let shape = shape_gaps 0 gs zs t.shape t.clean o in
      let some : none ks ≡ false = none_gaps 0 gs zs ∙ t.some_span in
      let found : spans_of h (head ++ joined ks) ≡ ks = ap spans (drop_at head (joined ks) p t.head_length_holds) ∙ spans_found ks some shape in
      let marks = clean_marks (first_count_end h.place) head ks (omega (arith, t.head_length_holds)) t.head_unmarked shape (clean_gaps 0 gs zs t.shape t.clean o)
      (reaches_gaps h 0 unsettled p 18 gs zs ss t.reads o t.reaches) in
      rw (home_local head (joined gs) (joined ks) h t.home_judged t.head_length_holds, marks, found, read_gaps h 0 unsettled p gs zs ss t.reads o)
      (rw (judge_numbers_lem (judge_gaps 0 p gs zs)) (judge_home_lem (judge_gaps 0 p gs zs)))

-- The track c, accepted as a, with the gaps zs behind the blocks of its sectors, from left to right.
unfoldable pub with_other_gaps : List ℕ → Accepted → List (List ℕ) → List ℕ
with_other_gaps c a zs = take (first_count_place a.home.place) c ++ joined (with_gaps 0 (spans_of a.home c) zs)

-- Its answer is 9 where a block takes so much from its gap that less than the least gap is left, at the leftmost such sector; else it is accepted with the same home and the same sectors at the same
-- places, and each block ends later by what it takes.
pub gaps_judged : (c : List ℕ) (a : Accepted) → accept_cells c ≡ good a → (zs : List (List ℕ)) → OtherGaps 0 (spans_of a.home c) zs
    → (b : Accepted)
    × (accept_cells (with_other_gaps c a zs) ≡ then (judge_gaps 0 (first_count_place a.home.place) (spans_of a.home c) zs) (λ _. good b))
    × (b.home ≡ a.home)
    × (sectors_of b.sectors ≡ sectors_of a.sectors)
    × (map (λ x. x.place) b.sectors ≡ map (λ x. x.place) a.sectors)
    × (map end_of b.sectors ≡ later_by (taken_by 0 (spans_of a.home c) zs) (map end_of a.sectors))
unfolding with_other_gaps
gaps_judged c a e zs o =
    let h : Home = a.home in
    let n : ℕ = first_count_place h.place in
    let gs : List (List ℕ) = spans_of h c in
    let v = accepted_track c a e in
    let ss : List Sector = v.0 in
    let t : Track (take n c) h gs ss = v.1 in
    let old : placed_from n gs ss ≡ a.sectors = ap (λ (y : Accepted). y.sectors) v.3 in (
      accepted_of h (with_gaps 0 gs zs) ss,
      accept_gaps (take n c) h gs zs ss t o,
      refl,
      sectors_same (take n c) h gs zs ss t o ∙ sym (track_sectors (take n c) h gs ss t) ∙ ap sectors_of old,
      places_gaps h 0 unsettled n gs zs ss t.reads o ∙ ap (map (λ (x : Placed). x.place)) old,
      ends_gaps h 0 unsettled n gs zs ss t.reads o ∙ ap (λ (xs : List Placed). later_by (taken_by 0 gs zs) (map end_of xs)) old,
    )

-- No block takes any of its gap.
abbrev pub NoneTaken : List ℕ → Type 0
NoneTaken [] = Unit {0}
NoneTaken (n ∷ ns) = (n ≡ 0) × NoneTaken ns

none_judged : (h : Home) (i : ℕ) (x : Settled) (p : ℕ) (gs zs : List (List ℕ)) (ss : List Sector) → Reads h i x p gs ss → OtherGaps i gs zs → NoneTaken (taken_by i gs zs)
    → judge_gaps i p gs zs ≡ good tt
unfolding judge_gaps taken_by
none_judged h i x p [] zs ss e o n = refl
none_judged h i x p (g ∷ gs) [] ss e o n = refl
none_judged h i x p (g ∷ gs) (z ∷ zs) [] e o n = absurd e
none_judged h i x p (g ∷ gs) (z ∷ zs) (s ∷ ss) e o n =
    rw (le-leb (taken_in i g z + least_gap (none gs)) (length z) (omega (arith, n.0, place_in i g h x p (none gs) s e.0)))
    (none_judged h (suc i) (settle x s) (p + length g) gs zs ss e.1 o.2 n.1)

none_later : (ns es : List ℕ) → NoneTaken ns → later_by ns es ≡ es
unfolding later_by
none_later [] es n = refl
none_later (m ∷ ns) [] n = refl
none_later (m ∷ ns) (e ∷ es) n = ap₂ (λ (k : ℕ) (ks : List ℕ). k ∷ ks) (omega (arith, n.0)) (none_later ns es n.1)

-- Then it is accepted with the same home and sectors, at the same places, and every block ends where it ended.
pub gaps_free : (c : List ℕ) (a : Accepted) → accept_cells c ≡ good a → (zs : List (List ℕ)) → OtherGaps 0 (spans_of a.home c) zs → NoneTaken (taken_by 0 (spans_of a.home c) zs)
    → (b : Accepted)
    × (accept_cells (with_other_gaps c a zs) ≡ good b)
    × (b.home ≡ a.home)
    × (sectors_of b.sectors ≡ sectors_of a.sectors)
    × (map (λ x. x.place) b.sectors ≡ map (λ x. x.place) a.sectors)
    × (map end_of b.sectors ≡ map end_of a.sectors)
gaps_free c a e zs o n =
    let v = accepted_track c a e in
    let k = gaps_judged c a e zs o in
    let gs : List (List ℕ) = spans_of a.home c in
    let fit = none_judged a.home 0 unsettled (first_count_place a.home.place) gs zs v.0 v.1.reads o n in
    (k.0, k.1 ∙ rw fit, k.2, k.3, k.4, k.5 ∙ none_later (taken_by 0 gs zs) (map end_of a.sectors) n)
