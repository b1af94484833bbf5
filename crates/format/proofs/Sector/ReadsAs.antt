-- The relation of spans and the sectors that they read as: the vehicle of inductions over an accepted track.
use mathlib.Core.Path.{◌≡◌, refl, sym, ap, ◌∙◌, subst}
use Prim.Native.Nat.{ℕ, suc, ◌+◌}
use native.Mathlib.Omega.{arith}
use mathlib.Core.Bool.{true}
use mathlib.Core.List.{List, [], ◌∷◌}
use lib.ListN.{length}
use Rattle.format.specs.Judged.{good, then}
use Rattle.format.specs.Home.{Home, judge_home, first_count_place}
use Rattle.format.specs.Count.{Settled, unsettled}
use Rattle.format.specs.Span.{none, clean_span, clean_spans}
use Rattle.format.specs.Sector.{Sector, settle, read_span}
use Rattle.format.specs.Accept.{judge_marks, read_spans, Placed, placed_from, judge_numbers, Accepted, spans_of, judge_behind, first_count_end, accept_cells, sectors_of}
use Rattle.format.proofs.Spans.Shape.{AllValid}
use Rattle.format.proofs.Base.Judged.{good_inj, then_good}
use Rattle.base.proofs.Tests.{and_both}
use Rattle.format.proofs.Sector.ReadBack.{read_valid}

-- The spans gs, from position i and place p on, read as the sectors ss.
abbrev pub Reads : Home → ℕ → Settled → ℕ → List (List ℕ) → List Sector → Type 0
Reads h i x p [] [] = Unit {0}
Reads h i x p [] (s ∷ ss) = ⊥
Reads h i x p (g ∷ gs) [] = ⊥
Reads h i x p (g ∷ gs) (s ∷ ss) = (read_span h i x p (none gs) g ≡ good s) × Reads h (suc i) (settle x s) (p + length g) gs ss

pub read_reads : (h : Home) (i : ℕ) (x : Settled) (p : ℕ) (gs : List (List ℕ)) (ss : List Sector) → read_spans h i x p gs ≡ good ss → Reads h i x p gs ss
unfolding read_spans
read_reads h i x p [] ss e = subst (Reads h i x p []) (good_inj [] ss e) tt
read_reads h i x p (g ∷ gs) ss e =
    let a = then_good (read_span h i x p (none gs) g) (λ s. then (read_spans h (suc i) (settle x s) (p + length g) gs) (λ ss. good (s ∷ ss))) ss e in
    let s : Sector = a.0 in
    let b = then_good (read_spans h (suc i) (settle x s) (p + length g) gs) (λ ss. good (s ∷ ss)) ss a.2 in
    subst (Reads h i x p (g ∷ gs)) (good_inj (s ∷ b.0) ss b.2) (a.1, read_reads h (suc i) (settle x s) (p + length g) gs b.0 b.1)

pub reads_read : (h : Home) (i : ℕ) (x : Settled) (p : ℕ) (gs : List (List ℕ)) (ss : List Sector) → Reads h i x p gs ss → read_spans h i x p gs ≡ good ss
unfolding read_spans
reads_read h i x p [] [] e = refl
reads_read h i x p [] (s ∷ ss) e = absurd e
reads_read h i x p (g ∷ gs) [] e = absurd e
reads_read h i x p (g ∷ gs) (s ∷ ss) e = rw (e.0, reads_read h (suc i) (settle x s) (p + length g) gs ss e.1)

pub length_reads : (h : Home) (i : ℕ) (x : Settled) (p : ℕ) (gs : List (List ℕ)) (ss : List Sector) → Reads h i x p gs ss → length gs ≡ length ss
length_reads h i x p [] [] e = refl
length_reads h i x p [] (s ∷ ss) e = absurd e
length_reads h i x p (g ∷ gs) [] e = absurd e
length_reads h i x p (g ∷ gs) (s ∷ ss) e = ap suc (length_reads h (suc i) (settle x s) (p + length g) gs ss e.1)

-- There is no sector exactly where there is no span.
pub none_placed : (h : Home) (i : ℕ) (x : Settled) (p : ℕ) (gs : List (List ℕ)) (ss : List Sector) → Reads h i x p gs ss → none (placed_from p gs ss) ≡ none gs
unfolding placed_from
none_placed h i x p [] [] e = refl
none_placed h i x p [] (s ∷ ss) e = absurd e
none_placed h i x p (g ∷ gs) [] e = absurd e
none_placed h i x p (g ∷ gs) (s ∷ ss) e = refl

-- Sectors that clean spans read as are valid.
pub reads_valid : (h : Home) (i : ℕ) (x : Settled) (p : ℕ) (gs : List (List ℕ)) (ss : List Sector) → clean_spans i gs ≡ true → Reads h i x p gs ss → AllValid h i x ss
unfolding clean_spans
reads_valid h i x p [] [] c e = tt
reads_valid h i x p [] (s ∷ ss) c e = absurd e
reads_valid h i x p (g ∷ gs) [] c e = absurd e
reads_valid h i x p (g ∷ gs) (s ∷ ss) c e =
    let k = and_both (clean_span i g) (clean_spans (suc i) gs) c in
    (read_valid h i x p (none gs) g s k.0 e.0, reads_valid h (suc i) (settle x s) (p + length g) gs ss k.1 e.1)

-- The sectors of placed ones are the sectors.
pub sectors_placed : (p : ℕ) (gs : List (List ℕ)) (ss : List Sector) → length gs ≡ length ss → sectors_of (placed_from p gs ss) ≡ ss
unfolding placed_from
sectors_placed p [] [] e = refl
sectors_placed p [] (s ∷ ss) e = absurd (omega arith)
sectors_placed p (g ∷ gs) [] e = absurd (omega arith)
sectors_placed p (g ∷ gs) (s ∷ ss) e = ap (λ (r : List Sector). s ∷ r) (sectors_placed (p + length g) gs ss (omega arith))

-- What an accepted track has met.
pub record AcceptedBy (c : List ℕ) (a : Accepted) : Type 0 where
  pub sectors : List Sector
  pub home_judged : judge_home c ≡ good a.home
  pub marks_judged : judge_marks (first_count_end a.home.place) 0 0 c ≡ good tt
  pub reads : Reads a.home 0 unsettled (first_count_place a.home.place) (spans_of a.home c) sectors
  pub placed : a.sectors ≡ placed_from (first_count_place a.home.place) (spans_of a.home c) sectors
  pub numbers_judged : judge_numbers [] a.sectors ≡ good tt

pub accepted_by : (c : List ℕ) (a : Accepted) → accept_cells c ≡ good a → AcceptedBy c a
unfolding accept_cells judge_behind
accepted_by c a e =
    let j = then_good (judge_home c) _ a e in
    let h : Home = j.0 in
    let b = then_good (judge_behind h c) _ a j.2 in
    let k = then_good (judge_marks (first_count_end h.place) 0 0 c) _ b.0 b.1 in
    let l = then_good (read_spans h 0 unsettled (first_count_place h.place) (spans_of h c)) _ b.0 k.2 in
    let xs : List Placed = placed_from (first_count_place h.place) (spans_of h c) l.0 in
    let n = then_good (judge_numbers [] xs) _ b.0 l.2 in
    let same : b.0 ≡ xs = sym (good_inj xs b.0 n.2) in
    subst (AcceptedBy c) (good_inj (record { home = h; sectors = b.0 }) a b.2)
    (record {
      sectors = l.0;
      home_judged = j.1;
      marks_judged = k.1;
      reads = read_reads h 0 unsettled (first_count_place h.place) (spans_of h c) l.0 l.1;
      placed = same;
      numbers_judged = ap (judge_numbers []) same ∙ n.1;
    })

pub by_accepted : (c : List ℕ) (a : Accepted) → AcceptedBy c a → accept_cells c ≡ good a
unfolding accept_cells judge_behind
by_accepted c a b =
    let p : ℕ = first_count_place a.home.place in
    rw (b.home_judged, b.marks_judged, reads_read a.home 0 unsettled p (spans_of a.home c) b.sectors b.reads, ← b.placed, b.numbers_judged)

-- The sectors of an accepted track.
pub accepted_sectors : (c : List ℕ) (a : Accepted) (b : AcceptedBy c a) → sectors_of a.sectors ≡ b.sectors
accepted_sectors c a b =
    let p : ℕ = first_count_place a.home.place in
    ap sectors_of b.placed ∙ sectors_placed p (spans_of a.home c) b.sectors (length_reads a.home 0 unsettled p (spans_of a.home c) b.sectors b.reads)
