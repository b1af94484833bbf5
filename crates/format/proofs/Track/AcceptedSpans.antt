-- An accepted track as its head, which ends where sector 0's count opens, and its spans.
use mathlib.Core.Path.{◌≡◌, refl, sym, ap, ◌∙◌, subst}
use Prim.Native.Nat.{ℕ, ◌≤◌}
use native.Mathlib.Omega.{arith}
use mathlib.Core.Bool.{Bool, true, false, not}
use mathlib.Core.List.{List, [], ◌∷◌, ◌++◌, map}
use lib.ListN.{length, take, drop, length-append, length-drop, take-append-drop}
use lib.Seq.{drop_at, length-take-le}
use Rattle.format.specs.Answer.{first_count_missing, sector_repeated}
use Rattle.format.specs.Judged.{good}
use Rattle.format.specs.Lent.{unmarked}
use Rattle.format.specs.Home.{Home, judge_home, first_count_place}
use Rattle.format.specs.Count.{Settled, unsettled}
use Rattle.format.specs.Span.{spans, joined, none, before_opening, later_spans, clean_spans}
use Rattle.format.specs.Sector.{Sector, read_span}
use Rattle.format.specs.Accept.{Placed, placed_from, among, judge_numbers, Accepted, spans_of, first_count_end, accept_cells, sectors_of}
use Rattle.format.proofs.Spans.Shape.{Shape, FirstReaches}
use Rattle.format.proofs.Base.Judged.{refused-good, require_good, require_holds}
use Rattle.base.proofs.Tests.{false-true}
use Rattle.format.proofs.Spans.Cutting.{joined_spans, shape_spans, spans_joined}
use Rattle.format.proofs.Spans.Marks.{marks_clean, clean_marks}
use Rattle.format.proofs.Sector.ReadsAs.{Reads, length_reads, sectors_placed, AcceptedBy, accepted_by, by_accepted}

-- What the head, the home h in it, the spans gs behind it and the sectors ss of these are on an accepted track.
pub record Track (head : List ℕ) (h : Home) (gs : List (List ℕ)) (ss : List Sector) : Type 0 where
  pub head_length_holds : length head ≡ first_count_place h.place
  pub head_unmarked : unmarked head ≡ true
  pub home_judged : judge_home (head ++ joined gs) ≡ good h
  pub some_span : none gs ≡ false
  pub shape : Shape 0 gs
  pub clean : clean_spans 0 gs ≡ true
  pub reaches : FirstReaches 18 gs
  pub reads : Reads h 0 unsettled (first_count_place h.place) gs ss
  pub numbers : judge_numbers [] (placed_from (first_count_place h.place) gs ss) ≡ good tt

-- What is accepted of such a track.
abbrev pub accepted_of : Home → List (List ℕ) → List Sector → Accepted
accepted_of h gs ss = record { home = h; sectors = placed_from (first_count_place h.place) gs ss }

-- Spans of the right shape are found again, where there is one.
pub spans_found : (gs : List (List ℕ)) → none gs ≡ false → Shape 0 gs → spans (joined gs) ≡ gs
spans_found [] e k = false-true (sym e)
spans_found (g ∷ gs) e k = spans_joined g gs k

-- Such a track is accepted.
pub track_accepted : (head : List ℕ) (h : Home) (gs : List (List ℕ)) (ss : List Sector) → Track head h gs ss → accept_cells (head ++ joined gs) ≡ good (accepted_of h gs ss)
track_accepted head h gs ss t =
    let p : ℕ = first_count_place h.place in
    let found : spans_of h (head ++ joined gs) ≡ gs = ap spans (drop_at head (joined gs) p t.head_length_holds) ∙ spans_found gs t.some_span t.shape in
    by_accepted (head ++ joined gs) (accepted_of h gs ss)
    (record {
      sectors = ss;
      home_judged = t.home_judged;
      marks_judged = clean_marks (first_count_end h.place) head gs (omega (arith, t.head_length_holds)) t.head_unmarked t.shape t.clean t.reaches;
      reads = subst (λ (ks : List (List ℕ)). Reads h 0 unsettled p ks ss) (sym found) t.reads;
      placed = ap (λ (ks : List (List ℕ)). placed_from p ks ss) (sym found);
      numbers_judged = t.numbers;
    })

-- The sectors of such a track.
pub track_sectors : (head : List ℕ) (h : Home) (gs : List (List ℕ)) (ss : List Sector) → Track head h gs ss → sectors_of (placed_from (first_count_place h.place) gs ss) ≡ ss
track_sectors head h gs ss t =
    let p : ℕ = first_count_place h.place in
    sectors_placed p gs ss (length_reads h 0 unsettled p gs ss t.reads)

first_opens : (h : Home) (x : Settled) (p : ℕ) (last : Bool) (g : List ℕ) (s : Sector) → read_span h 0 x p last g ≡ good s → 1 ≤ length g
unfolding read_span
first_opens h x p last [] s e = refused-good (first_count_missing p) s e
first_opens h x p last (y ∷ g) s e = omega arith

spans_fill : (h : Home) (x : Settled) (p : ℕ) (d : List ℕ) (ss : List Sector) → Reads h 0 x p (spans d) ss → 1 ≤ length d
unfolding spans
spans_fill h x p d [] e = absurd e
spans_fill h x p d (s ∷ ss) e =
    let g : List ℕ = before_opening d in
    let rest : List ℕ = joined (later_spans d) in
    omega (arith, first_opens h x p (none (later_spans d)) g s e.0, ap length (joined_spans d), length-append g rest)

-- An accepted track is such a track.
pub accepted_track : (c : List ℕ) (a : Accepted) → accept_cells c ≡ good a
    → (ss : List Sector) × Track (take (first_count_place a.home.place) c) a.home (spans_of a.home c) ss
    × (take (first_count_place a.home.place) c ++ joined (spans_of a.home c) ≡ c) × (accepted_of a.home (spans_of a.home c) ss ≡ a)
unfolding spans
accepted_track c a e =
    let b : AcceptedBy c a = accepted_by c a e in
    let p : ℕ = first_count_place a.home.place in
    let d : List ℕ = drop p c in
    let l : p ≤ length c = omega (arith, spans_fill a.home unsettled p d b.sectors b.reads, length-drop p c) in
    let whole : take p c ++ joined (spans d) ≡ c = ap (λ (r : List ℕ). take p c ++ r) (joined_spans d) ∙ take-append-drop p c in
    let m = marks_clean (first_count_end a.home.place) p c (omega arith) b.marks_judged in (
      b.sectors,
      record {
        head_length_holds = length-take-le p c l;
        head_unmarked = m.0;
        home_judged = ap judge_home whole ∙ b.home_judged;
        some_span = refl;
        shape = shape_spans d;
        clean = m.1;
        reaches = m.2;
        reads = b.reads;
        numbers = ap (judge_numbers []) (sym b.placed) ∙ b.numbers_judged;
      },
      whole,
      ap (λ (xs : List Placed). record { home = a.home; sectors = xs }) (sym b.placed),
    )

-- Numbers that are judged good are good wherever the same numbers stand.
pub same_numbers : (seen : List ℕ) (xs ys : List Placed) → map (λ (s : Sector). s.number) (sectors_of xs) ≡ map (λ (s : Sector). s.number) (sectors_of ys)
    → judge_numbers seen xs ≡ good tt → judge_numbers seen ys ≡ good tt
unfolding judge_numbers
same_numbers seen xs [] q e = refl
same_numbers seen [] (y ∷ ys) q e = absurd (let z : ◌≡◌ {A = ℕ} 0 1 = cc in omega arith)
same_numbers seen (x ∷ xs) (y ∷ ys) q e =
    let n : ℕ = x.sector.number in
    let m : ℕ = y.sector.number in
    let k : n ≡ m = cc in
    let ks : map (λ (s : Sector). s.number) (sectors_of xs) ≡ map (λ (s : Sector). s.number) (sectors_of ys) = cc in
    let r = require_good (not (among n seen)) (sector_repeated x.place) (judge_numbers (n ∷ seen) xs) tt e in
    require_holds (not (among m seen)) (sector_repeated y.place) (judge_numbers (m ∷ seen) ys) (good tt)
    (ap (λ (z : ℕ). not (among z seen)) (sym k) ∙ r.0)
    (same_numbers (m ∷ seen) xs ys ks (ap (λ (z : ℕ). judge_numbers (z ∷ seen) xs) (sym k) ∙ r.1))
