-- The candidates that carry S where the sector of that number has other bytes behind its count's opening: its own, if that passes and still carries S, and no other.
use mathlib.Core.Path.{◌≡◌, sym, ap, ◌∙◌}
use mathlib.Core.Logic.{inl, inr}
use Prim.Native.Nat.{ℕ, suc, ◌+◌, ◌≤◌}
use native.Mathlib.Omega.{arith}
use mathlib.Core.Bool.{Bool, true}
use mathlib.Core.List.{List, [], ◌∷◌}
use lib.ListN.{length, length-drop}
use lib.Dec.{eqb}
use borrow.Author.Tests.{ne_eqb}
use Rattle.base.specs.Pick.{pick}
use Rattle.base.specs.Lists.{Member}
use Rattle.base.proofs.Tests.{cases, false-true, and_both, and_make}
use Rattle.format.specs.Judged.{good}
use Rattle.format.specs.Lent.{unmarked}
use Rattle.format.specs.Home.{Home}
use Rattle.format.specs.Count.{Settled, count_number}
use Rattle.format.specs.Span.{joined, none, clean_span, clean_spans}
use Rattle.format.specs.Sector.{Sector, opening_length, is_first, settle, sector_in}
use Rattle.format.specs.Accept.{Placed, placed_rest, placed_from, among}
use Rattle.format.specs.Candidate.{Candidate, count_passes, candidates_from}
use Rattle.format.specs.Find.{carrying}
use Rattle.format.proofs.Spans.Shape.{Shape}
use Rattle.format.proofs.Spans.Cutting.{shape_cons, shape_head, shape_tail}
use Rattle.format.proofs.Sector.ReadSector.{ReadAs, rest_of, read_inv, read_first, span_least}
use Rattle.format.proofs.Sector.ReadsAs.{Reads}
use Rattle.format.proofs.Sector.OtherRest.{with_rest, length_with_rest, rest_with_rest, opened_with_rest, clean_with_rest, shape_with_rest}
use Rattle.format.proofs.Track.Sectors.{Distinct, numbers_of}
use Rattle.format.proofs.Find.SpanCandidates.{passing, candidate_in, candidates_of, AtPosition, position_next, read_some, candidates_span, candidates_read, candidates_reads}
use Rattle.format.proofs.Find.FindAccepted.{ReadWell, read_well, reads_all, member_among, carrying_none}
use Rattle.format.proofs.Bursts.AlteredSpan.{altered_spans, rest_length, shape_altered, clean_altered}

-- Where no candidate behind the first carries n, only the first can.
carrying_alone : (n : ℕ) (x : Candidate) (xs : List Candidate) → carrying n xs ≡ [] → carrying n (passing x xs) ≡ carrying n (passing x [])
unfolding carrying
carrying_alone n x xs e =
    cases (count_passes x)
    (λ t. rw t (ap (λ (ys : List Candidate). pick (eqb (count_number x.rest) n) (x ∷ ys) ys) e))
    (λ t. rw t e)

-- The candidate of the sector y with the bytes z behind its count's opening, where `last` says whether its span runs to index.
abbrev pub candidate_with : Placed → List ℕ → Bool → Candidate
candidate_with y z last = record { place = y.place; first = y.sector.first; last = last; rest = z }

-- It alone can carry the number of y among the candidates xs.
pub record CarriedBy (y : Placed) (z : List ℕ) (xs : List Candidate) : Type 0 where
  pub last : Bool
  pub well : ReadWell last y
  pub alone : carrying y.sector.number xs ≡ carrying y.sector.number (passing (candidate_with y z last) [])

-- So it is where the spans of accepted sectors have z in that of y, unmarked and as long as what it replaces.
module _ (y : Placed) (z : List ℕ) (u : unmarked z ≡ true) (l : length z ≡ length (placed_rest y)) where
  -- As the first of the spans.
  carried_first : (m : Home) (i : ℕ) (x : Settled) (h p : ℕ) (g : List ℕ) (gs : List (List ℕ)) (s : Sector) (ss : List Sector) → Reads m i x p (g ∷ gs) (s ∷ ss) → Shape i (g ∷ gs)
      → clean_spans i (g ∷ gs) ≡ true → AtPosition i h p → Distinct (numbers_of (placed_from p (g ∷ gs) (s ∷ ss))) → y ≡ record { place = p; span = g; sector = s }
      → CarriedBy y z (candidates_from (good h) p (joined (with_rest i g z ∷ gs)))
  unfolding placed_from clean_spans
  carried_first m i x h p g gs s ss r t c a d e =
      let o : ℕ = opening_length (is_first i) in
      let v = read_inv m i x p (none gs) g s r.0 in
      let k = and_both (clean_span i g) (clean_spans (suc i) gs) c in
      let f : s.first ≡ is_first i = read_first m i x (none gs) g s v in
      let in_span : o ≤ length g = omega (arith, span_least m i x (none gs) g s v) in
      let size = rest_length y z i p g s e f l in
      let long : length (with_rest i g z) ≡ length g = omega (arith, length_with_rest i g z in_span, length-drop o g) in
      let here = candidates_span i h p (with_rest i g z) gs (omega arith) (opened_with_rest i g z in_span v.opened)
      (shape_cons i (with_rest i g z) gs (shape_with_rest i g z (shape_head i g gs t) k.0 u) (shape_tail i g gs t)) (and_make (clean_with_rest i g z (shape_head i g gs t) k.0 u) k.1) a in
      let others : candidates_from (good h) (p + length (with_rest i g z)) (joined gs) ≡ candidates_of (placed_from (p + length g) gs ss) =
      ap (λ (q : ℕ). candidates_from (good h) (p + q) (joined gs)) long
      ∙ candidates_reads m (suc i) (settle x s) h (p + length g) gs ss r.1 (shape_tail i g gs t) k.1 (position_next i h p (length g) a (read_some m i x (none gs) g s v)) in
      let none-else : carrying s.number (candidates_from (good h) (p + length (with_rest i g z)) (joined gs)) ≡ [] =
      ap (carrying s.number) others ∙ carrying_none s.number (placed_from (p + length g) gs ss) (reads_all m (suc i) (settle x s) (p + length g) gs ss r.1) d.0 in
      let same : candidate_in i p (none gs) (with_rest i g z) ≡ record { place = p; first = s.first; last = none gs; rest = z } = rw (f, rest_with_rest i g z in_span) in
      record {
        last = none gs;
        well = rw e (read_well m i x (none gs) p g s v);
        alone = rw e
            (ap (carrying s.number) here
            ∙ carrying_alone s.number (candidate_in i p (none gs) (with_rest i g z)) (candidates_from (good h) (p + length (with_rest i g z)) (joined gs)) none-else
            ∙ ap (λ (q : Candidate). carrying s.number (passing q [])) same);
      }

  -- Behind the first of them.
  carried_later : (m : Home) (i : ℕ) (x : Settled) (h p : ℕ) (last : Bool) (g : List ℕ) (ks : List (List ℕ)) (s : Sector) → ReadAs m i x last g s → Shape i (g ∷ ks)
      → clean_spans i (g ∷ ks) ≡ true → AtPosition i h p → (s.number ≡ y.sector.number → ⊥) → CarriedBy y z (candidates_from (good h) (p + length g) (joined ks))
      → CarriedBy y z (candidates_from (good h) p (joined (g ∷ ks)))
  unfolding carrying sector_in
  carried_later m i x h p last g ks s v t c a n b =
      let is : count_number (rest_of i g) ≡ s.number = sym (ap (λ (k : Sector). k.number) v.sector_is) in
      record {
        last = b.last;
        well = b.well;
        alone = ap (carrying y.sector.number) (candidates_read m i x h p last g ks s v t c a) ∙ rw (is, ne_eqb s.number y.sector.number n) b.alone;
      }

  -- Of spans that read as sectors with different numbers.
  pub carried_by : (m : Home) (i : ℕ) (x : Settled) (h p : ℕ) (gs : List (List ℕ)) (ss : List Sector) (k : Member y (placed_from p gs ss)) → Reads m i x p gs ss → Shape i gs
      → clean_spans i gs ≡ true → AtPosition i h p → Distinct (numbers_of (placed_from p gs ss)) → CarriedBy y z (candidates_from (good h) p (joined (altered_spans y z i p gs ss k)))
  unfolding placed_from altered_spans clean_spans
  carried_by m i x h p [] ss k r t c a d = absurd k
  carried_by m i x h p (g ∷ gs) [] k r t c a d = absurd k
  carried_by m i x h p (g ∷ gs) (s ∷ ss) (inl e) r t c a d = carried_first m i x h p g gs s ss r t c a d e
  carried_by m i x h p (g ∷ gs) (s ∷ ss) (inr k) r t c a d =
      let q = and_both (clean_span i g) (clean_spans (suc i) gs) c in
      let tail : List Placed = placed_from (p + length g) gs ss in
      let v = read_inv m i x p (none gs) g s r.0 in
      let ks : List (List ℕ) = altered_spans y z (suc i) (p + length g) gs ss k in
      let rest = shape_tail i g gs t in
      carried_later m i x h p (none gs) g ks s v (shape_cons i g ks (shape_head i g gs t) (shape_altered y z (suc i) (p + length g) gs ss k u rest q.1))
      (and_make q.0 (clean_altered y z (suc i) (p + length g) gs ss k u rest q.1)) a
      (λ n. false-true (sym d.0 ∙ ap (λ (j : ℕ). among j (numbers_of tail)) n ∙ member_among y tail k))
      (carried_by m (suc i) (settle x s) h (p + length g) gs ss k r.1 rest q.1 (position_next i h p (length g) a (read_some m i x (none gs) g s v)) d.1)
