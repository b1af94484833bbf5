-- A track that Accept accepted, after a burst in the count, the key or the data of a sector: what Find answers when asked for that sector.
use mathlib.Core.Path.{◌≡◌, refl, sym, ap, ◌∙◌}
use Prim.Native.Nat.{ℕ, ◌+◌}
use mathlib.Core.List.{List, []}
use borrow.Author.Tests.{eq-eqb}
use Rattle.format.specs.Answer.{sector_missing}
use Rattle.format.specs.Fault.{check_wrong}
use Rattle.format.specs.Judged.{Judged, good, refused}
use Rattle.format.specs.Lent.{cells}
use Rattle.format.specs.Home.{find_home, first_count_place}
use Rattle.format.specs.Count.{unsettled, count_number}
use Rattle.format.specs.Blocks.{Wanted, offset_of, wrong_at}
use Rattle.format.specs.Span.{joined}
use Rattle.format.specs.Accept.{Placed, placed_rest, placed_start, Accepted, accept}
use Rattle.format.specs.Burst.{of_count, of_block, HasField, info_place, check_answer, BurstIn}
use Rattle.format.specs.Candidate.{count_passes, candidates_from, candidates}
use Rattle.format.specs.Find.{carrying, only, find_cells, find}
use Rattle.format.proofs.Sector.FaultBytes.{tested_fault}
use Rattle.format.proofs.Track.AcceptedSpans.{Track}
use Rattle.format.proofs.Find.AcceptedCandidates.{home_found, candidates_behind}
use Rattle.format.proofs.Faults.FindFault.{faulty_find}
use Rattle.format.proofs.Bursts.AlteredSpan.{altered_spans, none_altered, shape_altered, clean_altered}
use Rattle.format.proofs.Bursts.AlteredCandidates.{candidate_with, CarriedBy, carried_by}
use Rattle.format.proofs.Bursts.AlteredSector.{AlteredSector}
use Rattle.format.proofs.Bursts.SectorBurst.{BlockRead, reached_on, fits_still, count_burst}
use Rattle.format.proofs.Bursts.AcceptBurst.{altered_count, altered_block, block_reads}

-- The candidates that carry the number of the sector y, of which bytes behind the count's opening are altered.
carried_altered : (t m u : List ℕ) (a : Accepted) (y : Placed) (q off n : ℕ) (v : AlteredSector t m u a y q off n) → CarriedBy y v.rest (candidates (cells u m))
unfolding candidates
carried_altered t m u a y q off n v =
    let k : Track v.head a.home v.spans v.sectors = v.track in
    let p : ℕ = first_count_place a.home.place in
    let gs : List (List ℕ) = altered_spans y v.rest 0 p v.spans v.sectors v.member in
    let found : candidates_from (find_home (cells u m)) 0 (cells u m) ≡ candidates_from (good a.home.place) p (joined gs) =
    ap (λ (j : Judged ℕ). candidates_from j 0 (cells u m)) (home_found (cells u m) a.home (reached_on t m u a y q off n v).0)
    ∙ ap (candidates_from (good a.home.place) 0) v.cells_are
    ∙ candidates_behind v.head a.home.place gs k.head_length_holds k.head_unmarked (none_altered y v.rest 0 p v.spans v.sectors v.member ∙ k.some_span)
    (shape_altered y v.rest 0 p v.spans v.sectors v.member v.unmarked_rest k.shape k.clean)
    (clean_altered y v.rest 0 p v.spans v.sectors v.member v.unmarked_rest k.shape k.clean) in
    rw found
    (carried_by y v.rest v.unmarked_rest v.length_rest a.home 0 unsettled a.home.place p v.spans v.sectors v.member k.reads k.shape k.clean refl v.distinct)

-- The track t with marks m, accepted as a, and u after a burst in a field of the sector y.
module _ (t m u : List ℕ) (a : Accepted) (e : accept t m ≡ good a) (y : Placed) where
  -- In its count: no candidate carries its number, and Find gives 12.
  pub find_count_burst : HasField a (of_count y) → BurstIn a (of_count y) t u → (w : Wanted) → find y.sector.number w u m ≡ refused sector_missing
  unfolding find find_cells only carrying count_passes
  find_count_burst k b w =
      let q : ℕ = info_place a (of_count y) in
      let v = altered_count t m u a e y k b in
      let c = carried_altered t m u a y q 0 11 v in
      let none : carrying y.sector.number (candidates (cells u m)) ≡ [] = c.alone ∙ rw (fits_still t m u a y q 0 11 v, count_burst t m u a y q v b.burst) in
      rw (v.lent, none)

  -- In the block w, as it is read then.
  find_block : (w : Wanted) (q off n : ℕ) (v : AlteredSector t m u a y q off n) → BlockRead t m u a y q off n v w
      → find y.sector.number w u m ≡ refused (wrong_at w check_wrong (placed_start y + offset_of w (placed_rest y)))
  unfolding carrying count_passes
  find_block w q off n v r =
      let s : ℕ = y.sector.number in
      let c = carried_altered t m u a y q off n v in
      let number : count_number v.rest ≡ s = r.number_is ∙ c.well.number_is in
      faulty_find s w u m check_wrong (placed_start y + offset_of w (placed_rest y)) (candidate_with y v.rest c.last)
      (record {
        lent = v.lent;
        alone = c.alone ∙ rw (fits_still t m u a y q off n v, r.closed, eq-eqb (count_number v.rest) s number);
        fits = r.fits c.last c.well.fits;
        place_is = ap (λ (i : ℕ). placed_start y + i) (sym r.place);
        fault = tested_fault w check_wrong v.rest r.wrong;
      })

  -- In its key or its data, asked for that one: Find gives Accept's answer for it, 10 or 11.
  pub find_block_burst : (w : Wanted) → HasField a (of_block w y) → BurstIn a (of_block w y) t u → find y.sector.number w u m ≡ refused (check_answer a (of_block w y))
  find_block_burst w k b = find_block w (info_place a (of_block w y)) _ _ (altered_block t m u a e w y k b) (block_reads t m u a e w y k b)
