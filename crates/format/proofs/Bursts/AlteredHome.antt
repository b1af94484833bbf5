-- A track that Accept accepted with any other bytes as information and check of home: its cells in parts, and that Find answers as before.
use mathlib.Core.Path.{◌≡◌, sym, ap, ◌∙◌}
use Prim.Native.Nat.{ℕ, ◌+◌, ◌≤◌}
use native.Mathlib.Omega.{arith}
use mathlib.Core.Bool.{true}
use mathlib.Core.List.{List, [], ◌∷◌, ◌++◌}
use lib.ListN.{length, take, drop, length-append}
use Rattle.base.specs.Laid.{laid_at}
use Rattle.base.proofs.Laid.{length_laid}
use Rattle.format.specs.Judged.{Judged, good}
use Rattle.format.specs.Lent.{cells, unmarked}
use Rattle.format.specs.Home.{find_home, first_count_place}
use Rattle.format.specs.Blocks.{Wanted, Part, info_of}
use Rattle.format.specs.Span.{joined}
use Rattle.format.specs.Accept.{Accepted, spans_of, accept}
use Rattle.format.specs.Burst.{of_home, info_place, checked_on, SameBut}
use Rattle.format.specs.Candidate.{Candidate, candidates_from, candidates}
use Rattle.format.specs.Find.{part_of, carrying, find_cells, find}
use Rattle.format.proofs.Sector.ReadsAs.{accepted_by}
use Rattle.format.proofs.Track.HomeLocal.{found_local}
use Rattle.format.proofs.Track.AcceptedSpans.{Track, accepted_track}
use Rattle.format.proofs.Track.Pairs.{accepted_pair, lent_length}
use Rattle.format.proofs.Find.AcceptedCandidates.{home_found, candidates_behind}
use Rattle.format.proofs.Find.FindSound.{find_hands_out}
use Rattle.format.proofs.Bursts.AlteredBytes.{CellParts, cell_parts, part_unmarked, unmarked_laid, whole_laid}

-- The track t with marks m, accepted as a, and u, which is the same but for information and check of home, and has bytes there too.
module _ (t m u : List ℕ) (a : Accepted) (e : accept t m ≡ good a) (bytes : unmarked (checked_on a of_home u) ≡ true) (same : SameBut (info_place a of_home) 7 t u)
    (as_long : length (checked_on a of_home u) ≡ length (checked_on a of_home t)) where
  -- The place of home,
  abbrev h : ℕ
  h = a.home.place

  -- information and check of home before and after,
  abbrev ys : List ℕ
  ys = checked_on a of_home t

  abbrev zs : List ℕ
  zs = checked_on a of_home u

  -- the cells before sector 0's count before and after,
  abbrev head : List ℕ
  head = take (first_count_place h) (cells t m)

  abbrev new : List ℕ
  new = laid_at (info_place a of_home) zs head

  -- and the spans behind them.
  abbrev gs : List (List ℕ)
  gs = spans_of a.home (cells t m)

  -- The cells of t and of u by the altered bytes.
  pub home_parts : CellParts (info_place a of_home) 7 t u m
  home_parts =
      let pair = accepted_pair t m a e in
      let v = accepted_track (cells t m) a pair.1 in
      let q : ℕ = info_place a of_home in
      let whole : head ++ joined gs ≡ cells t m = v.2 in
      let size : length head ≡ first_count_place h = v.1.head_length_holds in
      let long : q + 7 ≤ length t = omega (arith, (lent_length t m pair.0).0, ap length whole, length-append head (joined gs)) in
      let plain : unmarked (take 7 (drop q (cells t m))) ≡ true = ap (λ (l : List ℕ). unmarked (take 7 (drop q l))) (sym whole) ∙ part_unmarked [] head (joined gs) q q 7 (omega arith) (omega arith) v.1.head_unmarked in
      cell_parts q 7 t u m pair.0 long plain same as_long

  -- Home opens where it did.
  found_old : find_home (cells t m) ≡ good h
  found_old = home_found (cells t m) a.home (accepted_by (cells t m) a (accepted_pair t m a e).1).home_judged

  found_new : find_home (cells u m) ≡ good h
  unfolding find_home
  found_new =
      ap find_home home_parts.new_is
      ∙ found_local home_parts.front (ys ++ home_parts.back) (zs ++ home_parts.back) 15 23 h (ap find_home (sym home_parts.old_is) ∙ found_old) (omega (arith, home_parts.front_size))

  -- The candidates are those of before.
  same_candidates : candidates (cells u m) ≡ candidates (cells t m)
  unfolding candidates
  same_candidates =
      let v = accepted_track (cells t m) a (accepted_pair t m a e).1 in
      let k : Track head a.home gs v.0 = v.1 in
      let inside : info_place a of_home + 7 ≤ length head = omega (arith, k.head_length_holds) in
      let cells_new : cells u m ≡ new ++ joined gs =
      home_parts.new_is ∙ whole_laid [] head (joined gs) home_parts.front ys home_parts.back (info_place a of_home) 7 (v.2 ∙ home_parts.old_is) (omega (arith, home_parts.front_size)) home_parts.old_size inside zs home_parts.new_size in
      let behind : (xs : List ℕ) → length xs ≡ first_count_place h → unmarked xs ≡ true → candidates_from (good h) 0 (xs ++ joined gs) ≡ candidates_from (good h) (first_count_place h) (joined gs) =
      λ xs l n. candidates_behind xs h gs l n k.some_span k.shape k.clean in
      ap (λ (j : Judged ℕ). candidates_from j 0 (cells u m)) found_new
      ∙ ap (candidates_from (good h) 0) cells_new
      ∙ behind new (length_laid (info_place a of_home) zs head (omega (arith, home_parts.new_size, inside)) ∙ k.head_length_holds) (unmarked_laid (info_place a of_home) zs head bytes k.head_unmarked)
      ∙ sym (behind head k.head_length_holds k.head_unmarked)
      ∙ ap (candidates_from (good h) 0) v.2
      ∙ ap (λ (j : Judged ℕ). candidates_from j 0 (cells t m)) (sym found_old)

  -- So Find answers as before, whatever sector and part it is asked for,
  pub find_home_altered : (s : ℕ) (w : Wanted) → find s w u m ≡ find s w t m
  unfolding find find_cells
  find_home_altered s w = rw (home_parts.lent, (accepted_pair t m a e).0, same_candidates)

  -- and hands out the same bytes.
  pub part_home_altered : (s : ℕ) (w : Wanted) (part : Part) → find s w t m ≡ good part → part_of u part ≡ part_of t part
  part_home_altered s w part f =
      let x = find_hands_out s w t m part f in
      let y = find_hands_out s w u m part (find_home_altered s w ∙ f) in
      let both : y.0 ∷ [] ≡ x.0 ∷ [] = sym y.1.alone ∙ ap (carrying s) same_candidates ∙ x.1.alone in
      let one : y.0 ≡ x.0 = cc in
      y.1.bytes ∙ ap (λ (c : Candidate). info_of w c.rest) one ∙ sym x.1.bytes
