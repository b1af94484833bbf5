-- Laws of one candidate: its bytes are a part of the track, and when it stands.
use mathlib.Core.Path.{◌≡◌, refl, sym, ap, ◌∙◌}
use Prim.Native.Nat.{ℕ, ◌+◌, ◌-◌, ◌≤◌, ◌<◌}
use native.Mathlib.Omega.{arith}
use mathlib.Core.Bool.{Bool, true, false, ◌&&◌}
use mathlib.Core.List.{List, [], ◌∷◌}
use lib.ListN.{length, take, drop, length-drop}
use borrow.Author.Tests.{le-leb, lt-leb, eq-eqb, ne_eqb}
use Rattle.base.specs.Pick.{pick}
use Rattle.format.specs.Judged.{Judged, good}
use Rattle.format.specs.Lent.{cells}
use Rattle.format.specs.Opening.{starts_with, plain_opening, opens}
use Rattle.format.specs.Home.{first_count_place}
use Rattle.format.specs.Count.{count_fits, count_closed}
use Rattle.format.specs.Span.{runs_to_index, span_length}
use Rattle.format.specs.Sector.{opening_length}
use Rattle.format.specs.Candidate.{Candidate, first_opens_at, candidate_at, count_passes, stands_at}
use Rattle.format.proofs.Track.Pairs.{length_cells}
use Rattle.format.proofs.Find.CandidateBytes.{span_rest_length, span_rest_bytes}
use Rattle.search.proofs.Run.{span_le}
use Rattle.reader.specs.Finding.{as_candidate, passing, standing_at}
use Rattle.reader.specs.declared.candidate.Candidate.{Candidate as CandidateCode}

-- A part by its start and its end.
pub part_is : (t : List ℕ) (n p q : ℕ) → p ≡ q → take (p + n - p) (drop p t) ≡ take n (drop q t)
part_is t n p q e = let k : p + n - p ≡ n = omega arith in rw (← e, k)

-- A span that is not empty ends within the track.
pub span_inside : (t m : List ℕ) (p o n : ℕ) → n ≡ span_length o (drop p (cells t m)) → 0 < n → p + n ≤ length t
span_inside t m p o n e l = omega (arith, span_le o (drop p (cells t m)), length-drop p (cells t m), length_cells t m)

-- The count at place p of a track t with the marks m: its opening has o cells, and its span n, by which it runs to index or not; k bytes follow the opening in it.
module _ (t m : List ℕ) (first last : Bool) (p o n k : ℕ) (eo : o ≡ opening_length first)
    (en : n ≡ span_length o (drop p (cells t m))) (el : last ≡ runs_to_index o (drop p (cells t m))) (ek : k ≡ n - o) where
  -- The candidate that it may be.
  abbrev opened : CandidateCode
  opened = record { place = p; first = first; last = last; size = k }

  size_is : k ≡ span_length (opening_length first) (drop p (cells t m)) - opening_length first
  size_is = omega (arith, en ∙ ap (λ (i : ℕ). span_length i (drop p (cells t m))) eo, eo)

  opened_is : candidate_at first p (drop p (cells t m)) ≡ as_candidate t opened
  unfolding candidate_at
  opened_is =
      let l : last ≡ runs_to_index (opening_length first) (drop p (cells t m)) = el ∙ ap (λ (i : ℕ). runs_to_index i (drop p (cells t m))) eo in
      rw (← l, span_rest_bytes (opening_length first) p k t m size_is)

  -- The bytes that are looked at are those that follow its opening.
  looked_at : take (p + o + k - (p + o)) (drop (p + o) t) ≡ (as_candidate t opened).rest
  looked_at = part_is t k (p + o) (p + opening_length first) (ap (λ (i : ℕ). p + i) eo)

  length_looked : length (as_candidate t opened).rest ≡ k
  length_looked =
      ap length (sym (span_rest_bytes (opening_length first) p k t m size_is)) ∙ span_rest_length (opening_length first) (drop p (cells t m)) ∙ sym size_is

  -- It lies in its span and is closed.
  pub passing_yes : 12 ≤ k → count_closed (take (p + o + k - (p + o)) (drop (p + o) t)) ≡ true
      → passing first p (drop p (cells t m)) ≡ as_candidate t opened ∷ []
  unfolding passing count_passes count_fits
  passing_yes l e =
      rw (opened_is, le-leb 12 (length (as_candidate t opened).rest) (omega (arith, length_looked)), sym (ap count_closed looked_at) ∙ e)

  -- It is not closed.
  pub passing_open : count_closed (take (p + o + k - (p + o)) (drop (p + o) t)) ≡ false → passing first p (drop p (cells t m)) ≡ []
  unfolding passing count_passes
  passing_open e = rw (opened_is, sym (ap count_closed looked_at) ∙ e) (go (count_fits (as_candidate t opened).rest))
    where
      go : (b : Bool) → ◌≡◌ {A = List Candidate} (pick (b && false) (as_candidate t opened ∷ []) []) []
      go true = refl
      go false = refl

  -- It does not lie in its span.
  pub passing_short : k < 12 → passing first p (drop p (cells t m)) ≡ []
  unfolding passing count_passes count_fits
  passing_short l = rw (opened_is, lt-leb 12 (length (as_candidate t opened).rest) (omega (arith, length_looked)))

-- Whether sector 0's count opens at p, by the place h of home.
module _ (h p : ℕ) (c : List ℕ) where
  pub first_elsewhere : (p ≡ first_count_place h → ⊥) → first_opens_at (good h) p c ≡ false
  unfolding first_opens_at
  first_elsewhere n = rw (ne_eqb p (first_count_place h) n)

  pub first_here : p ≡ first_count_place h → first_opens_at (good h) p c ≡ starts_with plain_opening c
  unfolding first_opens_at
  first_here e = rw (eq-eqb p (first_count_place h) e)

-- Which count opens at p.
module _ (h : Judged ℕ) (p : ℕ) (c : List ℕ) where
  -- Sector 0's.
  pub stands_first : first_opens_at h p c ≡ true → standing_at h p c ≡ passing true p c
  unfolding standing_at stands_at passing
  stands_first e = rw e

  -- A later one.
  pub stands_later : first_opens_at h p c ≡ false → opens c ≡ true → standing_at h p c ≡ passing false p c
  unfolding standing_at stands_at passing
  stands_later e o = rw (e, o)

  -- None.
  pub stands_nowhere : first_opens_at h p c ≡ false → opens c ≡ false → standing_at h p c ≡ []
  unfolding standing_at stands_at
  stands_nowhere e o = rw (e, o)
