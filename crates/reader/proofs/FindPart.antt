-- Laws of Find: the only candidate that carries S, and the part of it that is asked for.
use mathlib.Core.Path.{◌≡◌, ap, ◌∙◌, sym}
use Prim.Native.Nat.{ℕ, ◌+◌, ◌≤◌}
use native.Mathlib.Omega.{arith}
use mathlib.Core.Bool.{Bool, true, false}
use mathlib.Core.List.{List, [], ◌∷◌}
use lib.ListN.{length, take, drop, length-take, length-drop}
use lib.Dec.{eqb, leb}
use borrow.Author.Tests.{eq-eqb, ne_eqb, leb-true}
use Rattle.base.specs.Pick.{pick}
use Rattle.format.specs.Answer.{lent_wrong, sector_missing, sector_repeated, Answer, done, as_refusal}
use Rattle.format.specs.Judged.{Judged, good, refused, answer_of}
use Rattle.format.specs.Lent.{lent_for_reading, cells, length_right}
use Rattle.format.specs.Home.{find_home}
use Rattle.format.specs.Count.{count_number}
use Rattle.format.specs.Candidate.{Candidate, candidates}
use Rattle.format.specs.Find.{carrying, only, candidate_part, find_cells, find}
use Rattle.format.specs.Blocks.{Wanted, Part, part_at, blocks_at, judge_fit, wanted_part, part_in, offset_of, length_of}
use Rattle.format.proofs.Sector.BlocksJudged.{block_fits, fit_good, fit_zero, part_zero}
use Rattle.reader.specs.Finding.{as_candidate, as_part}
use Rattle.reader.specs.declared.candidate.Candidate.{Candidate as CandidateCode}
use Rattle.reader.specs.declared.finding.Part.{Part as PartCode}
use Rattle.reader.proofs.CandidateNext.{candidates_at, carrying_first, none_first}
use Rattle.format.proofs.Find.FindParts.{rest_place}
use Rattle.format.specs.declared.Refusal.{Refusal}
use Rattle.format.proofs.Base.Judged.{refusal_is, refusal_number}
use Rattle.format.proofs.Track.Pairs.{lent_length}
use Rattle.base.proofs.Tests.{and_both}

-- A judgement whose answer is that of a refusal of the code is refused by it.
pub refused_by : {A : Type 0} (j : Judged A) (e : Refusal) → as_refusal e ≡ answer_of j → j ≡ refused (as_refusal e)
refused_by j e h = refusal_is j (as_refusal e) h (refusal_number e)

-- A candidate that carries s is kept,
pub carrying_here : (s : ℕ) (x : Candidate) (ys : List Candidate) → count_number x.rest ≡ s → carrying s (x ∷ ys) ≡ x ∷ carrying s ys
unfolding carrying
carrying_here s x ys e = rw (eq-eqb (count_number x.rest) s e)

-- and any other is passed.
pub carrying_other : (s : ℕ) (x : Candidate) (ys : List Candidate) → (count_number x.rest ≡ s → ⊥) → carrying s (x ∷ ys) ≡ carrying s ys
unfolding carrying
carrying_other s x ys n = rw (ne_eqb (count_number x.rest) s n)

-- What Find gives of the cells c, where home opens by h.
module _ (s : ℕ) (w : Wanted) (c : List ℕ) (h : Judged ℕ) (f : h ≡ find_home c) where
  all_carrying : carrying s (candidates c) ≡ carrying s (candidates_at h 0 c)
  unfolding candidates
  all_carrying = rw f

  -- No candidate carries s.
  pub find_none : [] ≡ take 1 (carrying s (candidates_at h 0 c)) → find_cells s w c ≡ refused sector_missing
  unfolding find_cells only
  find_none e = rw (all_carrying, none_first (carrying s (candidates_at h 0 c)) e)

  module _ (x : Candidate) (e : x ∷ [] ≡ take 1 (carrying s (candidates_at h 0 c))) where
    both : carrying s (candidates c) ≡ x ∷ carrying s (candidates_at h (x.place + 1) c)
    both = all_carrying ∙ (carrying_first s h 0 c x e).2

    -- A second one carries s too.
    pub find_repeated : (y : Candidate) → y ∷ [] ≡ take 1 (carrying s (candidates_at h (x.place + 1) c)) → find_cells s w c ≡ refused (sector_repeated y.place)
    unfolding find_cells only
    find_repeated y k = rw (both, (carrying_first s h (x.place + 1) c y k).2)

    -- It is the only one.
    pub find_only : [] ≡ take 1 (carrying s (candidates_at h (x.place + 1) c)) → find_cells s w c ≡ candidate_part w x
    unfolding find_cells only
    find_only k = rw (both, none_first (carrying s (candidates_at h (x.place + 1) c)) k)

-- The part asked for of the candidate x of the track t, where r follows its opening.
module _ (w : Wanted) (t : List ℕ) (x : CandidateCode) (r : List ℕ) (e : r ≡ (as_candidate t x).rest) where
  -- The candidate, and where its count's bytes begin.
  abbrev y : Candidate
  y = as_candidate t x

  abbrev q : ℕ
  q = rest_place y

  fit_here : judge_fit y.place y.last y.rest ≡ judge_fit x.place x.last r
  fit_here = ap (judge_fit x.place x.last) (sym e)

  wanted_here : wanted_part w (blocks_at q y.rest) ≡ wanted_part w (blocks_at q r)
  wanted_here = ap (λ (z : List ℕ). wanted_part w (blocks_at q z)) (sym e)

  -- Its blocks do not fit.
  pub part_short : (a : Refusal) → as_refusal a ≡ answer_of (judge_fit x.place x.last r) → refused (as_refusal a) ≡ candidate_part w (as_candidate t x)
  unfolding candidate_part
  part_short a h = sym (rw (fit_here ∙ refused_by (judge_fit x.place x.last r) a h))

  -- They fit.
  module _ (i : done ≡ answer_of (judge_fit x.place x.last r)) where
    fitting : judge_fit x.place x.last r ≡ good tt
    fitting = fit_zero x.place x.last r (ap (λ (b : Answer). b.number) (sym i))

    -- The block asked for, with its check and closing byte, lies within the track.
    pub part_inside : q + offset_of w r + 6 + length_of w r + 3 ≤ length t
    part_inside =
        let l : length r ≡ length (take x.size (drop q t)) = ap length e in
        omega (arith, l, block_fits w x.last r (fit_good x.place x.last r tt fitting), length-take x.size (drop q t), length-drop q t)

    -- It is wrong.
    pub part_refused : (b : Refusal) → as_refusal b ≡ answer_of (wanted_part w (blocks_at q r)) → refused (as_refusal b) ≡ candidate_part w (as_candidate t x)
    unfolding candidate_part
    part_refused b h = sym (rw (fit_here ∙ fitting) (wanted_here ∙ refused_by (wanted_part w (blocks_at q r)) b h))

    -- It is right.
    pub part_found : done ≡ answer_of (wanted_part w (blocks_at q r)) → good (part_in w q r) ≡ candidate_part w (as_candidate t x)
    unfolding candidate_part
    part_found h = sym (rw (fit_here ∙ fitting) (wanted_here ∙ part_zero w q r (ap (λ (c : Answer). c.number) (sym h))))

-- A part of k bytes from place p on lies within n bytes.
pub found_inside : (x : PartCode) (p k n : ℕ) → as_part x ≡ part_at p k → p + k ≤ n → x.start + x.size ≤ n
unfolding part_at
found_inside x p k n e l =
    let a : x.start ≡ pick (eqb k 0) 0 p = ap (λ (y : Part). y.start) e in
    let b : x.size ≡ k = ap (λ (y : Part). y.size) e in
    omega (arith, go (eqb k 0))
  where
    go : (b : Bool) → pick b 0 p ≤ p
    go true = omega arith
    go false = omega arith

-- A track that is lent within the rule has 4,002 bytes at most.
pub lent_few : (t m : List ℕ) → lent_for_reading t m ≡ true → length t ≤ 4002
unfolding length_right
lent_few t m e = leb-true (length t) 4002 (and_both (leb 3815 (length t)) (leb (length t) 4002) (lent_length t m e).1).1

-- A pair that is lent out of rule gives 1, any other what its cells give.
pub find_wrong : (s : ℕ) (w : Wanted) (t m : List ℕ) → lent_for_reading t m ≡ false → find s w t m ≡ refused lent_wrong
unfolding find
find_wrong s w t m l = rw l

pub find_cells_lem : (s : ℕ) (w : Wanted) (t m : List ℕ) → lent_for_reading t m ≡ true → find s w t m ≡ find_cells s w (cells t m)
unfolding find
find_cells_lem s w t m l = rw l
