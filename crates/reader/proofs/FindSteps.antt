-- Laws of a step of Walk.
use mathlib.Core.Path.{◌≡◌, refl, sym, ap, ◌∙◌}
use Prim.Native.Nat.{ℕ, zero, suc, ◌+◌}
use native.Mathlib.Omega.{arith}
use mathlib.Core.Bool.{true, false}
use mathlib.Core.List.{List, [], ◌∷◌}
use lib.ListN.{take, drop}
use borrow.Author.Tests.{lt-leb}
use Rattle.format.specs.Answer.{lent_wrong, sector_missing}
use Rattle.format.specs.Judged.{Judged, good, refused}
use Rattle.format.specs.Lent.{lent_for_reading, cells}
use Rattle.format.specs.Home.{find_home}
use Rattle.format.specs.Count.{count_flag, count_number, key_length, data_length}
use Rattle.format.specs.Candidate.{Candidate, candidate_at, stands_at, candidates_from, candidates}
use Rattle.format.specs.Walk.{Visited, visited, next_from, step}
use Rattle.base.proofs.Tests.{cases}
use Rattle.format.proofs.Find.WalkSteps.{next_here}
use Rattle.reader.proofs.CandidateNext.{candidates_at, candidates_first, none_first}

-- The candidates before place p are passed.
next_passed : (h : Judged ℕ) (k q p : ℕ) (c : List ℕ) → q + k ≡ p → next_from p (candidates_from h q c) ≡ next_from p (candidates_from h p (drop k c))
unfolding candidates_from next_from candidate_at
next_passed h zero q p c e = let f : q ≡ p = omega arith in rw f
next_passed h (suc k) q p [] e = refl
next_passed h (suc k) q p (y ∷ c) e =
    let r = next_passed h k (suc q) p c (omega arith) in
    cases (stands_at h q (y ∷ c))
    (λ s. rw (s, lt-leb p q (omega arith)) r)
    (λ s. rw s r)

-- The candidates from place p on of the cells c are those by the place h of home.
module _ (c : List ℕ) (h : Judged ℕ) (p : ℕ) (f : candidates_at h p c ≡ candidates_at (find_home c) p c) where
  next_at : next_from p (candidates c) ≡ next_from p (candidates_at h p c)
  unfolding candidates
  next_at = next_passed (find_home c) p 0 p c (omega arith) ∙ ap (next_from p) (sym f)

  -- A step comes to the first of them,
  pub next_good : (x : Candidate) → x ∷ [] ≡ take 1 (candidates_at h p c) → next_from p (candidates c) ≡ good (visited x)
  next_good x e =
      let r = candidates_first h p c x e in
      next_at ∙ ap (next_from p) r.2 ∙ next_here p x (candidates_at h (x.place + 1) c) r.0

  -- or there is none left.
  pub next_none : [] ≡ take 1 (candidates_at h p c) → next_from p (candidates c) ≡ refused sector_missing
  unfolding next_from
  next_none e = next_at ∙ ap (next_from p) (none_first (candidates_at h p c) e)

-- The step over a pair that is lent within the rule is the step of its cells.
pub step_lent : (p : ℕ) (t m : List ℕ) → lent_for_reading t m ≡ true → step p t m ≡ next_from p (candidates (cells t m))
unfolding step
step_lent p t m l = rw l

-- Over any other pair it answers 1.
pub step_wrong : (p : ℕ) (t m : List ℕ) → lent_for_reading t m ≡ false → step p t m ≡ refused lent_wrong
unfolding step
step_wrong p t m l = rw l

-- What a step gives of a candidate x, by the bytes r that follow its opening.
pub visited_is : (x : Candidate) (r : List ℕ) (f n k d : ℕ) → r ≡ x.rest → f ≡ count_flag r → n ≡ count_number r → k ≡ key_length r → d ≡ data_length r
    → ◌≡◌ {A = Visited} (record { place = x.place; flag = f; number = n; key_length = k; data_length = d }) (visited x)
unfolding visited
visited_is x r f n k d e a b u v =
    λ i. record {
      place = x.place;
      flag = (a ∙ ap count_flag e) i;
      number = (b ∙ ap count_number e) i;
      key_length = (u ∙ ap key_length e) i;
      data_length = (v ∙ ap data_length e) i;
    }
