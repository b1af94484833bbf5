-- The judgements that look at no key and no data block: they never answer 10 or 11, and their second number is 0.
use mathlib.Core.Path.{◌≡◌, refl, sym, ap, ◌∙◌}
use Prim.Native.Nat.{ℕ, zero, suc}
use mathlib.Core.Bool.{Bool, true, false, ◌&&◌}
use mathlib.Core.List.{List, [], ◌∷◌}
use Rattle.std.specs.Prelude.{leb, ltb}
use Rattle.base.specs.Pick.{pick}
use Rattle.format.specs.Answer.{Answer}
use Rattle.format.specs.Judged.{Judged, good, refused, then, answer_of}
use Rattle.format.specs.BlockFault.{refuses_block, SecondNone}
use Rattle.format.specs.Opening.{opens}
use Rattle.format.specs.Home.{Home, home_from, find_home, judge_home_of, judge_home}
use Rattle.format.specs.Count.{Settled}
use Rattle.format.specs.Blocks.{judge_fit}
use Rattle.format.specs.Sector.{judge_count}
use Rattle.format.specs.Accept.{Placed, judge_marks, judge_numbers}
use Rattle.format.specs.Candidate.{Candidate}
use Rattle.format.specs.Find.{only}

-- What holds of the answer of each step holds of the answer of the whole.
module _ (P : Answer → Type 0) where
  -- One judgement after another.
  pub then_right : {A B : Type 0} (j : Judged A) (k : A → Judged B) → P (answer_of j) → ((x : A) → P (answer_of (k x))) → P (answer_of (then j k))
  then_right (good x) k h f = f x
  then_right (refused a) k h f = h

  -- A choice; a test is one between going on and its refusal.
  pub pick_right : {A : Type 0} (b : Bool) (j k : Judged A) → P (answer_of j) → P (answer_of k) → P (answer_of (pick b j k))
  pick_right true j k h f = h
  pick_right false j k h f = f

-- What is judged so is refused by another answer than 10 and 11.
pub other_refused : {A : Type 0} (j : Judged A) (a : Answer) → SecondNone (answer_of j) → j ≡ refused a → refuses_block a ≡ false
other_refused j a n e = sym (ap (λ (k : Judged _). refuses_block (answer_of k)) e) ∙ n.0

-- The place at which home opens.
place_other : (n q : ℕ) (c : List ℕ) → SecondNone (answer_of (home_from n q c))
unfolding home_from
place_other zero q c = (refl, refl)
place_other (suc n) q c = search (pick_right SecondNone, place_other n)

-- Home.
pub home_other : (c : List ℕ) → SecondNone (answer_of (judge_home c))
unfolding judge_home judge_home_of find_home
home_other c = search (then_right SecondNone, pick_right SecondNone, place_other)

-- The marks.
pub marks_other : (c : List ℕ) (e k q : ℕ) → SecondNone (answer_of (judge_marks e k q c))
unfolding judge_marks
marks_other [] e k q = (refl, refl)
marks_other (x ∷ c) e zero q =
    pick_right SecondNone (opens (x ∷ c) && leb e q) _ _ (marks_other c e 7 (suc q))
    (pick_right SecondNone (ltb x 256) _ _ (marks_other c e 0 (suc q)) (refl, refl))
marks_other (x ∷ c) e (suc k) q = marks_other c e k (suc q)

-- A count.
pub count_other : (h : Home) (i : ℕ) (x : Settled) (p : ℕ) (r : List ℕ) → SecondNone (answer_of (judge_count h i x p r))
unfolding judge_count
count_other h i x p r = search (pick_right SecondNone)

-- That its blocks and the least gap fit.
pub fit_other : (p : ℕ) (last : Bool) (r : List ℕ) → SecondNone (answer_of (judge_fit p last r))
unfolding judge_fit
fit_other p last r = search (pick_right SecondNone)

-- The numbers of the sectors.
pub numbers_other : (xs : List Placed) (seen : List ℕ) → SecondNone (answer_of (judge_numbers seen xs))
unfolding judge_numbers
numbers_other [] seen = (refl, refl)
numbers_other (x ∷ xs) seen = search (pick_right SecondNone, numbers_other xs)

-- The only candidate.
pub only_other : (xs : List Candidate) → SecondNone (answer_of (only xs))
unfolding only
only_other [] = (refl, refl)
only_other (x ∷ []) = (refl, refl)
only_other (x ∷ y ∷ r) = (refl, refl)
