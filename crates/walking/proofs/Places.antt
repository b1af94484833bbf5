-- The place that a reader has come to by a step, and that it fits.
use mathlib.Core.Path.{◌≡◌, sym, ap}
use Prim.Native.Nat.{ℕ, suc, ◌+◌, ◌≤◌, ◌<◌}
use native.Mathlib.Numerals.{add-one}
use native.Mathlib.Omega.{arith}
use mathlib.Core.Bool.{Bool, true, false}
use mathlib.Core.List.{List, [], ◌∷◌}
use lib.ListN.{length}
use lib.Dec.{leb}
use Rattle.format.specs.Answer.{Answer, lent_wrong}
use Rattle.format.specs.Judged.{Judged, good, refused}
use Rattle.format.specs.Lent.{cells}
use Rattle.format.specs.Home.{find_home}
use Rattle.format.specs.Candidate.{Candidate, stands_at, candidate_at, candidates_from, candidates}
use Rattle.format.specs.Walk.{Visited, visited, next_from, place_after}
use Rattle.format.proofs.Base.Judged.{good_inj, refused-good, require_good}
use Rattle.base.proofs.Tests.{cases}
use Rattle.format.proofs.Track.Pairs.{length_cells}
use Rattle.reader.specs.Finding.{as_visited}
use Rattle.reader.specs.declared.walk.Visited.{Visited as VisitedCode}
use Rattle.walking.specs.Walked.{judged_step, step_of, after_step}
use Rattle.walking.specs.declared.Walk.{Walk}

-- The places of the candidates lie below n.
abbrev Below : ℕ → List Candidate → Type 0
Below n [] = Unit {0}
Below n (x ∷ xs) = (x.place < n) × Below n xs

candidates_below : (h : Judged ℕ) (p n : ℕ) (c : List ℕ) → p + length c ≤ n → Below n (candidates_from h p c)
unfolding candidates_from candidate_at
candidates_below h p n [] l = tt
candidates_below h p n (x ∷ c) l =
    let r = candidates_below h (suc p) n c (omega arith) in
    cases (stands_at h p (x ∷ c))
    (λ e. rw e (omega arith, r))
    (λ e. rw e r)

next_below : (p n : ℕ) (xs : List Candidate) (v : Visited) → Below n xs → next_from p xs ≡ good v → v.place < n
unfolding next_from visited
next_below p n [] v b e = refused-good _ v e
next_below p n (x ∷ xs) v b e =
    cases (leb p x.place)
    (λ t. let q : visited x ≡ v = good_inj (visited x) v (rw t at e) in omega (arith, ap (λ (w : Visited). w.place) q, b.0))
    (λ t. next_below p n xs v b.1 (rw t at e))

-- A step comes to a place within the cells.
step_below : (lent : Bool) (p : ℕ) (t m : List ℕ) (v : Visited) → judged_step lent p t m ≡ good v → v.place < length (cells t m)
unfolding judged_step candidates
step_below lent p t m v e =
    let r = require_good lent lent_wrong (next_from p (candidates (cells t m))) v e in
    let n : ℕ = length (cells t m) in
    next_below p n (candidates (cells t m)) v (candidates_below (find_home (cells t m)) 0 n (cells t m) (omega arith)) r.1

-- The place of the candidate that a step of the code gives fits.
pub visit_below : (v : VisitedCode) (p : ℕ) (t m : List ℕ) → good (as_visited v) ≡ next_from p (candidates (cells t m)) → v.place < length t
unfolding judged_step
visit_below v p t m e = omega (arith, step_below true p t m (as_visited v) (sym e), length_cells t m)

-- The step of a pair that is lent within the rule, and of any other.
pub judged_lent : (lent : Bool) (p : ℕ) (t m : List ℕ) → lent ≡ true → judged_step lent p t m ≡ next_from p (candidates (cells t m))
unfolding judged_step
judged_lent lent p t m e = rw e

pub judged_wrong : (lent : Bool) (p : ℕ) (t m : List ℕ) → lent ≡ false → judged_step lent p t m ≡ refused lent_wrong
unfolding judged_step
judged_wrong lent p t m e = rw e

-- A reader goes behind the first byte of the candidate that its step gives,
pub step_moves : (w : Walk) (v : Visited) → good v ≡ step_of w → after_step w ≡ record { track = w.track; marks = w.marks; at = v.place + 1; lent = w.lent }
unfolding place_after
step_moves w v e = rw (← e, add-one)

-- and stays where it was where its step is refused.
pub step_stays : (w : Walk) (a : Answer) → refused a ≡ step_of w → after_step w ≡ w
unfolding place_after
step_stays w a e = rw (← e)
