-- No place, start, size or field that Find, Pair find and Walk give is too great for its bits.
use mathlib.Core.Path.{◌≡◌, refl, ap}
use Prim.Native.Nat.{ℕ, suc, ◌+◌, ◌≤◌, ◌<◌}
use native.Mathlib.Omega.{arith}
use mathlib.Core.Bool.{Bool, true}
use mathlib.Core.List.{List, [], ◌∷◌}
use lib.ListN.{length, get_or, length-append, length-drop}
use lib.Dec.{leb, eqb}
use Rattle.format.specs.Answer.{Answer, lent_wrong, first_count_missing}
use Rattle.format.specs.Fault.{Fault, Tested, sound, faulty}
use Rattle.format.specs.Judged.{Judged, good, refused, then, require, require_sound}
use Rattle.format.specs.Lent.{lent_for_reading, cells, unmarked}
use Rattle.format.specs.Opening.{starts_with, plain_opening}
use Rattle.format.specs.Flag.{condition}
use Rattle.format.specs.Home.{Home, find_home, judge_home, first_count_place}
use Rattle.format.specs.Count.{unsettled, count_number}
use Rattle.format.specs.Block.{blocks_fit}
use Rattle.format.specs.Span.{span_rest}
use Rattle.format.specs.Sector.{opening_length, judge_count}
use Rattle.format.specs.Accept.{Accepted, accept}
use Rattle.format.specs.Candidate.{Candidate, first_opens_at, candidate_at, stands_at, candidates_from, candidates}
use Rattle.format.specs.Find.{carrying, only, candidate_part, find_cells, find}
use Rattle.format.specs.Blocks.{Wanted, Part, part_at, wanted_part, blocks_at, judge_fit, part_in, offset_of, length_of, test_of, wrong_at}
use Rattle.format.specs.Walk.{Visited, visited, next_from, step}
use Rattle.format.specs.PairFind.{Paired, from_first_count, judge_first_count, judge_first, pair_agrees, find_on_second, find_by_flag, pair_find}
use Rattle.base.proofs.Tests.{cases}
use Rattle.format.proofs.Cells.Opening.{unmarked_at}
use Rattle.format.proofs.Track.HomeLocal.{home_window}
use Rattle.format.proofs.Find.CandidateBytes.{after_front}
use Rattle.format.proofs.Sector.BlocksJudged.{block_fits, wrong_row, part_judged, fit_good, part_in_is}
use Rattle.station.proofs.Places.{Row, Within, within_then, within_require, cells_few, home_within, count_within, accept_within, fit_within}

-- A candidate that lies within 4,002 cells and has bytes for its fields.
record Small (x : Candidate) : Type 0 where
  place_few : x.place ≤ 4002
  rest_few : 1 ≤ length x.rest → x.place + opening_length x.first + length x.rest ≤ 4002
  bytes : unmarked x.rest ≡ true

-- All candidates are so.
abbrev AllSmall : List Candidate → Type 0
AllSmall [] = Unit {0}
AllSmall (x ∷ xs) = Small x × AllSmall xs

-- A candidate at place p of a track.
at_small : (first : Bool) (p : ℕ) (c : List ℕ) → p + length c ≤ 4002 → Small (candidate_at first p c)
unfolding candidate_at
at_small first p c l =
    let o : ℕ = opening_length first in
    let f = after_front o c in
    let n = ap length f.1 in
    let a = length-append (span_rest o c) f.0 in
    record { place_few = omega arith; rest_few = λ z. omega (arith, n, a, length-drop o c); bytes = f.2 }

-- The candidates from place p on.
from_small : (h : Judged ℕ) (p : ℕ) (c : List ℕ) → p + length c ≤ 4002 → AllSmall (candidates_from h p c)
unfolding candidates_from
from_small h p [] l = tt
from_small h p (y ∷ c) l =
    let r = from_small h (suc p) c (omega arith) in
    cases (stands_at h p (y ∷ c)) (λ e. rw e (at_small (first_opens_at h p (y ∷ c)) p (y ∷ c) l, r)) (λ e. rw e r)

-- The candidates of a track that is lent within the rule.
candidates_small : (t m : List ℕ) → lent_for_reading t m ≡ true → AllSmall (candidates (cells t m))
unfolding candidates
candidates_small t m e = from_small (find_home (cells t m)) 0 (cells t m) (omega (arith, cells_few t m e))

-- Those of them that carry S.
carrying_small : (s : ℕ) (xs : List Candidate) → AllSmall xs → AllSmall (carrying s xs)
unfolding carrying
carrying_small s [] a = tt
carrying_small s (x ∷ xs) a =
    let r = carrying_small s xs a.1 in
    cases (eqb (count_number x.rest) s) (λ e. rw e (a.0, r)) (λ e. rw e r)

-- A part that is found ends within 4,002 cells; a refusal is one of the table, with no greater place.
abbrev pub Inside : Judged Part → Type 0
Inside (good x) = x.start + x.size ≤ 4002
Inside (refused a) = Row a

-- A test, whose refusal is a row of the table.
inside_require : (b : Bool) (a : Answer) (j : Judged Part) → Row a → (b ≡ true → Inside j) → Inside (require b a j)
inside_require b a j h f = cases b (λ e. rw e (f e)) (λ e. rw e h)

-- A test of a block, whose refusals are rows of the table.
inside_sound : (t : Tested) (a : Fault → Answer) (j : Judged Part) → ((f : Fault) → Row (a f)) → Inside j → Inside (require_sound t a j)
inside_sound sound a j h k = k
inside_sound (faulty f) a j h k = h f

-- What follows a judgement that answers so.
inside_then : {A : Type 0} (j : Judged A) (k : A → Judged Part) → Within j → ((x : A) → j ≡ good x → Inside (k x)) → Inside (then j k)
inside_then (good x) k h f = f x refl
inside_then (refused a) k h f = h

-- A part of n bytes from place p on, or an empty one.
part_inside : (p n : ℕ) → p + n ≤ 4002 → Inside (good (part_at p n))
unfolding part_at
part_inside p n l = cases (eqb n 0) (λ e. rw e (omega arith)) (λ e. rw e l)

-- The part asked for of a candidate.
wanted_inside : (w : Wanted) (x : Candidate) → Small x → blocks_fit x.last x.rest ≡ true → Inside (wanted_part w (blocks_at (x.place + opening_length x.first) x.rest))
wanted_inside w x a f =
    let r : List ℕ = x.rest in
    let q : ℕ = x.place + opening_length x.first in
    let b = block_fits w x.last r f in
    let l = a.rest_few (omega arith) in
    rw (part_judged w q r)
    (inside_sound (test_of w r) (λ f. wrong_at w f (q + offset_of w r)) (good (part_in w q r))
    (λ f. let n = wrong_row w f (q + offset_of w r) in (n.1, omega (arith, n.2)))
    (rw (part_in_is w q r) (part_inside (q + offset_of w r + 6) (length_of w r) (omega arith))))

-- The part asked for of the only candidate.
only_inside : (w : Wanted) (xs : List Candidate) → AllSmall xs
    → Inside (then (only xs) (candidate_part w))
unfolding only candidate_part
only_inside w [] a = (omega arith, omega arith)
only_inside w (x ∷ []) a =
    inside_then (judge_fit x.place x.last x.rest) _ (fit_within x.place x.last x.rest a.0.place_few) (λ u f.
    wanted_inside w x a.0 (fit_good x.place x.last x.rest u f))
only_inside w (x ∷ y ∷ r) a = (omega arith, a.1.0.place_few)

-- Find gives no start, size or place beyond 4,002.
pub find_inside : (s : ℕ) (w : Wanted) (t m : List ℕ) → Inside (find s w t m)
unfolding find find_cells
find_inside s w t m =
    inside_require (lent_for_reading t m) lent_wrong _ (omega arith, omega arith) (λ e.
    only_inside w (carrying s (candidates (cells t m))) (carrying_small s (candidates (cells t m)) (candidates_small t m e)))

-- The first track of a pair.
first_within : (t m : List ℕ) → Within (judge_first t m)
unfolding judge_first judge_first_count
first_within t m =
    let c : List ℕ = cells t m in
    within_require (lent_for_reading t m) lent_wrong _ (omega arith, omega arith) (λ _.
    within_then (judge_home c) _ (home_within c) (λ h e.
    let w = home_window c h e in
    let p : ℕ = first_count_place h.place in
    within_require (starts_with plain_opening (from_first_count h c)) (first_count_missing p) _ (omega arith, omega arith) (λ _.
    within_then (judge_count h 0 unsettled p (span_rest 6 (from_first_count h c))) _
    (count_within h 0 unsettled p (span_rest 6 (from_first_count h c)) (omega arith)) (λ _ _. (omega arith, omega arith)))))

-- The same of two tracks, of which 0 is the first and 1 the second.
abbrev pub InsidePair : Paired → Type 0
InsidePair r = (r.which ≤ 1) × Inside r.outcome

-- With flag 10 of the first.
second_inside : (s : ℕ) (w : Wanted) (h : Home) (c u v : List ℕ) (j : Judged Accepted) → Within j → InsidePair (find_on_second s w h c u v j)
unfolding find_on_second
second_inside s w h c u v (refused a) l = (omega arith, l)
second_inside s w h c u v (good g) l =
    cases (pair_agrees h c g.home (cells u v))
    (λ e. rw e (omega arith, find_inside s w u v))
    (λ e. rw e (omega arith, (omega arith, omega arith)))

-- By the flag of the first.
flag_inside : (s : ℕ) (w : Wanted) (t m u v : List ℕ) (j : Judged Home) → Within j → InsidePair (find_by_flag s w t m u v j)
unfolding find_by_flag
flag_inside s w t m u v (refused a) l = (omega arith, l)
flag_inside s w t m u v (good h) l =
    cases (eqb (condition h.flag) 3)
    (λ e. rw e (omega arith, (omega arith, omega arith)))
    (λ e. rw e (cases (eqb (condition h.flag) 2)
    (λ d. rw d (second_inside s w h (cells t m) u v (accept u v) (accept_within u v)))
    (λ d. rw d (omega arith, find_inside s w t m))))

-- Pair find gives no start, size or place beyond 4,002, and speaks of track 0 or 1.
pub pair_inside : (s : ℕ) (w : Wanted) (t m u v : List ℕ) → InsidePair (pair_find s w t m u v)
unfolding pair_find
pair_inside s w t m u v = flag_inside s w t m u v (judge_first t m) (first_within t m)

-- A candidate that a step comes to: its place within 4,002, flag, S and KL bytes, DL two bytes. A refusal is a row of the table with place 0.
abbrev pub Fits : Judged Visited → Type 0
Fits (good v) = (v.place ≤ 4002) × (v.flag < 256) × (v.number < 256) × (v.key_length < 256) × (v.data_length < 65536)
Fits (refused a) = (a.number ≤ 16) × (a.place ≡ 0)

-- The fields of a candidate.
visited_fits : (x : Candidate) → Small x → Fits (good (visited x))
unfolding visited
visited_fits x a =
    let b : (i : ℕ) → get_or x.rest i 0 < 256 = λ i. unmarked_at x.rest i a.bytes in
    (a.place_few, b 0, b 5, b 6, omega (arith, b 7, b 8))

-- The first candidate from a place on.
next_fits : (p : ℕ) (xs : List Candidate) → AllSmall xs → Fits (next_from p xs)
unfolding next_from
next_fits p [] a = (omega arith, refl)
next_fits p (x ∷ xs) a = cases (leb p x.place) (λ e. rw e (visited_fits x a.0)) (λ e. rw e (next_fits p xs a.1))

-- Each field that Walk gives fits its bits.
pub step_fits : (p : ℕ) (t m : List ℕ) → Fits (step p t m)
unfolding step
step_fits p t m = cases (lent_for_reading t m) (λ e. rw e (next_fits p (candidates (cells t m)) (candidates_small t m e))) (λ e. rw e (omega arith, refl))
