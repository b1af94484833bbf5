-- The second number of every call, whatever is lent: 1, 2 or 3 with answers 10 and 11, and 0 with all others.
use mathlib.Core.Path.{◌≡◌, refl}
use Prim.Native.Nat.{ℕ, zero, suc, ◌≤◌}
use native.Mathlib.Omega.{arith}
use mathlib.Core.Bool.{Bool, true, false}
use mathlib.Core.List.{List, [], ◌∷◌}
use Rattle.base.specs.Pick.{pick}
use Rattle.base.proofs.Tests.{cases}
use Rattle.format.specs.Answer.{Answer}
use Rattle.format.specs.Fault.{Fault, opening_wrong, check_wrong, closing_wrong, fault_number, Tested, sound, faulty}
use Rattle.format.specs.Judged.{Judged, good, refused, require_sound, answer_of}
use Rattle.format.specs.Address.{Address}
use Rattle.format.specs.Home.{Home}
use Rattle.format.specs.Count.{Settled}
use Rattle.format.specs.BlockFault.{refuses_block, SecondRight, SecondNone}
use Rattle.format.specs.Blocks.{Wanted, the_key, the_data, blocks_at, wanted_part}
use Rattle.format.specs.Sector.{read_blocks, judge_sector, read_span}
use Rattle.format.specs.Accept.{Placed, Accepted, read_spans, judge_behind, accept_cells, accept}
use Rattle.format.specs.Listing.{list}
use Rattle.format.specs.Candidate.{Candidate}
use Rattle.format.specs.Find.{candidate_part, find_cells, find}
use Rattle.format.specs.Walk.{next_from, step}
use Rattle.format.specs.PairFind.{Paired, judge_first_count, judge_first, find_on_second, find_by_flag, pair_find}
use Rattle.format.specs.GapRule.{GapRule, gap_by}
use Rattle.format.specs.Written.{written_behind, as_pair}
use Rattle.format.specs.Blank.{blank}
use Rattle.format.specs.Add.{judge_absent, added_to, add_cells, add}
use Rattle.format.specs.Correct.{rewritten_from, correct_cells, correct}
use Rattle.format.proofs.Faults.OtherAnswers.{then_right, pick_right, home_other, marks_other, count_other, fit_other, numbers_other, only_other}

-- What is judged answers with the second number that goes with the number.
abbrev pub OutcomeRight : {A : Type 0} → Judged A → Type 0
OutcomeRight j = SecondRight (answer_of j)

-- Such a second number is at most 3.
pub second_most : (a : Answer) → SecondRight a → a.fault ≤ 3
second_most a h = cases (refuses_block a) (λ e. (rw e at h).1) (λ e. let z : a.fault ≡ 0 = rw e at h in omega arith)

-- A judgement that looks at no block answers so.
other_right : {A : Type 0} (j : Judged A) → SecondNone (answer_of j) → OutcomeRight j
other_right j n = rw n.0 n.1

-- The test of a block answers so, where each of its refusals and what follows it do.
sound_right : {A : Type 0} (t : Tested) (a : Fault → Answer) (j : Judged A) → ((f : Fault) → SecondRight (a f)) → OutcomeRight j → OutcomeRight (require_sound t a j)
sound_right sound a j h k = k
sound_right (faulty f) a j h k = h f

-- What is at fault in a block is told by 1, 2 or 3.
fault_within : (f : Fault) → (1 ≤ fault_number f) × (fault_number f ≤ 3)
fault_within opening_wrong = omega arith
fault_within check_wrong = omega arith
fault_within closing_wrong = omega arith

-- The key or the data block.
part_second : (w : Wanted) (q : ℕ) (r : List ℕ) → OutcomeRight (wanted_part w (blocks_at q r))
unfolding blocks_at
part_second the_key q r = search (sound_right, fault_within)
part_second the_data q r = search (sound_right, fault_within)

-- A sector in its span.
span_second : (i : ℕ) (h : Home) (x : Settled) (p : ℕ) (last : Bool) (g : List ℕ) → OutcomeRight (read_span h i x p last g)
unfolding read_span judge_sector read_blocks
span_second zero h x p last g = search (then_right SecondRight, pick_right SecondRight, other_right, count_other, fit_other, part_second the_key, part_second the_data) depth 8
span_second (suc i) h x p last g = search (then_right SecondRight, other_right, count_other, fit_other, part_second the_key, part_second the_data) depth 8

-- The sectors of the spans.
spans_second : (gs : List (List ℕ)) (h : Home) (i : ℕ) (x : Settled) (p : ℕ) → OutcomeRight (read_spans h i x p gs)
unfolding read_spans
spans_second [] h i x p = refl
spans_second (g ∷ gs) h i x p = search (then_right SecondRight, span_second, spans_second gs)

-- The cells of a track.
cells_second : (c : List ℕ) → OutcomeRight (accept_cells c)
unfolding accept_cells judge_behind
cells_second c = search (then_right SecondRight, other_right, home_other, marks_other, spans_second, numbers_other) depth 8

-- Accept answers with the second number that goes with the number.
pub accept_second : (t m : List ℕ) → OutcomeRight (accept t m)
unfolding accept
accept_second t m = search (pick_right SecondRight, cells_second)

-- List answers with the second number that goes with the number.
pub list_second : (n : ℕ) (t m : List ℕ) → OutcomeRight (list n t m)
unfolding list
list_second n t m = search (pick_right SecondRight, then_right SecondRight, accept_second)

-- Find answers with the second number that goes with the number.
pub find_second : (s : ℕ) (w : Wanted) (t m : List ℕ) → OutcomeRight (find s w t m)
unfolding find find_cells candidate_part
find_second s w t m = search (pick_right SecondRight, then_right SecondRight, other_right, only_other, fit_other, part_second) depth 8

-- A choice between outcomes that speak of one track or the other.
paired_second : (b : Bool) (x y : Paired) → OutcomeRight x.outcome → OutcomeRight y.outcome → OutcomeRight (pick b x y).outcome
paired_second true x y h k = h
paired_second false x y h k = k

-- With flag 10 of the first track.
partner_second : (s : ℕ) (w : Wanted) (h : Home) (c u v : List ℕ) (j : Judged Accepted) → OutcomeRight j → OutcomeRight (find_on_second s w h c u v j).outcome
unfolding find_on_second
partner_second s w h c u v (refused a) k = k
partner_second s w h c u v (good g) k = search (paired_second, find_second)

-- By the flag of the first track.
flag_second : (s : ℕ) (w : Wanted) (t m u v : List ℕ) (j : Judged Home) → OutcomeRight j → OutcomeRight (find_by_flag s w t m u v j).outcome
unfolding find_by_flag
flag_second s w t m u v (refused a) k = k
flag_second s w t m u v (good h) k = search (paired_second, partner_second, find_second, accept_second)

-- Pair find answers with the second number that goes with the number, whichever track it speaks of.
pub pair_second : (s : ℕ) (w : Wanted) (t m u v : List ℕ) → OutcomeRight (pair_find s w t m u v).outcome
unfolding pair_find judge_first judge_first_count
pair_second s w t m u v = search (flag_second, pick_right SecondRight, then_right SecondRight, other_right, home_other, count_other) depth 8

-- The next candidate.
next_second : (p : ℕ) (xs : List Candidate) → SecondNone (answer_of (next_from p xs))
unfolding next_from
next_second p [] = (refl, refl)
next_second p (x ∷ xs) = search (pick_right SecondNone, next_second p xs)

-- Walk never answers 10 or 11, and its second number is 0.
pub step_second : (p : ℕ) (t m : List ℕ) → SecondNone (answer_of (step p t m))
unfolding step
step_second p t m = search (pick_right SecondNone, next_second)

-- Blank never answers 10 or 11, and its second number is 0.
pub blank_second : (l k : ℕ) (own : Address) (flag : ℕ) (partner : Address) (s : ℕ) (key body : List ℕ) → SecondNone (answer_of (blank l k own flag partner s key body))
unfolding blank as_pair written_behind
blank_second l k own flag partner s key body = search (then_right SecondNone, pick_right SecondNone)

-- A sector that carries S already.
absent_second : (xs : List Placed) → OutcomeRight (judge_absent xs)
unfolding judge_absent
absent_second [] = refl
absent_second (x ∷ xs) = refl

-- Whatever the gap after a block.
module _ (gap : ℕ → ℕ → ℕ) where
  -- The track with the new sector.
  added_second : (xs : List Placed) (c : List ℕ) (h : Home) (i b7 s : ℕ) (key body : List ℕ) → OutcomeRight (added_to gap c h i b7 s key body xs)
  unfolding added_to written_behind
  added_second [] c h i b7 s key body = refl
  added_second (x ∷ []) c h i b7 s key body = search (pick_right SecondRight)
  added_second (x ∷ y ∷ xs) c h i b7 s key body = added_second (y ∷ xs) c h (suc i) b7 s key body

  -- The track with the corrected sector.
  rewritten_second : (xs : List Placed) (c key body : List ℕ) → OutcomeRight (rewritten_from gap c key body xs)
  unfolding rewritten_from written_behind
  rewritten_second [] c key body = refl
  rewritten_second (x ∷ xs) c key body = search (pick_right SecondRight)

-- Whatever the rule.
module _ (rule : GapRule) where
  -- Add answers with the second number that goes with the number.
  pub add_second : (t m : List ℕ) (l k b7 s : ℕ) (key body : List ℕ) → OutcomeRight (add rule t m l k b7 s key body)
  unfolding add add_cells as_pair
  add_second t m l k b7 s key body = search (pick_right SecondRight, then_right SecondRight, cells_second, absent_second, added_second (gap_by rule)) depth 6

  -- Correct answers with the second number that goes with the number.
  pub correct_second : (t m : List ℕ) (l k s : ℕ) (key body : List ℕ) → OutcomeRight (correct rule t m l k s key body)
  unfolding correct correct_cells as_pair
  correct_second t m l k s key body = search (pick_right SecondRight, then_right SecondRight, cells_second, rewritten_second (gap_by rule))
