-- Accept, List, Blank, Add and Correct give rows of the table, and no place beyond 4,002, the greatest L.
use mathlib.Core.Path.{◌≡◌, refl, ap}
use Prim.Native.Nat.{ℕ, zero, suc, ◌+◌, ◌≤◌}
use native.Mathlib.Omega.{arith}
use mathlib.Core.Bool.{Bool, true, false, not, ◌&&◌}
use mathlib.Core.List.{List, [], ◌∷◌}
use lib.ListN.{length, drop, length-append, length-drop}
use lib.Dec.{leb, eqb}
use borrow.Author.Tests.{leb-true}
use Rattle.format.specs.Answer.{Answer, lent_wrong, home_check_wrong, home_fields_wrong, first_count_missing, count_check_wrong, count_fields_wrong, span_too_short, sector_repeated}
use Rattle.format.specs.Fault.{Fault, Tested, sound, faulty}
use Rattle.format.specs.Judged.{Judged, good, refused, then, require, require_sound, answer_of}
use Rattle.format.specs.Lent.{length_right, lent_for_reading, cells, both_lent}
use Rattle.format.specs.Opening.{starts_with, plain_opening, closed_after}
use Rattle.format.specs.Address.{Address}
use Rattle.format.specs.Home.{Home, home_from, find_home, home_bytes, home_of, home_fields_right, judge_home_of, judge_home, first_count_place}
use Rattle.format.specs.Count.{Settled, unsettled, count_fits, count_closed, count_fields_right}
use Rattle.format.specs.Block.{blocks_fit}
use Rattle.format.specs.Span.{joined, none, spans}
use Rattle.format.specs.Sector.{Sector, opening_length, settle, judge_count, read_blocks, judge_sector, read_span}
use Rattle.format.specs.Accept.{Placed, Accepted, judge_marks, read_spans, placed_from, from_number, among, judge_numbers, spans_of, first_count_end, judge_behind, accept_cells, accept}
use Rattle.format.specs.Listing.{most_sectors, list}
use Rattle.format.specs.Blocks.{the_key, the_data, Wanted, blocks_at, wanted_part, judge_fit, part_in, offset_of, test_of, wrong_at}
use Rattle.format.specs.GapRule.{GapRule, gap_by}
use Rattle.format.specs.Written.{written_behind, as_pair}
use Rattle.format.specs.Blank.{blank}
use Rattle.format.specs.Add.{judge_absent, added_to, add_cells, add}
use Rattle.format.specs.Correct.{rewritten_from, correct_cells, correct}
use Rattle.base.proofs.Tests.{cases, and_both}
use Rattle.format.proofs.Track.HomeLocal.{found_window, home_window}
use Rattle.format.proofs.Spans.StrayMark.{marks_stray}
use Rattle.format.proofs.Spans.Cutting.{joined_spans}
use Rattle.format.proofs.Track.Pairs.{lent_length}
use Rattle.format.proofs.Sector.BlocksJudged.{block_fits, wrong_row, part_judged, fit_good}
use Rattle.format.proofs.Correct.CorrectPair.{place_in_track}

-- An answer of the table whose place is 4,002 at most.
abbrev pub Row : Answer → Type 0
Row a = (a.number ≤ 16) × (a.place ≤ 4002)

-- What is judged answers so.
abbrev pub Within : {A : Type 0} → Judged A → Type 0
Within j = Row (answer_of j)

-- Judging one thing after another answers so, where each does.
pub within_then : {A B : Type 0} (j : Judged A) (k : A → Judged B) → Within j → ((x : A) → j ≡ good x → Within (k x)) → Within (then j k)
within_then (good x) k h f = f x refl
within_then (refused a) k h f = h

-- A test answers so, where its refusal does and what follows it does.
pub within_require : {A : Type 0} (b : Bool) (a : Answer) (j : Judged A) → Row a → (b ≡ true → Within j) → Within (require b a j)
within_require b a j h f = cases b (λ e. rw e (f e)) (λ e. rw e h)

-- A test of a block answers so, where each of its refusals does and what follows it does.
within_sound : {A : Type 0} (t : Tested) (a : Fault → Answer) (j : Judged A) → ((f : Fault) → Row (a f)) → Within j → Within (require_sound t a j)
within_sound sound a j h k = k
within_sound (faulty f) a j h k = h f

-- A track that is lent within the rule has 4,002 cells at most.
pub cells_few : (t m : List ℕ) → lent_for_reading t m ≡ true → length (cells t m) ≤ 4002
unfolding length_right
cells_few t m e =
    let l = lent_length t m e in
    let k = and_both (leb 3815 (length t)) (leb (length t) 4002) l.1 in
    omega (arith, l.0, leb-true (length t) 4002 k.1)

-- Where home opens nowhere the place is 23.
missing_within : (n q : ℕ) (c : List ℕ) → Within (home_from n q c)
unfolding home_from
missing_within zero q c = (omega arith, omega arith)
missing_within (suc n) q c =
    cases (starts_with plain_opening (drop q c)) (λ a. rw a (omega arith, omega arith)) (λ a. rw a (missing_within n (suc q) c))

-- Home.
pub home_within : (c : List ℕ) → Within (judge_home c)
unfolding judge_home judge_home_of find_home
home_within c =
    within_then (home_from 15 23 c) _ (missing_within 15 23 c) (λ p e.
    let l = found_window 15 23 p c e in
    within_require (closed_after 5 (home_bytes p c)) (home_check_wrong p) _ (omega arith, omega arith) (λ _.
    within_require (home_fields_right (home_of p (home_bytes p c))) (home_fields_wrong p) _ (omega arith, omega arith) (λ _. (omega arith, omega arith))))

-- The stray mark stands on the track.
marks_within : (e : ℕ) (c : List ℕ) → length c ≤ 4002 → Within (judge_marks e 0 0 c)
marks_within e c l = go (judge_marks e 0 0 c) refl
  where
    go : (j : Judged (Unit {0})) → judge_marks e 0 0 c ≡ j → Within j
    go (good u) h = (omega arith, omega arith)
    go (refused a) h = let s = marks_stray e c a h in rw s.1 (omega arith, omega (arith, s.2.within))

-- A count at place p.
pub count_within : (h : Home) (i : ℕ) (x : Settled) (p : ℕ) (r : List ℕ) → p ≤ 4002 → Within (judge_count h i x p r)
unfolding judge_count
count_within h i x p r l =
    within_require (count_fits r) (span_too_short p) _ (omega arith, l) (λ _.
    within_require (count_closed r) (count_check_wrong p) _ (omega arith, l) (λ _.
    within_require (count_fields_right h i x r) (count_fields_wrong p) _ (omega arith, l) (λ _. (omega arith, omega arith))))

-- A block asked for that opens within 4,002.
pub part_within : (w : Wanted) (q : ℕ) (r : List ℕ) → q + offset_of w r ≤ 4002 → Within (wanted_part w (blocks_at q r))
part_within w q r l =
    rw (part_judged w q r)
    (within_sound (test_of w r) (λ f. wrong_at w f (q + offset_of w r)) (good (part_in w q r))
    (λ f. let n = wrong_row w f (q + offset_of w r) in (n.1, omega (arith, n.2)))
    (omega arith, omega arith))

-- The blocks of a count at place p.
pub fit_within : (p : ℕ) (last : Bool) (r : List ℕ) → p ≤ 4002 → Within (judge_fit p last r)
unfolding judge_fit
fit_within p last r l = within_require (blocks_fit last r) (span_too_short p) (good tt) (omega arith, l) (λ _. (omega arith, omega arith))

-- Its blocks, which open in what follows its opening.
blocks_within : (first : Bool) (p : ℕ) (last : Bool) (r : List ℕ) → p ≤ 4002 → (1 ≤ length r → p + opening_length first + length r ≤ 4002) → Within (read_blocks first p last r)
unfolding read_blocks
blocks_within first p last r k l =
    let q : ℕ = p + opening_length first in
    within_then (judge_fit p last r) _ (fit_within p last r k) (λ u f.
    let b : (w : Wanted) → Within (wanted_part w (blocks_at q r)) =
    λ w. let a = block_fits w last r (fit_good p last r u f) in part_within w q r (omega (arith, a, l (omega (arith, a)))) in
    within_then (blocks_at q r).key _ (b the_key) (λ _ _.
    within_then (blocks_at q r).body _ (b the_data) (λ _ _. (omega arith, omega arith))))

-- A sector in its span.
span_within : (h : Home) (i : ℕ) (x : Settled) (p : ℕ) (last : Bool) (g : List ℕ) → p + length g ≤ 4002 → Within (read_span h i x p last g)
unfolding read_span judge_sector
span_within h zero x p last g l =
    within_require (starts_with plain_opening g) (first_count_missing p) _ (omega arith, omega arith) (λ _.
    within_then (judge_count h 0 x p (drop 6 g)) _ (count_within h 0 x p (drop 6 g) (omega arith)) (λ _ _.
    blocks_within true p last (drop 6 g) (omega arith) (λ z. omega (arith, length-drop 6 g))))
span_within h (suc i) x p last g l =
    within_then (judge_count h (suc i) x p (drop 8 g)) _ (count_within h (suc i) x p (drop 8 g) (omega arith)) (λ _ _.
    blocks_within false p last (drop 8 g) (omega arith) (λ z. omega (arith, length-drop 8 g)))

-- The sectors from place p on.
spans_within : (h : Home) (i : ℕ) (x : Settled) (p : ℕ) (gs : List (List ℕ)) → p + length (joined gs) ≤ 4002 → Within (read_spans h i x p gs)
unfolding read_spans
spans_within h i x p [] l = (omega arith, omega arith)
spans_within h i x p (g ∷ gs) l =
    let a = length-append g (joined gs) in
    within_then (read_span h i x p (none gs) g) _ (span_within h i x p (none gs) g (omega arith)) (λ s _.
    within_then (read_spans h (suc i) (settle x s) (p + length g) gs) _
    (spans_within h (suc i) (settle x s) (p + length g) gs (omega arith)) (λ _ _. (omega arith, omega arith)))

-- A repeated number.
numbers_within : (seen : List ℕ) (p : ℕ) (gs : List (List ℕ)) (ss : List Sector) → p + length (joined gs) ≤ 4002 → Within (judge_numbers seen (placed_from p gs ss))
unfolding judge_numbers placed_from
numbers_within seen p [] ss l = (omega arith, omega arith)
numbers_within seen p (g ∷ gs) [] l = (omega arith, omega arith)
numbers_within seen p (g ∷ gs) (s ∷ ss) l =
    let a = length-append g (joined gs) in
    within_require (not (among s.number seen)) (sector_repeated p) _ (omega arith, omega arith) (λ _.
    numbers_within (s.number ∷ seen) (p + length g) gs ss (omega arith))

-- What stands behind home.
behind_within : (h : Home) (c : List ℕ) → length c ≤ 4002 → h.place ≤ 37 → Within (judge_behind h c)
unfolding judge_behind
behind_within h c l w =
    let p : ℕ = first_count_place h.place in
    let j = ap length (joined_spans (drop p c)) in
    let d : p + length (joined (spans (drop p c))) ≤ 4002 = omega (arith, j, length-drop p c) in
    within_then (judge_marks (first_count_end h.place) 0 0 c) _ (marks_within (first_count_end h.place) c l) (λ _ _.
    within_then (read_spans h 0 unsettled p (spans_of h c)) _ (spans_within h 0 unsettled p (spans_of h c) d) (λ ss _.
    within_then (judge_numbers [] (placed_from p (spans_of h c) ss)) _ (numbers_within [] p (spans_of h c) ss d) (λ _ _. (omega arith, omega arith))))

-- The cells of a track.
cells_within : (c : List ℕ) → length c ≤ 4002 → Within (accept_cells c)
unfolding accept_cells
cells_within c l =
    within_then (judge_home c) _ (home_within c) (λ h e.
    within_then (judge_behind h c) _ (behind_within h c l (home_window c h e).1) (λ _ _. (omega arith, omega arith)))

-- Accept gives a row of the table, and no place beyond 4,002.
pub accept_within : (t m : List ℕ) → Within (accept t m)
unfolding accept
accept_within t m =
    within_require (lent_for_reading t m) lent_wrong _ (omega arith, omega arith) (λ e. cells_within (cells t m) (cells_few t m e))

-- List gives a row of the table, and no place beyond 4,002.
pub list_within : (n : ℕ) (t m : List ℕ) → Within (list n t m)
unfolding list
list_within n t m =
    within_require (leb most_sectors n) lent_wrong _ (omega arith, omega arith) (λ _.
    within_then (accept t m) _ (accept_within t m) (λ _ _. (omega arith, omega arith)))

-- Blank gives a row of the table, and no place beyond 4,002.
pub blank_within : (l k : ℕ) (own : Address) (flag : ℕ) (partner : Address) (s : ℕ) (key body : List ℕ) → Within (blank l k own flag partner s key body)
unfolding blank as_pair written_behind
blank_within l k own flag partner s key body = search (within_then, within_require, leb-true) depth 7

-- A sector that carries S already.
absent_within : (c : List ℕ) (s : ℕ) (xs : List Placed) (a : Accepted) → length c ≤ 4002 → accept_cells c ≡ good a → from_number s a.sectors ≡ xs → Within (judge_absent xs)
unfolding judge_absent
absent_within c s [] a l e f = (omega arith, omega arith)
absent_within c s (x ∷ xs) a l e f = (omega arith, omega (arith, place_in_track c a e s x xs f))

-- Where both pairs are lent within the rule, the track has 4,002 cells at most.
both_few : (t m : List ℕ) (l k : ℕ) → both_lent t m l k ≡ true → length (cells t m) ≤ 4002
unfolding both_lent
both_few t m l k e = cells_few t m (and_both (lent_for_reading t m) (eqb l (length t) && eqb k (length t)) e).0

-- Whatever the gap after a block.
module _ (gap : ℕ → ℕ → ℕ) where
  -- The track with the new sector.
  added_within : (xs : List Placed) (c : List ℕ) (h : Home) (i b7 s : ℕ) (key body : List ℕ) → Within (added_to gap c h i b7 s key body xs)
  unfolding added_to written_behind
  added_within [] c h i b7 s key body = (omega arith, omega arith)
  added_within (x ∷ []) c h i b7 s key body = search (within_require, leb-true)
  added_within (x ∷ y ∷ xs) c h i b7 s key body = added_within (y ∷ xs) c h (suc i) b7 s key body

  -- The track with the corrected sector.
  rewritten_within : (xs : List Placed) (c key body : List ℕ) → Within (rewritten_from gap c key body xs)
  unfolding rewritten_from written_behind
  rewritten_within [] c key body = (omega arith, omega arith)
  rewritten_within (x ∷ xs) c key body = search (within_require, leb-true)

-- Whatever the rule.
module _ (rule : GapRule) where
  -- Add gives a row of the table, and no place beyond 4,002.
  pub add_within : (t m : List ℕ) (l k b7 s : ℕ) (key body : List ℕ) → Within (add rule t m l k b7 s key body)
  unfolding add add_cells as_pair
  add_within t m l k b7 s key body = search (within_then, within_require, both_few t m l k, cells_within, absent_within (cells t m) s, added_within (gap_by rule), leb-true) depth 9

  -- Correct gives a row of the table, and no place beyond 4,002.
  pub correct_within : (t m : List ℕ) (l k s : ℕ) (key body : List ℕ) → Within (correct rule t m l k s key body)
  unfolding correct correct_cells as_pair
  correct_within t m l k s key body = search (within_then, within_require, both_few t m l k, cells_within, rewritten_within (gap_by rule), leb-true) depth 7
