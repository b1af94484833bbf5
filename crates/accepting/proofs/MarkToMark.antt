-- The search for stray marks goes from mark to mark, and lists the places of the openings that it passes.
use mathlib.Core.Path.{◌≡◌, refl, sym, ap, ◌∙◌}
use Prim.Native.Nat.{ℕ, zero, suc, ◌+◌, ◌-◌, ◌≤◌, ◌<◌}
use native.Mathlib.Omega.{arith}
use mathlib.Core.Bool.{true, false, ◌&&◌}
use mathlib.Core.List.{List, [], ◌∷◌, ◌++◌, append-nil}
use lib.Dec.{leb, ltb}
use lib.ListN.{length, take, drop, set, length-drop, drop_of_length-le}
use lib.Seq.{drop-drop}
use borrow.Author.Tests.{lt-leb}
use Rattle.format.specs.Answer.{mark_stray}
use Rattle.format.specs.Judged.{Judged, good, refused}
use Rattle.format.specs.Opening.{opens}
use Rattle.format.specs.Span.{unmarked_run}
use Rattle.format.specs.Accept.{judge_marks}
use Rattle.std.proofs.Common.{append_assoc}
use Rattle.std.proofs.lemmas.Bool.{and_left, and_right}
use Rattle.std.proofs.lemmas.List.{take_more_set}
use Rattle.base.proofs.Tests.{cases}
use Rattle.format.proofs.Cells.Opening.{length_opens}
use Rattle.format.proofs.Spans.Marks.{marks_opening}
use Rattle.format.proofs.Find.CandidateBytes.{run_le}
use Rattle.search.proofs.Jump.{no_opening, no_opening_left, run_nil, run_on, run_off, run_drop}
use Rattle.accepting.specs.Starts.{starts_in}
use Rattle.accepting.proofs.Starts.{starts_jump, starts_none, starts_opening}

-- An unmarked cell at which no opening is passed is passed.
pass_one : (e q x : ℕ) (c : List ℕ) → ltb x 256 ≡ true → (opens (x ∷ c) && leb e q) ≡ false → judge_marks e 0 q (x ∷ c) ≡ judge_marks e 0 (suc q) c
unfolding judge_marks
pass_one e q x c u o = rw (o, u)

-- A mark at which no opening is passed is stray.
stray_here : (e q x : ℕ) (c : List ℕ) → ltb x 256 ≡ false → (opens (x ∷ c) && leb e q) ≡ false → judge_marks e 0 q (x ∷ c) ≡ refused (mark_stray q)
unfolding judge_marks
stray_here e q x c u o = rw (o, u)

-- Cells are passed up to five before the next mark.
jump : (e q n : ℕ) (c : List ℕ) → n + 5 ≤ unmarked_run c → judge_marks e 0 q c ≡ judge_marks e 0 (q + n) (drop n c)
jump e q zero c h = ap (λ (z : ℕ). judge_marks e 0 z c) (omega arith)
jump e q (suc n) [] h = absurd (omega (arith, run_nil))
jump e q (suc n) (x ∷ c) h =
    cases (ltb x 256)
    (λ u.
    pass_one e q x c u (and_left (opens (x ∷ c)) (leb e q) (no_opening (x ∷ c) (λ f. omega arith)))
    ∙ jump e (suc q) n c (omega (arith, run_on x c u))
    ∙ ap (λ (z : ℕ). judge_marks e 0 z (drop n c)) (omega arith))
    (λ u. absurd (omega (arith, run_off x c u)))

-- Without another mark none is stray.
jump_none : (e q : ℕ) (c : List ℕ) → unmarked_run c ≡ length c → judge_marks e 0 q c ≡ good tt
unfolding judge_marks
jump_none e q [] h = refl
jump_none e q (x ∷ c) h =
    cases (ltb x 256)
    (λ u.
    pass_one e q x c u (and_left (opens (x ∷ c)) (leb e q) (no_opening_left (x ∷ c) h))
    ∙ jump_none e (suc q) c (omega (arith, run_on x c u)))
    (λ u. absurd (omega (arith, run_off x c u)))

-- The next mark is stray where it stands fewer than five cells on, or five on and no opening is passed here.
stray_next : (e q : ℕ) (c : List ℕ) → unmarked_run c ≤ 5 → unmarked_run c < length c → (opens c && leb e q) ≡ false → judge_marks e 0 q c ≡ refused (mark_stray (q + unmarked_run c))
stray_next e q [] h l o = absurd (omega arith)
stray_next e q (x ∷ c) h l o =
    cases (ltb x 256)
    (λ u.
    let r = run_on x c u in
    pass_one e q x c u o
    ∙ stray_next e (suc q) c (omega arith) (omega arith) (and_left (opens c) (leb e (suc q)) (no_opening c (λ f. omega arith)))
    ∙ ap {B = Judged (Unit {0})} (λ (z : ℕ). refused (mark_stray z)) (omega arith))
    (λ u. stray_here e q x c u o ∙ ap {B = Judged (Unit {0})} (λ (z : ℕ). refused (mark_stray z)) (omega (arith, run_off x c u)))

-- At the end of the cells d no mark is stray, and no opening is left.
pub past_good : (e q : ℕ) (d : List ℕ) → length d ≤ q → judge_marks e 0 q (drop q d) ≡ good tt
past_good e q d h = let z : drop q d ≡ [] = drop_of_length-le d {i = q} h in rw z (jump_none e q [] run_nil)

pub past_starts : (q : ℕ) (d : List ℕ) → length d ≤ q → starts_in q (drop q d) ≡ []
past_starts q d h = let z : drop q d ≡ [] = drop_of_length-le d {i = q} h in rw z (starts_none q [] run_nil)

-- A run of unmarked cells ends with the cells d, or before.
pub run_within : (q : ℕ) (d : List ℕ) → unmarked_run (drop q d) ≤ length d - q
run_within q d = omega (arith, run_le (drop q d), length-drop q d)

-- The run r of unmarked cells from place q on of the n cells d.
module _ (e q r n : ℕ) (d : List ℕ) (all : n ≡ length d) (so : r ≡ unmarked_run (drop q d)) where
  -- It goes to the end: no mark is stray, and no opening is left.
  pub ends_good : r ≡ n - q → judge_marks e 0 q (drop q d) ≡ good tt
  ends_good h = jump_none e q (drop q d) (omega (arith, length-drop q d))

  pub ends_starts : r ≡ n - q → starts_in q (drop q d) ≡ []
  ends_starts h = starts_none q (drop q d) (omega (arith, length-drop q d))

  -- A mark follows: it is too close for an opening.
  pub close_stray : q < n → (r ≡ n - q → ⊥) → r < 5 → judge_marks e 0 q (drop q d) ≡ refused (mark_stray (q + r))
  close_stray l more h =
      rw so
      (stray_next e q (drop q d) (omega arith) (omega (arith, length-drop q d, run_within q d)) (and_left (opens (drop q d)) (leb e q) (no_opening (drop q d) (λ f. omega arith))))

  -- It stands five cells behind place s.
  module _ (s : ℕ) (five : s + 5 ≡ q + r) (far : q ≤ s) where
    jumped : drop (s - q) (drop q d) ≡ drop s d
    jumped =
        let i : q + (s - q) ≡ s = omega arith in
        drop-drop (s - q) q d ∙ rw i

    -- Nothing is passed there: it is stray.
    pub start_stray : q < n → (r ≡ n - q → ⊥) → (opens (drop s d) && leb e s) ≡ false → judge_marks e 0 q (drop q d) ≡ refused (mark_stray (q + r))
    start_stray l more o =
        let run : unmarked_run (drop s d) ≡ 5 = ap unmarked_run (sym jumped) ∙ run_drop (s - q) (drop q d) (omega arith) ∙ omega arith in
        let i : q + (s - q) ≡ s = omega arith in
        let j : s + unmarked_run (drop s d) ≡ q + r = omega arith in
        jump e q (s - q) (drop q d) (omega arith)
        ∙ rw (i, jumped, ← j) (stray_next e s (drop s d) (omega arith) (omega (arith, length-drop s d, run_within q d)) o)

    -- The place is before place e.
    pub start_early : q < n → (r ≡ n - q → ⊥) → s < e → judge_marks e 0 q (drop q d) ≡ refused (mark_stray (q + r))
    start_early l more h = start_stray l more (and_right (opens (drop s d)) (leb e s) (lt-leb e s h))

    -- No opening stands there.
    pub start_other : q < n → (r ≡ n - q → ⊥) → opens (drop s d) ≡ false → judge_marks e 0 q (drop q d) ≡ refused (mark_stray (q + r))
    start_other l more o = start_stray l more (and_left (opens (drop s d)) (leb e s) o)

    -- An opening stands there, and is passed
    pub start_passed : e ≤ s → opens (drop s d) ≡ true → judge_marks e 0 q (drop q d) ≡ judge_marks e 0 (s + 8) (drop (s + 8) d)
    start_passed l o =
        let i : q + (s - q) ≡ s = omega arith in
        jump e q (s - q) (drop q d) (omega arith)
        ∙ rw (i, jumped) (marks_opening e s (drop s d) l o ∙ ap (judge_marks e 0 (s + 8)) (drop-drop 8 s d))

    -- and listed.
    pub start_listed : opens (drop s d) ≡ true → starts_in q (drop q d) ≡ s ∷ starts_in (s + 8) (drop (s + 8) d)
    start_listed o =
        let i : q + (s - q) ≡ s = omega arith in
        starts_jump q (s - q) (drop q d) (omega arith)
        ∙ rw (i, jumped) (starts_opening s (drop s d) o ∙ ap (λ (c : List ℕ). s ∷ starts_in (s + 8) c) (drop-drop 8 s d))

-- An opening at place s has eight cells.
pub start_room : (s : ℕ) (d : List ℕ) → opens (drop s d) ≡ true → s + 8 ≤ length d
start_room s d o = omega (arith, length-drop s d, length_opens (drop s d) o)

-- A table of which the first k places are listed gets one more.
pub one_more : (k v : ℕ) (xs ys zs : List ℕ) → k < length ys → xs ≡ take k ys ++ (v ∷ zs) → xs ≡ take (k + 1) (set ys k v) ++ zs
one_more k v xs ys zs h e = rw (take_more_set ys k v h, append_assoc (take k ys) (v ∷ []) zs) e

-- All are listed where no more are left.
pub all_listed : (k : ℕ) (xs ys zs : List ℕ) → xs ≡ take k ys ++ zs → zs ≡ [] → take k ys ≡ xs
all_listed k xs ys zs e z = sym (e ∙ rw z (append-nil (take k ys)))
