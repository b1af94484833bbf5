-- Where no mark is stray every mark is 0 or 1, so that legal marks need be looked for only where a track is refused before its sectors are judged.
use mathlib.Core.Path.{◌≡◌, refl, sym, ap, ◌∙◌}
use Prim.Native.Nat.{ℕ, ◌+◌, ◌*◌, ◌<◌}
use native.Mathlib.Omega.{arith}
use mathlib.Core.Bool.{Bool, true, false}
use mathlib.Core.List.{List}
use mathlib.Core.Logic.{◌⊎◌, inl, inr}
use lib.ListN.{length, get_or, drop}
use lib.Seq.{get_or-drop}
use lib.Dec.{leb, eqb}
use borrow.Author.Tests.{leb-true, leb-false, eqb-true}
use Rattle.base.specs.Pick.{pick}
use Rattle.format.specs.Answer.{Answer, lent_wrong, as_refusal}
use Rattle.format.specs.declared.Refusal.{Refusal}
use Rattle.format.specs.declared.Refusal.TheVariants.{LentWrong, HomeMissing, HomeCheckWrong, HomeFieldsWrong, MarkStray, FirstCountMissing, CountCheckWrong, CountFieldsWrong, SpanTooShort, KeyWrong, DataWrong, SectorMissing, SectorRepeated, WantedWrong, RoomMissing, PairWrong, PatternWrong, HeaderWrong, OffsetWrong, FileLengthWrong, SpareBitsSet, BufferTooShort}
use Rattle.format.specs.Judged.{Judged, good, refused, then, answer_of}
use Rattle.format.specs.Lent.{length_right, marks_legal, lent_for_writing, lent_for_reading, cells}
use Rattle.format.specs.Home.{Home, judge_home}
use Rattle.format.specs.Accept.{judge_marks, first_count_end, judge_behind, accept}
use Rattle.base.proofs.Tests.{cases, and_both}
use Rattle.format.proofs.Base.Marks.{marks_at}
use Rattle.format.proofs.Cells.Opening.{opens_front}
use Rattle.format.proofs.Spans.StrayMark.{InOpening, marks_inside, marks_stray}
use Rattle.format.proofs.Track.Pairs.{length_cells}
use Rattle.search.proofs.Cells.{get_d_cells}
use Rattle.accepting.proofs.AcceptBehind.{accept_lent, accept_home, accept_refused}

-- A marked cell in a whole opening is 1FF.
in_opening : (e : ℕ) (c : List ℕ) (q : ℕ) → InOpening e c q → get_or c q 0 ≡ 0x1FF
in_opening e c q i = go i.mark
  where
    at : (k : ℕ) → get_or (drop i.start c) k 0 ≡ 0x1FF → q ≡ i.start + k → get_or c q 0 ≡ 0x1FF
    at k f r = rw r (sym (get_or-drop i.start c k 0) ∙ f)

    go : (q ≡ i.start + 5) ⊎ (q ≡ i.start + 6) → get_or c q 0 ≡ 0x1FF
    go (inl r) = at 5 (ap (λ (d : List ℕ). get_or d 5 0) (opens_front (drop i.start c) i.whole)) r
    go (inr r) = at 6 (ap (λ (d : List ℕ). get_or d 6 0) (opens_front (drop i.start c) i.whole)) r

-- Where no mark is stray every mark is 0 or 1.
unstrayed_legal : (e : ℕ) (t m : List ℕ) → length m ≡ length t → judge_marks e 0 0 (cells t m) ≡ good tt → marks_legal m ≡ true
unstrayed_legal e t m l h = marks_at m each
  where
    each : (i : ℕ) → i < length m → get_or m i 0 < 2
    each i k =
        let x : get_or (cells t m) i 0 ≡ get_or t i 0 + 256 * get_or m i 0 = get_d_cells t m i (omega (arith, length_cells t m)) in
        cases (leb 256 (get_or (cells t m) i 0))
        (λ y. omega (arith, in_opening e (cells t m) i (marks_inside e (cells t m) h i (leb-true 256 (get_or (cells t m) i 0) y))))
        (λ n. omega (arith, leb-false 256 (get_or (cells t m) i 0) n))

-- A pair of the right lengths is lent for reading within the rule exactly where its marks are legal.
pub lent_legal : (t m : List ℕ) (b : Bool) → lent_for_writing (length t) (length m) ≡ true → marks_legal m ≡ b → lent_for_reading t m ≡ b
unfolding lent_for_reading
lent_legal t m b w e = rw w e

-- Behind a home that is right another answer than 5 shows that no mark is stray, and so that the marks are legal.
pub behind_legal : (h : Home) (t m : List ℕ) → lent_for_writing (length t) (length m) ≡ true → ((answer_of (judge_behind h (cells t m))).number ≡ 5 → ⊥) → lent_for_reading t m ≡ true
unfolding judge_behind lent_for_writing
behind_legal h t m w ne = go (judge_marks (first_count_end h.place) 0 0 (cells t m)) refl
  where
    go : (j : Judged (Unit {0})) → judge_marks (first_count_end h.place) 0 0 (cells t m) ≡ j → lent_for_reading t m ≡ true
    go (good u) e = lent_legal t m true w (unstrayed_legal (first_count_end h.place) t m (eqb-true (length m) (length t) (and_both (length_right (length t)) (eqb (length m) (length t)) w).1) e)
    go (refused a) e =
        let s = marks_stray (first_count_end h.place) (cells t m) a e in
        absurd (ne (rw e (ap (λ (x : Answer). x.number) s.1)))

-- A pair of the right lengths that is refused, where marks that are not legal come first.
module _ (t m : List ℕ) (w : lent_for_writing (length t) (length m) ≡ true) where
  -- Its home is refused.
  pub home_refused_by : (a : Answer) → refused a ≡ judge_home (cells t m) → then (accept t m) (λ a. good a.home) ≡ refused (pick (marks_legal m) a lent_wrong)
  home_refused_by a j =
      cases (marks_legal m)
      (λ e. rw e (accept_home t m (lent_legal t m true w e) a j))
      (λ e. rw e (accept_lent t m (lent_legal t m false w e)))

  -- What is behind its home is refused.
  pub behind_refused_by : (h : Home) → good h ≡ judge_home (cells t m) → (b : Answer) → b ≡ answer_of (judge_behind h (cells t m)) → (b.number ≡ 0 → ⊥)
      → then (accept t m) (λ a. good a.home) ≡ refused (pick (marks_legal m) b lent_wrong)
  behind_refused_by h j b r n =
      cases (marks_legal m)
      (λ e. rw e (accept_refused t m (lent_legal t m true w e) h j b r n))
      (λ e. rw e (accept_lent t m (lent_legal t m false w e)))

-- A pair of the wrong lengths is not lent for reading within the rule.
pub lent_not : (t m : List ℕ) → lent_for_writing (length t) (length m) ≡ false → lent_for_reading t m ≡ false
unfolding lent_for_reading
lent_not t m w = rw w

-- Of the refusals of the code only that of a stray mark has the answer 5.
pub stray_number : (e : Refusal) → ((p : ℕ) → e ≡ MarkStray p → ⊥) → (as_refusal e).number ≡ 5 → ⊥
stray_number LentWrong h z = omega arith
stray_number HomeMissing h z = omega arith
stray_number (HomeCheckWrong p) h z = omega arith
stray_number (HomeFieldsWrong p) h z = omega arith
stray_number (MarkStray p) h z = h p refl
stray_number (FirstCountMissing p) h z = omega arith
stray_number (CountCheckWrong p) h z = omega arith
stray_number (CountFieldsWrong p) h z = omega arith
stray_number (SpanTooShort p) h z = omega arith
stray_number (KeyWrong f p) h z = omega arith
stray_number (DataWrong f p) h z = omega arith
stray_number SectorMissing h z = omega arith
stray_number (SectorRepeated p) h z = omega arith
stray_number WantedWrong h z = omega arith
stray_number RoomMissing h z = omega arith
stray_number PairWrong h z = omega arith
stray_number (PatternWrong p) h z = omega arith
stray_number HeaderWrong h z = omega arith
stray_number OffsetWrong h z = omega arith
stray_number FileLengthWrong h z = omega arith
stray_number SpareBitsSet h z = omega arith
stray_number BufferTooShort h z = omega arith
