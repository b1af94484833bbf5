-- Answer 5 in terms of places: given exactly when a mark stands outside every whole opening that starts at place e or later, with the lowest such mark.
use mathlib.Core.Path.{◌≡◌, refl, sym, ap, ◌∙◌}
use Prim.Native.Nat.{ℕ, zero, suc, ◌+◌, ◌-◌, ◌≤◌, ◌<◌}
use native.Mathlib.Omega.{arith}
use mathlib.Core.Bool.{true, ◌&&◌}
use mathlib.Core.List.{List, [], ◌∷◌}
use mathlib.Core.Logic.{◌⊎◌, inl, inr}
use lib.ListN.{length, drop, get_or}
use lib.Dec.{leb, ltb}
use borrow.Author.Tests.{le-leb, leb-true, ltb-true, ltb-false}
use Rattle.format.specs.Answer.{Answer, mark_stray}
use Rattle.format.specs.Judged.{Judged, good, refused}
use Rattle.format.specs.Opening.{opens}
use Rattle.format.specs.Accept.{judge_marks}
use Rattle.format.proofs.Base.Judged.{refused-good}
use Rattle.base.proofs.Tests.{cases, false-true, and_both, and_make}
use Rattle.format.proofs.Cells.Opening.{opening_marks, opening_alone}

-- The cell at place q is marked.
abbrev pub Marked : List ℕ → ℕ → Type 0
Marked c q = 256 ≤ get_or c q 0

-- Place q is that of a mark in a whole opening that starts at place e or later.
pub record InOpening (e : ℕ) (c : List ℕ) (q : ℕ) : Type 0 where
  pub start : ℕ
  pub late : e ≤ start
  pub whole : opens (drop start c) ≡ true
  pub mark : (q ≡ start + 5) ⊎ (q ≡ start + 6)

-- Place q is that of the lowest mark of c that stands in no such opening.
pub record LowestStray (e : ℕ) (c : List ℕ) (q : ℕ) : Type 0 where
  pub within : q < length c
  pub marked : Marked c q
  pub outside : InOpening e c q → ⊥
  pub lowest : (r : ℕ) → r < q → Marked c r → InOpening e c r

-- The same of the marks from place k on.
record LowestFrom (e k : ℕ) (c : List ℕ) (q : ℕ) : Type 0 where
  behind : k ≤ q
  within : q < length c
  marked : Marked c q
  outside : InOpening e c q → ⊥
  lowest : (r : ℕ) → k ≤ r → r < q → Marked c r → InOpening e c r

-- No opening starts in the first k cells of c.
abbrev NoneWithin : ℕ → List ℕ → Type 0
NoneWithin k c = (o : ℕ) → o < k → opens (drop o c) ≡ true → ⊥

module _ (e q x : ℕ) (c : List ℕ) where
  -- A mark that stands in an opening still does.
  in_cons : (j : ℕ) → InOpening (e - suc q) c j → InOpening (e - q) (x ∷ c) (suc j)
  in_cons j i = record { start = suc i.start; late = omega (arith, i.late); whole = i.whole; mark = go i.mark }
    where
      go : (j ≡ i.start + 5) ⊎ (j ≡ i.start + 6) → (suc j ≡ suc i.start + 5) ⊎ (suc j ≡ suc i.start + 6)
      go (inl h) = inl (omega arith)
      go (inr h) = inr (omega arith)

  -- And one that does now did, unless the opening starts with the new cell.
  in_uncons : (j : ℕ) → InOpening (e - q) (x ∷ c) (suc j) → ((e ≤ q) × (opens (x ∷ c) ≡ true) × (j < 6)) ⊎ InOpening (e - suc q) c j
  in_uncons j i = go i.start i.late i.whole i.mark
    where
      go : (o : ℕ) → e - q ≤ o → opens (drop o (x ∷ c)) ≡ true → (suc j ≡ o + 5) ⊎ (suc j ≡ o + 6) → ((e ≤ q) × (opens (x ∷ c) ≡ true) × (j < 6)) ⊎ InOpening (e - suc q) c j
      go zero l h (inl m) = inl (omega arith, h, omega arith)
      go zero l h (inr m) = inl (omega arith, h, omega arith)
      go (suc o) l h (inl m) = inr (record { start = o; late = omega arith; whole = h; mark = inl (omega arith) })
      go (suc o) l h (inr m) = inr (record { start = o; late = omega arith; whole = h; mark = inr (omega arith) })

  -- In an opening that starts with the new cell at place e or later, each mark stands in an opening.
  in_first : (j : ℕ) → e ≤ q → opens (x ∷ c) ≡ true → j < 8 → Marked (x ∷ c) j → InOpening (e - q) (x ∷ c) j
  in_first j l o b m = record { start = 0; late = omega arith; whole = o; mark = opening_marks j (x ∷ c) o b m }

  -- The lowest stray mark stays the same, where what is new in front has none.
  lowest_cons : (k m j : ℕ) → k ≤ suc m → (e ≤ q → opens (x ∷ c) ≡ true → 6 ≤ m)
      → ((r : ℕ) → k ≤ r → r < suc m → Marked (x ∷ c) r → InOpening (e - q) (x ∷ c) r)
      → LowestFrom (e - suc q) m c j → LowestFrom (e - q) k (x ∷ c) (suc j)
  lowest_cons k m j l past front s =
      record {
        behind = omega (arith, s.behind);
        within = omega (arith, s.within);
        marked = s.marked;
        outside = λ i. out (in_uncons j i);
        lowest = low;
      }
    where
      out : ((e ≤ q) × (opens (x ∷ c) ≡ true) × (j < 6)) ⊎ InOpening (e - suc q) c j → ⊥
      out (inl (a, b, d)) = omega (arith, past a b, s.behind)
      out (inr i) = s.outside i

      low : (r : ℕ) → k ≤ r → r < suc j → Marked (x ∷ c) r → InOpening (e - q) (x ∷ c) r
      low r a b d = cases (ltb r (suc m)) (λ t. front r a (ltb-true r (suc m) t) d) (λ t. later r (ltb-false r (suc m) t) b d)
        where
          later : (r : ℕ) → suc m ≤ r → r < suc j → Marked (x ∷ c) r → InOpening (e - q) (x ∷ c) r
          later zero a b d = absurd (omega arith)
          later (suc r) a b d = in_cons r (s.lowest r (omega arith) (omega arith) d)

-- A list that starts at place q and whose first k cells are skipped: where it is good, each mark behind them stands in an opening.
good_inside : (e k q : ℕ) (c : List ℕ) → judge_marks e k q c ≡ good tt → (j : ℕ) → k ≤ j → Marked c j → InOpening (e - q) c j
unfolding judge_marks
good_inside e k q [] h j l m = absurd (omega arith)
good_inside e (suc k) q (x ∷ c) h zero l m = absurd (omega arith)
good_inside e (suc k) q (x ∷ c) h (suc j) l m = in_cons e q x c j (good_inside e k (suc q) c h j (omega arith) m)
good_inside e zero q (x ∷ c) h j l m =
    cases (opens (x ∷ c) && leb e q)
    (λ t.
    let b = and_both (opens (x ∷ c)) (leb e q) t in
    cases (ltb j 8)
    (λ n. in_first e q x c j (leb-true e q b.1) b.0 (ltb-true j 8 n) m)
    (λ n. later j (ltb-false j 8 n) m (good_inside e 7 (suc q) c (rw t at h))))
    (λ t. cases (ltb x 256)
    (λ u. next j m (ltb-true x 256 u) (good_inside e 0 (suc q) c (rw (t, u) at h)))
    (λ u. refused-good _ _ (rw (t, u) at h)))
  where
    later : (j : ℕ) → 8 ≤ j → Marked (x ∷ c) j → ((i : ℕ) → 7 ≤ i → Marked c i → InOpening (e - suc q) c i) → InOpening (e - q) (x ∷ c) j
    later zero n m f = absurd (omega arith)
    later (suc j) n m f = in_cons e q x c j (f j (omega arith) m)

    next : (j : ℕ) → Marked (x ∷ c) j → x < 256 → ((i : ℕ) → 0 ≤ i → Marked c i → InOpening (e - suc q) c i) → InOpening (e - q) (x ∷ c) j
    next zero m u f = absurd (omega arith)
    next (suc j) m u f = in_cons e q x c j (f j (omega arith) m)

-- Where it is refused, and no opening starts in the skipped cells, the answer is 5 with the place of the lowest stray mark behind them.
refused_lowest : (e k q : ℕ) (c : List ℕ) (a : Answer) → NoneWithin k c → judge_marks e k q c ≡ refused a → (j : ℕ) × (a ≡ mark_stray (q + j)) × LowestFrom (e - q) k c j
unfolding judge_marks
refused_lowest e k q [] a n h = absurd (let z : ◌≡◌ {A = ℕ} 0 1 = cc in omega arith)
refused_lowest e (suc k) q (x ∷ c) a n h =
    let ih = refused_lowest e k (suc q) c a (λ o l w. n (suc o) (omega arith) w) h in
    (suc ih.0, ih.1 ∙ ap mark_stray (omega arith), lowest_cons e q x c (suc k) k ih.0 (omega arith) (λ l w. absurd (n 0 (omega arith) w)) (λ r i l m. absurd (omega arith)) ih.2)
refused_lowest e zero q (x ∷ c) a n h =
    cases (opens (x ∷ c) && leb e q)
    (λ t.
    let b = and_both (opens (x ∷ c)) (leb e q) t in
    let ih = refused_lowest e 7 (suc q) c a (opening_alone x c b.0) (rw t at h) in (
      suc ih.0,
      ih.1 ∙ ap mark_stray (omega arith),
      lowest_cons e q x c 0 7 ih.0 (omega arith) (λ l w. omega arith) (λ r i l m. in_first e q x c r (leb-true e q b.1) b.0 l m) ih.2,
    ))
    (λ t. cases (ltb x 256)
    (λ u.
    let ih = refused_lowest e 0 (suc q) c a (λ o l w. absurd (omega arith)) (rw (t, u) at h) in (
      suc ih.0,
      ih.1 ∙ ap mark_stray (omega arith),
      lowest_cons e q x c 0 0 ih.0 (omega arith) (λ l w. false-true (sym t ∙ and_make w (le-leb e q l))) (λ r i l m. none r l m (ltb-true x 256 u)) ih.2,
    ))
    (λ u. (0, here (rw (t, u) at h), first (ltb-false x 256 u))))
  where
    none : (r : ℕ) → r < 1 → Marked (x ∷ c) r → x < 256 → InOpening (e - q) (x ∷ c) r
    none zero l m u = absurd (omega arith)
    none (suc r) l m u = absurd (omega arith)

    here : ◌≡◌ {A = Judged (Unit {0})} (refused (mark_stray q)) (refused a) → a ≡ mark_stray (q + 0)
    here h = let z : mark_stray q ≡ a = cc in sym z ∙ ap mark_stray (omega arith)

    first : 256 ≤ x → LowestFrom (e - q) 0 (x ∷ c) 0
    first m =
        record {
          behind = omega arith;
          within = omega arith;
          marked = m;
          outside = λ i. far i.start i.mark;
          lowest = λ r i l w. absurd (omega arith);
        }
      where
        far : (o : ℕ) → (0 ≡ o + 5) ⊎ (0 ≡ o + 6) → ⊥
        far o (inl z) = omega arith
        far o (inr z) = omega arith

-- A track starts at place 0.
from_zero : (e : ℕ) → e - 0 ≡ e
from_zero e = omega arith

-- Without answer 5 every mark stands in a whole opening that starts at place e or later.
pub marks_inside : (e : ℕ) (c : List ℕ) → judge_marks e 0 0 c ≡ good tt → (q : ℕ) → Marked c q → InOpening e c q
marks_inside e c h q m = rw (from_zero e) at (good_inside e 0 0 c h q (omega arith) m)

-- A refusal is answer 5 with the place of the lowest mark that stands in no such opening.
pub marks_stray : (e : ℕ) (c : List ℕ) (a : Answer) → judge_marks e 0 0 c ≡ refused a → (q : ℕ) × (a ≡ mark_stray q) × LowestStray e c q
marks_stray e c a h =
    let s = refused_lowest e 0 0 c a (λ o l w. absurd (omega arith)) h in
    let r : LowestFrom e 0 c s.0 = rw (from_zero e) at s.2 in
    (s.0, s.1 ∙ ap mark_stray (omega arith), record { within = r.within; marked = r.marked; outside = r.outside; lowest = λ i l m. r.lowest i (omega arith) l m })

-- There is one lowest stray mark.
lowest_same : (e : ℕ) (c : List ℕ) (q r : ℕ) → LowestStray e c q → LowestStray e c r → q ≡ r
lowest_same e c q r s t =
    let a : (q < r → ⊥) = λ l. s.outside (t.lowest q l s.marked) in
    let b : (r < q → ⊥) = λ l. t.outside (s.lowest r l t.marked) in
    omega arith

-- Where each mark stands in such an opening no mark is refused.
pub inside_marks : (e : ℕ) (c : List ℕ) → ((q : ℕ) → Marked c q → InOpening e c q) → judge_marks e 0 0 c ≡ good tt
inside_marks e c f = go (judge_marks e 0 0 c) refl
  where
    go : (j : Judged (Unit {0})) → judge_marks e 0 0 c ≡ j → j ≡ good tt
    go (good u) h = refl
    go (refused a) h = let s = marks_stray e c a h in absurd (s.2.outside (f s.0 s.2.marked))

-- And where one does not, the lowest such mark is refused.
pub stray_marks : (e : ℕ) (c : List ℕ) (q : ℕ) → LowestStray e c q → judge_marks e 0 0 c ≡ refused (mark_stray q)
stray_marks e c q s = go (judge_marks e 0 0 c) refl
  where
    go : (j : Judged (Unit {0})) → judge_marks e 0 0 c ≡ j → j ≡ refused (mark_stray q)
    go (good u) h = absurd (s.outside (marks_inside e c h q s.marked))
    go (refused a) h =
        let t = marks_stray e c a h in
        ap {B = Judged (Unit {0})} refused (t.1 ∙ ap mark_stray (lowest_same e c t.0 q t.2 s))
