-- Answer 13 by a table of flags, one for each number, from one sector to the next.
use mathlib.Core.Path.{◌≡◌, refl, sym, ap, ◌∙◌}
use Prim.Native.Nat.{ℕ, zero, suc, ◌+◌, ◌-◌, ◌≤◌, ◌<◌}
use native.Mathlib.Omega.{arith}
use mathlib.Core.Bool.{Bool, true, false, not, ◌||◌}
use mathlib.Core.List.{List, [], ◌∷◌, map}
use lib.ListN.{length, get_or, take, drop, set, replicate, length-drop, length-set, length-replicate, get_or-replicate}
use lib.Seq.{drop-drop, get_or-drop, get_or-set_same, get_or-set_other}
use lib.Dec.{eqb}
use borrow.Author.Tests.{eqb-true, eqb-false}
use Rattle.std.proofs.lemmas.List.{map-set}
use Rattle.format.specs.Answer.{sector_repeated}
use Rattle.format.specs.Judged.{Judged, good, refused, require}
use Rattle.format.specs.Lent.{cells, unmarked}
use Rattle.format.specs.Count.{count_number}
use Rattle.format.specs.Span.{before_opening, later_spans, spans, clean_span, clean_spans}
use Rattle.format.specs.Accept.{among}
use Rattle.base.proofs.Tests.{cases, and_both}
use Rattle.format.proofs.Cells.Opening.{unmarked_at, unmarked_drop}
use Rattle.format.proofs.Spans.Marks.{marks_clean}
use Rattle.accepting.specs.Accepting.{LaterSpans, NoStrayMark, numbers_in}
use Rattle.accepting.proofs.AcceptSpans.{Front, front, no_span}
use Rattle.accepting.proofs.AcceptFirst.{First}

-- 13 by the spans of later sectors, where the flags f say which numbers were passed.
unfoldable pub flagged : List Bool → ℕ → List (List ℕ) → Judged (Unit {0})
flagged f p [] = good tt
flagged f p (g ∷ gs) =
    let n = count_number (drop 8 g) in
    require (not (get_or f n false)) (sector_repeated p) (flagged (set f n true) (p + length g) gs)

-- The flags of 256 numbers are set for those passed.
record Agree (f : List Bool) (seen : List ℕ) : Type 0 where
  size : length f ≡ 256
  flags : (n : ℕ) → n < 256 → get_or f n false ≡ among n seen

-- One more number is passed.
agree_next : (f : List Bool) (seen : List ℕ) (n : ℕ) → n < 256 → Agree f seen → Agree (set f n true) (n ∷ seen)
unfolding among
agree_next f seen n l a = record { size = length-set f n true ∙ a.size; flags = λ k b. cases (eqb k n) (same k b) (other k b) }
  where
    same : (k : ℕ) → k < 256 → eqb k n ≡ true → get_or (set f n true) k false ≡ (eqb k n || among k seen)
    same k b e =
        let q : k ≡ n = eqb-true k n e in
        rw (e, q, get_or-set_same f n true false (omega (arith, a.size)))

    other : (k : ℕ) → k < 256 → eqb k n ≡ false → get_or (set f n true) k false ≡ (eqb k n || among k seen)
    other k b e = rw (e, get_or-set_other f n k true false (eqb-false k n e)) (a.flags k b)

agree_none : Agree (replicate 256 false) []
unfolding among
agree_none = record { size = length-replicate {A = Bool} 256 false; flags = λ n l. rw (get_or-replicate {A = Bool} 256 n false false l) }

-- The flags say what the list of numbers says.
flagged_numbers : (f : List Bool) (seen : List ℕ) (i p : ℕ) (gs : List (List ℕ)) → clean_spans (suc i) gs ≡ true → Agree f seen → flagged f p gs ≡ numbers_in seen (suc i) p gs
unfolding flagged numbers_in clean_spans clean_span
flagged_numbers f seen i p [] c a = refl
flagged_numbers f seen i p (g ∷ gs) c a =
    let k = and_both (unmarked (drop 8 g)) (clean_spans (suc (suc i)) gs) c in
    let n : ℕ = count_number (drop 8 g) in
    let l : n < 256 = unmarked_at (drop 8 g) 5 k.0 in
    rw (a.flags n l, flagged_numbers (set f n true) (n ∷ seen) (suc i) (p + length g) gs k.1 (agree_next f seen n l a))

-- No sector is left.
pub flagged_none : (f : List Bool) (p : ℕ) (t m : List ℕ) → length t ≤ p → flagged f p (later_spans (cells (drop p t) (drop p m))) ≡ good tt
unfolding flagged
flagged_none f p t m l = rw (no_span (drop p t) (drop p m) (omega (arith, length-drop p t)))

-- The span of the later sector at place q, of n cells, where the places from i on are those of the spans that are left.
pub ahead : (t m ns : List ℕ) (i q n : ℕ) → LaterSpans q (drop q t) (drop q m) (drop i ns) → q < length t → n ≡ get_or ns (i + 1) (length t) - q
    → Front q n (drop q t) (drop q m) (drop i ns)
ahead t m ns i q n r l e =
    let k : q + length (drop q t) ≡ length t = omega (arith, length-drop q t) in
    front q (drop q t) (drop q m) (drop i ns) n r (rw (k, get_or-drop i ns 1 (length t)) e) (omega (arith, length-drop q t))

module _ (t m ns : List ℕ) (i q n : ℕ) (f : Front q n (drop q t) (drop q m) (drop i ns)) where
  -- What is left behind it.
  pub ahead_rest : LaterSpans (q + n) (drop (q + n) t) (drop (q + n) m) (drop (i + 1) ns)
  ahead_rest = rw (drop-drop n q t, drop-drop n q m, drop-drop 1 i ns) at f.rest

  module _ (number : ℕ) (e : number ≡ get_or (take (q + n - (q + 8)) (drop (q + 8) t)) 5 0) where
    -- Its number.
    number_is : number ≡ count_number (drop 8 f.span)
    number_is =
        let k : q + n - (q + 8) ≡ n - 8 = omega arith in
        let b : take (q + n - (q + 8)) (drop (q + 8) t) ≡ drop 8 f.span = rw (k, ← drop-drop 8 q t) f.bytes in
        e ∙ ap count_number b

    -- It was passed before.
    pub ahead_repeated : (s : List Bool) → get_or s number false ≡ true → flagged s q (later_spans (cells (drop q t) (drop q m))) ≡ refused (sector_repeated q)
    unfolding flagged
    ahead_repeated s h = rw (f.cut, ← number_is, h)

    -- It was not passed before.
    pub ahead_next : (s : List Bool) → get_or s number false ≡ false
        → flagged s q (later_spans (cells (drop q t) (drop q m))) ≡ flagged (set s number true) (q + n) (later_spans (cells (drop (q + n) t) (drop (q + n) m)))
    unfolding flagged
    ahead_next s h =
        let d : later_spans (cells (drop (q + n) t) (drop (q + n) m)) ≡ f.later = rw (drop-drop n q t, drop-drop n q m) at f.later_cut in
        rw (f.cut, ← number_is, h, d, f.size)

-- A list of one value, each turned by f.
map_replicate : (f : ℕ → Bool) (n a : ℕ) → map f (replicate n a) ≡ replicate n (f a)
map_replicate f zero a = refl
map_replicate f (suc n) a = ap (λ (l : List Bool). f a ∷ l) (map_replicate f n a)

-- Sector 0 at place p, of n cells: its number is the first that is passed, and what is left behind it decides.
module _ (t m ns : List ℕ) (p n : ℕ) (u : NoStrayMark p t m ns) (f : First p n t m ns) (number : ℕ) (e : number ≡ get_or (take (p + n - (p + 6)) (drop (p + 6) t)) 5 0) where
  zero_number : number ≡ count_number (drop 6 (before_opening (drop p (cells t m))))
  zero_number = e ∙ ap count_number f.bytes

  -- The numbers by the flags of which that of sector 0 is set.
  pub zero_flagged : numbers_in [] 0 p (spans (drop p (cells t m)))
      ≡ flagged (set (replicate 256 false) number true) (p + n) (later_spans (cells (drop (p + n) t) (drop (p + n) m)))
  unfolding numbers_in spans among clean_spans clean_span
  zero_flagged =
      let d : List ℕ = drop p (cells t m) in
      let c = marks_clean (p + 18) p (cells t m) refl u.judged in
      let v = and_both (unmarked (before_opening d)) (clean_spans 1 (later_spans d)) c.1 in
      let x : ℕ = count_number (drop 6 (before_opening d)) in
      let b : x < 256 = unmarked_at (drop 6 (before_opening d)) 5 (unmarked_drop 6 (before_opening d) v.0) in
      rw (f.later_cut, ← f.size, zero_number)
      (sym (flagged_numbers (set (replicate 256 false) x true) (x ∷ []) 0 (p + length (before_opening d)) (later_spans d) v.1 (agree_next (replicate 256 false) [] x b agree_none)))

  -- The same by a table of numbers, 0 for one that was not passed and 1 for one that was.
  pub zero_flagged_numbers : numbers_in [] 0 p (spans (drop p (cells t m)))
      ≡ flagged (map (λ (k : ℕ). not (eqb k 0)) (set (replicate 256 0) number 1)) (p + n) (later_spans (cells (drop (p + n) t) (drop (p + n) m)))
  zero_flagged_numbers =
      let passed : ℕ → Bool = λ k. not (eqb k 0) in
      let e : map passed (set (replicate 256 0) number 1) ≡ set (replicate 256 false) number true =
      map-set passed (replicate 256 0) number 1 ∙ ap (λ (f : List Bool). set f number true) (map_replicate passed 256 0) in
      zero_flagged ∙ ap (λ (f : List Bool). flagged f (p + n) (later_spans (cells (drop (p + n) t) (drop (p + n) m)))) (sym e)
