-- The first later sector that is wrong: by its number of spans left, its place in the list, and the answer for it.
use mathlib.Core.Path.{◌≡◌, refl, sym, ap, ◌∙◌}
use Prim.Native.Nat.{ℕ, zero, suc, ◌+◌, ◌-◌, ◌≤◌, ◌<◌}
use native.Mathlib.Omega.{arith}
use mathlib.Core.Bool.{Bool, true, false}
use mathlib.Core.List.{List, [], ◌∷◌}
use lib.ListN.{length, get_or, take, drop, length-drop}
use lib.Seq.{drop-drop}
use lib.Dec.{leb}
use borrow.Author.Tests.{le-leb, lt-leb, leb-true, leb-false}
use Rattle.format.specs.Answer.{Answer, done}
use Rattle.format.specs.Judged.{Judged, answer_of}
use Rattle.format.specs.Lent.{cells}
use Rattle.format.specs.Flag.{count_flag_right}
use Rattle.format.specs.Address.{Address}
use Rattle.format.specs.Home.{Home}
use Rattle.format.specs.Count.{Settled, settled, count_fields_right}
use Rattle.format.specs.Span.{later_spans, none}
use Rattle.format.specs.Sector.{Sector, judge_sector}
use Rattle.format.specs.Accept.{read_spans}
use Rattle.base.proofs.Lists.{part_all}
use Rattle.base.proofs.Tests.{cases}
use Rattle.sector.specs.Right.{sector_right}
use Rattle.sector.proofs.Right.{right_good, right_not}
use Rattle.accepting.specs.Starts.{starts_of}
use Rattle.accepting.specs.Wrong.{wrong_left}
use Rattle.accepting.specs.Accepting.{LaterSpans}
use Rattle.std.proofs.lemmas.List.{get_or_default}
use Rattle.accepting.proofs.AcceptAnswers.{sequence_two, spans_refused, spans_good}
use Rattle.accepting.proofs.AcceptSpans.{Front, front, no_span}
use Rattle.accepting.proofs.AcceptNumbers.{ahead, ahead_rest}

-- A later sector is right alike two positions later,
right_two : (h : Home) (i : ℕ) (x : Settled) (last : Bool) (r : List ℕ) → sector_right h (suc i) x last r ≡ sector_right h (suc (suc (suc i))) x last r
unfolding sector_right count_fields_right count_flag_right
right_two h i x last r = rw (sequence_two i (get_or r 0 0))

-- and so are all that follow it.
pub wrong_two : (h : Home) (i : ℕ) (a : Address) (gs : List (List ℕ)) → wrong_left h (suc i) a gs ≡ wrong_left h (suc (suc (suc i))) a gs
unfolding wrong_left
wrong_two h i a [] = refl
wrong_two h i a (g ∷ gs) = rw (right_two h i (settled a) (none gs) (drop 8 g), wrong_two h (suc i) a gs)

-- The list of places is as long as that of the spans.
pub length_starts : (p : ℕ) (gs : List (List ℕ)) → length (starts_of p gs) ≡ length gs
unfolding starts_of
length_starts p [] = refl
length_starts p (g ∷ gs) = ap suc (length_starts (p + length g) gs)

-- Nothing is left: none is wrong.
pub wrong_none : (h : Home) (i : ℕ) (a : Address) (gs : List (List ℕ)) → gs ≡ [] → wrong_left h i a gs ≡ 0
unfolding wrong_left
wrong_none h i a gs e = rw e

-- The first span of what is left, by its bytes.
module _ (h : Home) (i : ℕ) (a : Address) (p n : ℕ) (t m ns : List ℕ) (f : Front p n t m ns) (last : Bool) (l : last ≡ leb (length ns) 1) where
  by_bytes : sector_right h i (settled a) (none f.later) (drop 8 f.span) ≡ sector_right h i (settled a) last (take (n - 8) (drop 8 t))
  by_bytes = rw (← f.last, ← l, ← f.bytes)

  -- Its sector is wrong: all that are listed are left.
  pub wrong_here : length ns ≡ suc (length f.later) → sector_right h i (settled a) last (take (n - 8) (drop 8 t)) ≡ false → length ns ≡ wrong_left h i a (later_spans (cells t m))
  unfolding wrong_left
  wrong_here c w = rw (f.cut, by_bytes, w) c

  -- It is right: what is left behind it decides.
  pub wrong_later : sector_right h i (settled a) last (take (n - 8) (drop 8 t)) ≡ true → wrong_left h (suc i) a (later_spans (cells (drop n t) (drop n m))) ≡ wrong_left h i a (later_spans (cells t m))
  unfolding wrong_left
  wrong_later w = rw (f.cut, by_bytes, w, f.later_cut)

-- As many are listed as there are spans.
pub front_count : (p n : ℕ) (t m ns : List ℕ) → LaterSpans p t m ns → (f : Front p n t m ns) → length ns ≡ suc (length f.later)
front_count p n t m ns r f = ap length r.places ∙ length_starts p (later_spans (cells t m)) ∙ ap length f.cut

-- The same of what is left, where its first span has n cells.
module _ (h : Home) (i : ℕ) (a : Address) (p n : ℕ) (t m ns : List ℕ) (r : LaterSpans p t m ns) (e : n ≡ get_or ns 1 (p + length t) - p) (some : length t ≡ 0 → ⊥)
    (last : Bool) (l : last ≡ leb (length ns) 1) where
  here : Front p n t m ns
  here = front p t m ns n r e (omega arith)

  pub left_wrong : sector_right h i (settled a) last (take (n - 8) (drop 8 t)) ≡ false → length ns ≡ wrong_left h i a (later_spans (cells t m))
  left_wrong w = wrong_here h i a p n t m ns here last l (front_count p n t m ns r here) w

  pub left_right : sector_right h i (settled a) last (take (n - 8) (drop 8 t)) ≡ true
      → wrong_left h (suc i) a (later_spans (cells (take (length t - n) (drop n t)) (take (length m - n) (drop n m)))) ≡ wrong_left h i a (later_spans (cells t m))
  left_right w = rw (part_all n t, part_all n m) (wrong_later h i a p n t m ns here last l w)

-- No more are left than there are.
wrong_most : (h : Home) (i : ℕ) (a : Address) (gs : List (List ℕ)) → wrong_left h i a gs ≤ length gs
unfolding wrong_left
wrong_most h i a [] = omega arith
wrong_most h i a (g ∷ gs) =
    cases (sector_right h i (settled a) (none gs) (drop 8 g))
    (λ e. rw e (omega (arith, wrong_most h (suc i) a gs)))
    (λ e. rw e (omega arith))

-- A right sector at the front: the spans behind it decide.
good_step : (h : Home) (i : ℕ) (a : Address) (p : ℕ) (g : List ℕ) (gs : List (List ℕ)) → sector_right h (suc i) (settled a) (none gs) (drop 8 g) ≡ true
    → answer_of (read_spans h (suc i) (settled a) p (g ∷ gs)) ≡ answer_of (read_spans h (suc (suc i)) (settled a) (p + length g) gs)
good_step h i a p g gs e =
    sym
    (spans_good h i a p g gs (answer_of (judge_sector h (suc i) (settled a) p (none gs) (drop 8 g))) refl
    (ap (λ (j : Judged Sector). (answer_of j).number) (right_good h (suc i) (settled a) p (none gs) (drop 8 g) e)))

-- All are right: there is nothing to refuse.
pub all_right : (h : Home) (i : ℕ) (a : Address) (p : ℕ) (gs : List (List ℕ)) → wrong_left h (suc i) a gs ≡ 0 → done ≡ answer_of (read_spans h (suc i) (settled a) p gs)
unfolding wrong_left read_spans
all_right h i a p [] z = refl
all_right h i a p (g ∷ gs) z =
    cases (sector_right h (suc i) (settled a) (none gs) (drop 8 g))
    (λ e. all_right h (suc i) a (p + length g) gs (rw e at z) ∙ sym (good_step h i a p g gs e))
    (λ e. absurd (let y : suc (length gs) ≡ 0 = rw e at z in omega arith))

-- The wrong sector by the number k of the spans behind it: its span, and the answer that is that of the track.
pub record WrongAt (h : Home) (i : ℕ) (a : Address) (p : ℕ) (gs : List (List ℕ)) (k : ℕ) : Type 0 where
  pub span : List ℕ
  pub later : List (List ℕ)
  pub within : suc k ≤ length gs
  pub cut : drop (length gs - suc k) gs ≡ span ∷ later
  pub answer : answer_of (judge_sector h (suc i + (length gs - suc k)) (settled a) (get_or (starts_of p gs) (length gs - suc k) 0) (none later) (drop 8 span)) ≡ answer_of (read_spans h (suc i) (settled a) p gs)

pub wrong_at_lem : (h : Home) (i : ℕ) (a : Address) (p : ℕ) (gs : List (List ℕ)) (k : ℕ) → wrong_left h (suc i) a gs ≡ suc k → WrongAt h i a p gs k
unfolding wrong_left starts_of
wrong_at_lem h i a p [] k e = absurd (omega arith)
wrong_at_lem h i a p (g ∷ gs) k e =
    cases (sector_right h (suc i) (settled a) (none gs) (drop 8 g))
    (λ r.
    let w = wrong_at_lem h (suc i) a (p + length g) gs k (rw r at e) in
    let j : ℕ = length gs - suc k in
    let z : suc (length gs) - suc k ≡ suc j = omega (arith, w.within) in
    let y : suc i + suc j ≡ suc (suc i) + j = omega arith in
    record {
      span = w.span;
      later = w.later;
      within = omega (arith, w.within);
      cut = rw z w.cut;
      answer = rw (z, y) (w.answer ∙ sym (good_step h i a p g gs r));
    })
    (λ r.
    let q : suc (length gs) ≡ suc k = rw r at e in
    let z : suc (length gs) - suc k ≡ 0 = omega arith in
    let y : suc i + 0 ≡ suc i = omega arith in
    record {
      span = g;
      later = gs;
      within = omega arith;
      cut = rw z refl;
      answer = rw (z, y) (spans_refused h i a p g gs (answer_of (judge_sector h (suc i) (settled a) p (none gs) (drop 8 g))) refl (right_not h (suc i) (settled a) p (none gs) (drop 8 g) r));
    })

-- What is left of the track t with the marks m from the place at j of the list on.
pub record LeftAt (t m ns : List ℕ) (gs : List (List ℕ)) (j : ℕ) : Type 0 where
  pub reach : get_or ns j 0 < length t
  pub left : LaterSpans (get_or ns j 0) (drop (get_or ns j 0) t) (drop (get_or ns j 0) m) (drop j ns)
  pub spans_are : later_spans (cells (drop (get_or ns j 0) t) (drop (get_or ns j 0) m)) ≡ drop j gs

-- The first place of the list.
first_place : (p : ℕ) (gs : List (List ℕ)) → 0 < length gs → get_or (starts_of p gs) 0 0 ≡ p
unfolding starts_of
first_place p [] h = absurd (omega arith)
first_place p (g ∷ gs) h = refl

-- Where spans are left, so are bytes.
spans_bytes : (p : ℕ) (t m ns : List ℕ) → LaterSpans p t m ns → 0 < length (later_spans (cells t m)) → 0 < length t
spans_bytes p [] m ns r h = absurd (let z : later_spans (cells [] m) ≡ [] = no_span [] m refl in omega (arith, ap length z))
spans_bytes p (b ∷ t) m ns r h = omega arith

module _ (t m ns : List ℕ) (p : ℕ) (r : LaterSpans p (drop p t) (drop p m) ns) where
  listed_length : length ns ≡ length (later_spans (cells (drop p t) (drop p m)))
  listed_length = ap length r.places ∙ length_starts p (later_spans (cells (drop p t) (drop p m)))

  pub left_at : (j : ℕ) → j < length ns → LeftAt t m ns (later_spans (cells (drop p t) (drop p m))) j
  left_at zero h =
      let e : get_or ns 0 0 ≡ p = ap (λ (l : List ℕ). get_or l 0 0) r.places ∙ first_place p (later_spans (cells (drop p t) (drop p m))) (omega (arith, listed_length)) in
      let b : 0 < length (drop p t) = spans_bytes p (drop p t) (drop p m) ns r (omega (arith, listed_length)) in
      record { reach = rw e (omega (arith, length-drop p t)); left = rw e r; spans_are = rw e refl }
  left_at (suc j) h = next (left_at j (omega arith))
    where
      next : LeftAt t m ns (later_spans (cells (drop p t) (drop p m))) j → LeftAt t m ns (later_spans (cells (drop p t) (drop p m))) (suc j)
      next s =
          let q : ℕ = get_or ns j 0 in
          let n : ℕ = get_or ns (j + 1) (length t) - q in
          let f = ahead t m ns j q n s.left s.reach refl in
          let one : j + 1 ≡ suc j = omega arith in
          let g : get_or ns (j + 1) (length t) ≡ q + n = omega (arith, f.opening) in
          let d : get_or ns (suc j) 0 ≡ q + n = get_or_default ns (suc j) 0 (length t) h ∙ ap (λ (k : ℕ). get_or ns k (length t)) (sym one) ∙ g in
          let c : drop (suc j) (later_spans (cells (drop p t) (drop p m))) ≡ f.later =
          ap (λ (k : ℕ). drop k (later_spans (cells (drop p t) (drop p m)))) (sym one) ∙ sym (drop-drop 1 j (later_spans (cells (drop p t) (drop p m)))) ∙ ap (drop 1) (sym s.spans_are ∙ f.cut) in
          let u : later_spans (cells (drop (q + n) t) (drop (q + n) m)) ≡ f.later = rw (drop-drop n q t, drop-drop n q m) at f.later_cut in
          let v : LaterSpans (q + n) (drop (q + n) t) (drop (q + n) m) (drop (j + 1) ns) = ahead_rest t m ns j q n f in
          let e : drop (suc j) ns ≡ drop (j + 1) ns = ap (λ (k : ℕ). drop k ns) (sym one) in
          let k : 0 < length f.later = omega (arith, ap length c, length-drop (suc j) (later_spans (cells (drop p t) (drop p m))), listed_length) in
          let b : 0 < length (drop (q + n) t) = spans_bytes (q + n) (drop (q + n) t) (drop (q + n) m) (drop (j + 1) ns) v (omega (arith, ap length u)) in
          record { reach = rw d (omega (arith, length-drop (q + n) t)); left = rw (d, e) v; spans_are = rw d (u ∙ sym c) }

-- Behind a listed sector the next one starts, or index comes.
pub listed_end : (p : ℕ) (t m ns : List ℕ) (j : ℕ) → LaterSpans p (drop p t) (drop p m) ns → j < length ns
    → (get_or ns j 0 + 8 ≤ get_or ns (j + 1) (length t)) × (get_or ns (j + 1) (length t) ≤ length t)
listed_end p t m ns j r h =
    let q = get_or ns j 0 in
    let l = left_at t m ns p r j h in
    let f = ahead t m ns j q (get_or ns (j + 1) (length t) - q) l.left l.reach refl in
    (omega (arith, f.opening), omega (arith, f.opening, f.fits, l.reach, length-drop q t))

-- Whether a span is the last is told by the list and by what is left of it alike.
last_at : (ns : List ℕ) (k : ℕ) → k < length ns → leb (length ns) (k + 1) ≡ leb (length (drop k ns)) 1
last_at ns k h =
    cases (leb (length ns) (k + 1))
    (λ y. y ∙ sym (le-leb (length (drop k ns)) 1 (omega (arith, length-drop k ns, leb-true (length ns) (k + 1) y))))
    (λ n. n ∙ sym (lt-leb (length (drop k ns)) 1 (omega (arith, length-drop k ns, leb-false (length ns) (k + 1) n))))

-- The wrong sector of the track t with the marks m, where `left` sectors are left from it on.
module _ (h : Home) (a : Address) (t m ns : List ℕ) (p : ℕ) (r : LaterSpans p (drop p t) (drop p m) ns) (left : ℕ)
    (e : left ≡ wrong_left h 1 a (later_spans (cells (drop p t) (drop p m)))) where
  -- It is listed,
  pub wrong_listed : left ≤ length ns
  wrong_listed = omega (arith, e, wrong_most h 1 a (later_spans (cells (drop p t) (drop p m))), listed_length t m ns p r)

  module _ (some : left ≡ 0 → ⊥) where
    -- it stands on the track,
    pub wrong_left_lem : LeftAt t m ns (later_spans (cells (drop p t) (drop p m))) (length ns - left)
    wrong_left_lem = left_at t m ns p r (length ns - left) (omega (arith, wrong_listed, some))

    -- its span is found in the list,
    pub wrong_front : (n : ℕ) → n ≡ get_or ns (length ns - left + 1) (length t) - get_or ns (length ns - left) 0
        → Front (get_or ns (length ns - left) 0) n (drop (get_or ns (length ns - left) 0) t) (drop (get_or ns (length ns - left) 0) m) (drop (length ns - left) ns)
    wrong_front n d = ahead t m ns (length ns - left) (get_or ns (length ns - left) 0) n wrong_left_lem.left wrong_left_lem.reach d

    -- and its answer is that of all later sectors.
    pub wrong_answer : (n : ℕ) (f : Front (get_or ns (length ns - left) 0) n (drop (get_or ns (length ns - left) 0) t) (drop (get_or ns (length ns - left) 0) m) (drop (length ns - left) ns))
        (last : Bool) → last ≡ leb (length ns) (length ns - left + 1) → (b : Answer)
        → b ≡ answer_of (judge_sector h (length ns - left + 1) (settled a) (get_or ns (length ns - left) 0) last (take (get_or ns (length ns - left) 0 + n - (get_or ns (length ns - left) 0 + 8)) (drop (get_or ns (length ns - left) 0 + 8) t)))
        → b ≡ answer_of (read_spans h 1 (settled a) p (later_spans (cells (drop p t) (drop p m))))
    wrong_answer n f last l b c = go left e some refl
      where
        go : (i : ℕ) → i ≡ wrong_left h 1 a (later_spans (cells (drop p t) (drop p m))) → (i ≡ 0 → ⊥) → left ≡ i → b ≡ answer_of (read_spans h 1 (settled a) p (later_spans (cells (drop p t) (drop p m))))
        go zero u s v = absurd (s refl)
        go (suc k) u s v =
            let gs : List (List ℕ) = later_spans (cells (drop p t) (drop p m)) in
            let w = wrong_at_lem h 0 a p gs k (sym u) in
            let q : ℕ = get_or ns (length ns - left) 0 in
            let j : length gs - suc k ≡ length ns - left = omega (arith, listed_length t m ns p r) in
            let cuts : f.span ∷ f.later ≡ w.span ∷ w.later = sym f.cut ∙ wrong_left_lem.spans_are ∙ ap (λ (x : ℕ). drop x gs) (sym j) ∙ w.cut in
            let y : f.span ≡ w.span = ap (λ (x : List (List ℕ)). get_or x 0 []) cuts in
            let z : f.later ≡ w.later = ap (drop 1) cuts in
            let bytes : take (q + n - (q + 8)) (drop (q + 8) t) ≡ drop 8 w.span =
            ap (λ (x : ℕ). take x (drop (q + 8) t)) {x = q + n - (q + 8)} {y = n - 8} (omega arith) ∙ ap (take (n - 8)) (sym (drop-drop 8 q t)) ∙ f.bytes ∙ ap (drop 8) y in
            let place : get_or (starts_of p gs) (length gs - suc k) 0 ≡ q = rw (j, ← r.places) refl in
            let position : 1 + (length gs - suc k) ≡ length ns - left + 1 = omega (arith, j) in
            let final : last ≡ none w.later = l ∙ last_at ns (length ns - left) (omega (arith, wrong_listed, some)) ∙ f.last ∙ ap none z in
            c ∙ rw (final, bytes, ← place, ← position) w.answer

-- The same by slices: no more are left than are listed.
pub left_listed : (h : Home) (a : Address) (t m ns : List ℕ) (p left : ℕ) → LaterSpans p (drop p t) (drop p m) ns
    → left ≡ wrong_left h 1 a (later_spans (cells (take (length t - p) (drop p t)) (take (length m - p) (drop p m)))) → left ≤ length ns
left_listed h a t m ns p left r e = wrong_listed h a t m ns p r left (rw (part_all p t, part_all p m) at e)
