-- The spans of a track with one more span behind them: the last of the old ones is cut at the end of its block and gets a new gap.
use mathlib.Core.Path.{◌≡◌, refl, sym, ap, ap₂, ◌∙◌, subst}
use Prim.Native.Nat.{ℕ, suc, ◌+◌, ◌≤◌}
use native.Mathlib.Omega.{arith}
use mathlib.Core.Bool.{true, false}
use mathlib.Core.List.{List, [], ◌∷◌, ◌++◌, map, append_assoc, append-nil}
use lib.ListN.{length, take, replicate, length-append}
use lib.Seq.{take-append-add, take-append-le}
use Rattle.format.specs.Judged.{good}
use Rattle.format.specs.Address.{Address}
use Rattle.format.specs.Home.{Home}
use Rattle.format.specs.Count.{Settled, settled}
use Rattle.format.specs.Block.{least_gap}
use Rattle.format.specs.Span.{joined, none, clean_span, clean_spans}
use Rattle.format.specs.Sector.{Sector, settle, read_span}
use Rattle.format.specs.Accept.{Placed, placed_from, end_of, last_of}
use Rattle.format.specs.Listing.{listed}
use Rattle.format.proofs.Spans.Shape.{Shape}
use Rattle.format.proofs.Spans.Cutting.{shape_cons, shape_head, shape_tail}
use Rattle.base.proofs.Tests.{and_both, and_make}
use Rattle.format.proofs.Sector.ReadsAs.{Reads}
use Rattle.format.proofs.Track.SharedAddress.{AllName, MaySettle, settle_named}
use Rattle.format.proofs.Sector.ReadSector.{read_inv, read_first}
use Rattle.format.proofs.Sector.Regapped.{block_place, regapped, place_in, end_placed}
use Rattle.format.proofs.Written.WrittenEnds.{gaps_of}
use Rattle.format.proofs.Written.ShortenedSpan.{shortened, length_shortened, read_shortened, place_shortened, clean_shortened, shape_shortened}

-- The spans g and gs, of which g stands in position i, the last of them with m bytes of gap, and w behind them.
unfoldable pub grown : ℕ → List ℕ → List (List ℕ) → ℕ → List ℕ → List (List ℕ)
grown i g [] m w = shortened i g m ∷ w ∷ []
grown i g (k ∷ gs) m w = g ∷ grown (suc i) k gs m w

-- There is at least one.
pub none_grown : (i : ℕ) (g : List ℕ) (gs : List (List ℕ)) (m : ℕ) (w : List ℕ) → none (grown i g gs m w) ≡ false
unfolding grown
none_grown i g [] m w = refl
none_grown i g (k ∷ gs) m w = refl

-- They read as the old sectors and the new one, s.
pub reads_grown : (h : Home) (i : ℕ) (x : Settled) (p : ℕ) (g : List ℕ) (gs : List (List ℕ)) (ss : List Sector) (m : ℕ) (w : List ℕ) (s : Sector) (b : Address) (n : ℕ)
    → n ≡ suc (i + length gs) → Reads h i x p (g ∷ gs) ss → MaySettle x b → AllName b ss → 21 ≤ m → ((q : ℕ) → read_span h n (settled b) q true w ≡ good s)
    → Reads h i x p (grown i g gs m w) (ss ++ s ∷ [])
unfolding grown
reads_grown h i x p g gs [] m w s b n d e y v l f = absurd e
reads_grown h i x p g [] (t ∷ r ∷ ss) m w s b n d e y v l f = absurd e.1
reads_grown h i x p g [] (t ∷ []) m w s b n d e y v l f =
    let q : ℕ = p + length (shortened i g m) in
    let u : n ≡ suc i = omega arith in
    (read_shortened i g m h x p true t e.0 l, (rw (settle_named x t b y v.0) (subst (λ (k : ℕ). read_span h k (settled b) q true w ≡ good s) u (f q)), tt))
reads_grown h i x p g (k ∷ gs) (t ∷ ss) m w s b n d e y v l f =
    let z : MaySettle (settle x t) b = subst (λ (c : Settled). MaySettle c b) (sym (settle_named x t b y v.0)) refl in
    (rw (none_grown (suc i) k gs m w) e.0, reads_grown h (suc i) (settle x t) (p + length g) k gs ss m w s b n (omega arith) e.1 z v.1 l f)

-- They have the shape of spans,
pub shape_grown : (i : ℕ) (g : List ℕ) (gs : List (List ℕ)) (m : ℕ) (w : List ℕ) (n : ℕ) → n ≡ suc (i + length gs)
    → Shape i (g ∷ gs) → clean_spans i (g ∷ gs) ≡ true → Shape n (w ∷ []) → Shape i (grown i g gs m w)
unfolding grown clean_spans
shape_grown i g [] m w n d v c u =
    let k = and_both (clean_span i g) true c in
    let e : n ≡ suc i = omega arith in
    shape_cons i (shortened i g m) (w ∷ []) (shape_shortened i g m v k.0) (subst (λ (j : ℕ). Shape j (w ∷ [])) e u)
shape_grown i g (k ∷ gs) m w n d v c u =
    shape_cons i g (grown (suc i) k gs m w) (shape_head i g (k ∷ gs) v)
    (shape_grown (suc i) k gs m w n (omega arith) (shape_tail i g (k ∷ gs) v) (and_both (clean_span i g) (clean_spans (suc i) (k ∷ gs)) c).1 u)

-- and no stray mark, where the old ones and the new one have none.
pub clean_grown : (i : ℕ) (g : List ℕ) (gs : List (List ℕ)) (m : ℕ) (w : List ℕ) (n : ℕ) → n ≡ suc (i + length gs)
    → Shape i (g ∷ gs) → clean_spans i (g ∷ gs) ≡ true → clean_span n w ≡ true → clean_spans i (grown i g gs m w) ≡ true
unfolding grown clean_spans
clean_grown i g [] m w n d v c u =
    let k = and_both (clean_span i g) true c in
    let e : n ≡ suc i = omega arith in
    rw (clean_shortened i g m v k.0, subst (λ (j : ℕ). clean_span j w ≡ true) e u)
clean_grown i g (k ∷ gs) m w n d v c u =
    let a = and_both (clean_span i g) (clean_spans (suc i) (k ∷ gs)) c in
    and_make a.0 (clean_grown (suc i) k gs m w n (omega arith) (shape_tail i g (k ∷ gs) v) a.1 u)

-- The sector s of the span g at place p.
abbrev pub placed_at : ℕ → List ℕ → Sector → Placed
placed_at p g s = record { place = p; span = g; sector = s }

-- The last of the sectors s and ss of the spans g and gs, of which g stands at place p.
abbrev pub last_placed : ℕ → List ℕ → List (List ℕ) → Sector → List Sector → Placed
last_placed p g gs s ss = last_of (placed_at p g s) (placed_from (p + length g) gs ss)

-- There are as many placed sectors as spans.
pub length_placed : (p : ℕ) (gs : List (List ℕ)) (ss : List Sector) → length gs ≡ length ss → length (placed_from p gs ss) ≡ length gs
unfolding placed_from
length_placed p [] ss e = refl
length_placed p (g ∷ gs) [] e = absurd (omega arith)
length_placed p (g ∷ gs) (s ∷ ss) e = ap suc (length_placed (p + length g) gs ss (omega arith))

-- The last of the placed sectors names what all name.
pub last_name : (b : Address) (p : ℕ) (g : List ℕ) (gs : List (List ℕ)) (s : Sector) (ss : List Sector) → AllName b (s ∷ ss) → (last_placed p g gs s ss).sector.address ≡ b
unfolding placed_from
last_name b p g [] s ss v = v.0
last_name b p g (k ∷ gs) s [] v = v.0
last_name b p g (k ∷ gs) s (t ∷ ss) v = last_name b (p + length g) k gs t ss v.1

-- With a new gap the block of the last span ends where it ended, and the gap is the new one.
module _ (h : Home) (i : ℕ) (x : Settled) (p : ℕ) (g : List ℕ) (s : Sector) (m : ℕ) (e : read_span h i x p true g ≡ good s) where
  inside : block_place i g ≤ length g
  inside = omega (arith, place_in i g h x p true s e)

  old_end : end_of (placed_at p g s) ≡ p + block_place i g
  old_end = end_placed i p g s (read_first h i x true g s (read_inv h i x p true g s e))

  same_end : end_of (placed_at p (shortened i g m) s) ≡ end_of (placed_at p g s)
  same_end = omega (arith, end_placed i p (shortened i g m) s (read_first h i x true g s (read_inv h i x p true g s e)), old_end, place_shortened i g m inside)

  next_opening : p + length (shortened i g m) ≡ end_of (placed_at p g s) + m
  next_opening = omega (arith, length_shortened i g m inside, old_end)

  new_gap : (listed (placed_at p (shortened i g m) s)).gap ≡ m
  unfolding listed
  new_gap = omega (arith, same_end, next_opening)

-- In the grown spans the blocks of the old sectors end where they ended, and the new one opens behind the last of them and its gap.
pub ends_grown : (h : Home) (i : ℕ) (x : Settled) (p : ℕ) (g : List ℕ) (gs : List (List ℕ)) (s : Sector) (ss : List Sector) (m : ℕ) (w : List ℕ) (n : Sector)
    → Reads h i x p (g ∷ gs) (s ∷ ss)
    → map end_of (placed_from p (grown i g gs m w) ((s ∷ ss) ++ n ∷ []))
    ≡ map end_of (placed_from p (g ∷ gs) (s ∷ ss)) ++ end_of (placed_at (end_of (last_placed p g gs s ss) + m) w n) ∷ []
unfolding grown placed_from
ends_grown h i x p g [] s [] m w n e =
    ap₂ (λ (j k : ℕ). j ∷ end_of (placed_at k w n) ∷ []) (same_end h i x p g s m e.0) (next_opening h i x p g s m e.0)
ends_grown h i x p g [] s (t ∷ ss) m w n e = absurd e.1
ends_grown h i x p g (k ∷ gs) s [] m w n e = absurd e.1
ends_grown h i x p g (k ∷ gs) s (t ∷ ss) m w n e =
    ap (λ (js : List ℕ). end_of (placed_at p g s) ∷ js) (ends_grown h (suc i) (settle x s) (p + length g) k gs t ss m w n e.1)

-- The gaps behind all placed sectors but the last.
abbrev pub gaps_before_last : List Placed → List ℕ
gaps_before_last [] = []
gaps_before_last (x ∷ []) = []
gaps_before_last (x ∷ y ∷ xs) = (listed x).gap ∷ gaps_before_last (y ∷ xs)

-- The gaps are those of the old sectors, the new one behind the last of them, and that of the new sector.
pub gaps_grown : (h : Home) (i : ℕ) (x : Settled) (p : ℕ) (g : List ℕ) (gs : List (List ℕ)) (s : Sector) (ss : List Sector) (m : ℕ) (w : List ℕ) (n : Sector)
    → Reads h i x p (g ∷ gs) (s ∷ ss)
    → gaps_of (placed_from p (grown i g gs m w) ((s ∷ ss) ++ n ∷ []))
    ≡ gaps_before_last (placed_from p (g ∷ gs) (s ∷ ss)) ++ m ∷ (listed (placed_at (end_of (last_placed p g gs s ss) + m) w n)).gap ∷ []
unfolding grown placed_from
gaps_grown h i x p g [] s [] m w n e =
    ap₂ (λ (j k : ℕ). j ∷ (listed (placed_at k w n)).gap ∷ []) (new_gap h i x p g s m e.0) (next_opening h i x p g s m e.0)
gaps_grown h i x p g [] s (t ∷ ss) m w n e = absurd e.1
gaps_grown h i x p g (k ∷ gs) s [] m w n e = absurd e.1
gaps_grown h i x p g (k ∷ gs) s (t ∷ ss) m w n e =
    ap (λ (js : List ℕ). (listed (placed_at p g s)).gap ∷ js) (gaps_grown h (suc i) (settle x s) (p + length g) k gs t ss m w n e.1)

-- The block of the last sector and 13 bytes more lie in the track.
pub end_in_lem : (h : Home) (i : ℕ) (x : Settled) (p : ℕ) (g : List ℕ) (gs : List (List ℕ)) (s : Sector) (ss : List Sector) → Reads h i x p (g ∷ gs) (s ∷ ss)
    → end_of (last_placed p g gs s ss) + 13 ≤ p + length (joined (g ∷ gs))
unfolding placed_from least_gap
end_in_lem h i x p g [] s ss e = omega (arith, end_placed i p g s (read_first h i x true g s (read_inv h i x p true g s e.0)), place_in i g h x p true s e.0, length-append g [])
end_in_lem h i x p g (k ∷ gs) s [] e = absurd e.1
end_in_lem h i x p g (k ∷ gs) s (t ∷ ss) e =
    omega (arith, end_in_lem h (suc i) (settle x s) (p + length g) k gs t ss e.1, length-append g (joined (k ∷ gs)))

-- Behind the head xs the grown spans are the track up to the end of its last block, the gap and the new span.
pub joined_grown : (xs : List ℕ) (h : Home) (i : ℕ) (x : Settled) (p : ℕ) (g : List ℕ) (gs : List (List ℕ)) (s : Sector) (ss : List Sector) (m : ℕ) (w : List ℕ)
    → length xs ≡ p → Reads h i x p (g ∷ gs) (s ∷ ss)
    → xs ++ joined (grown i g gs m w) ≡ (take (end_of (last_placed p g gs s ss)) (xs ++ joined (g ∷ gs)) ++ replicate m 0xFF) ++ w
unfolding grown placed_from regapped
joined_grown xs h i x p g [] s ss m w l e =
    let n : ℕ = block_place i g in
    let inside : n ≤ length g = omega (arith, place_in i g h x p true s e.0) in
    let place : end_of (placed_at p g s) ≡ length xs + n = omega (arith, end_placed i p g s (read_first h i x true g s (read_inv h i x p true g s e.0))) in
    let kept : take (end_of (placed_at p g s)) (xs ++ (g ++ [])) ≡ xs ++ take n g =
    ap (λ (j : ℕ). take j (xs ++ (g ++ []))) place ∙ take-append-add xs (g ++ []) n ∙ ap (λ (z : List ℕ). xs ++ z) (take-append-le n g [] inside) in
    rw kept (simp (append_assoc, append-nil))
joined_grown xs h i x p g (k ∷ gs) s [] m w l e = absurd e.1
joined_grown xs h i x p g (k ∷ gs) s (t ∷ ss) m w l e =
    let q : ℕ = end_of (last_placed (p + length g) k gs t ss) in
    sym (append_assoc xs g (joined (grown (suc i) k gs m w)))
    ∙ joined_grown (xs ++ g) h (suc i) (settle x s) (p + length g) k gs t ss m w (omega (arith, length-append xs g)) e.1
    ∙ ap (λ (z : List ℕ). (take q z ++ replicate m 0xFF) ++ w) (append_assoc xs g (joined (k ∷ gs)))
