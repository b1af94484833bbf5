-- An accepted track with other bytes behind one count's opening: its spans are those of before but for that one, and Accept comes to it.
use mathlib.Core.Path.{◌≡◌, refl, sym, ap, ◌∙◌}
use mathlib.Core.Logic.{inl, inr}
use Prim.Native.Nat.{ℕ, suc, ◌+◌, ◌≤◌}
use native.Mathlib.Omega.{arith}
use mathlib.Core.Bool.{Bool, true, false}
use mathlib.Core.List.{List, [], ◌∷◌, ◌++◌, append_assoc}
use lib.ListN.{length, take, drop, length-append, length-drop, take-append-drop}
use lib.Seq.{drop_at, length-take-le}
use Rattle.base.specs.Lists.{Member}
use Rattle.base.proofs.Tests.{and_both, and_make}
use Rattle.format.specs.Judged.{good}
use Rattle.format.specs.Lent.{unmarked}
use Rattle.format.specs.Home.{Home, judge_home, first_count_place}
use Rattle.format.specs.Count.{Settled, unsettled}
use Rattle.format.specs.Block.{blocks_fit}
use Rattle.format.specs.Span.{spans, joined, none, clean_span, clean_spans}
use Rattle.format.specs.Sector.{Sector, opening_length, is_first, settle, read_span}
use Rattle.format.specs.Accept.{Placed, placed_rest, placed_start, placed_from, judge_marks, spans_of, first_count_end}
use Rattle.format.proofs.Spans.Shape.{Shape, FirstReaches}
use Rattle.format.proofs.Spans.Cutting.{shape_cons, shape_head, shape_tail}
use Rattle.format.proofs.Spans.Marks.{clean_marks}
use Rattle.format.proofs.Sector.ReadSector.{ReadAs, rest_of, read_inv, read_first, placed_rest_lem, span_least}
use Rattle.format.proofs.Sector.ReadsAs.{Reads}
use Rattle.format.proofs.Sector.OtherRest.{with_rest, length_with_rest, clean_with_rest, shape_with_rest}
use Rattle.format.proofs.Track.HomeLocal.{home_local}
use Rattle.format.proofs.Track.AcceptedSpans.{Track, spans_found}
use Rattle.format.proofs.Faults.AcceptFault.{ComesTo}

-- Other bytes z behind the count's opening of the sector y.
module _ (y : Placed) (z : List ℕ) where
  -- The spans gs of the sectors ss, from position i and place p on, with z in that of y, which is one of the sectors.
  unfoldable pub altered_spans : (i p : ℕ) (gs : List (List ℕ)) (ss : List Sector) → Member y (placed_from p gs ss) → List (List ℕ)
  unfolding placed_from
  altered_spans i p [] ss m = absurd m
  altered_spans i p (g ∷ gs) [] m = absurd m
  altered_spans i p (g ∷ gs) (s ∷ ss) (inl e) = with_rest i g z ∷ gs
  altered_spans i p (g ∷ gs) (s ∷ ss) (inr m) = g ∷ altered_spans (suc i) (p + length g) gs ss m

  -- There is none exactly where there was none.
  pub none_altered : (i p : ℕ) (gs : List (List ℕ)) (ss : List Sector) (m : Member y (placed_from p gs ss)) → none (altered_spans i p gs ss m) ≡ none gs
  unfolding placed_from altered_spans
  none_altered i p [] ss m = absurd m
  none_altered i p (g ∷ gs) [] m = absurd m
  none_altered i p (g ∷ gs) (s ∷ ss) (inl e) = refl
  none_altered i p (g ∷ gs) (s ∷ ss) (inr m) = refl

  -- They keep their shape,
  pub shape_altered : (i p : ℕ) (gs : List (List ℕ)) (ss : List Sector) (m : Member y (placed_from p gs ss)) → unmarked z ≡ true → Shape i gs → clean_spans i gs ≡ true
      → Shape i (altered_spans i p gs ss m)
  unfolding placed_from altered_spans clean_spans
  shape_altered i p [] ss m u v c = absurd m
  shape_altered i p (g ∷ gs) [] m u v c = absurd m
  shape_altered i p (g ∷ gs) (s ∷ ss) (inl e) u v c =
      let k = and_both (clean_span i g) (clean_spans (suc i) gs) c in
      shape_cons i (with_rest i g z) gs (shape_with_rest i g z (shape_head i g gs v) k.0 u) (shape_tail i g gs v)
  shape_altered i p (g ∷ gs) (s ∷ ss) (inr m) u v c =
      let k = and_both (clean_span i g) (clean_spans (suc i) gs) c in
      shape_cons i g (altered_spans (suc i) (p + length g) gs ss m) (shape_head i g gs v) (shape_altered (suc i) (p + length g) gs ss m u (shape_tail i g gs v) k.1)

  -- have no stray mark,
  pub clean_altered : (i p : ℕ) (gs : List (List ℕ)) (ss : List Sector) (m : Member y (placed_from p gs ss)) → unmarked z ≡ true → Shape i gs → clean_spans i gs ≡ true
      → clean_spans i (altered_spans i p gs ss m) ≡ true
  unfolding placed_from altered_spans clean_spans
  clean_altered i p [] ss m u v c = absurd m
  clean_altered i p (g ∷ gs) [] m u v c = absurd m
  clean_altered i p (g ∷ gs) (s ∷ ss) (inl e) u v c =
      let k = and_both (clean_span i g) (clean_spans (suc i) gs) c in
      and_make (clean_with_rest i g z (shape_head i g gs v) k.0 u) k.1
  clean_altered i p (g ∷ gs) (s ∷ ss) (inr m) u v c =
      let k = and_both (clean_span i g) (clean_spans (suc i) gs) c in
      and_make k.0 (clean_altered (suc i) (p + length g) gs ss m u (shape_tail i g gs v) k.1)

  -- Where z is as long as what it replaces it is as long as the rest of the span of y.
  pub rest_length : (i p : ℕ) (g : List ℕ) (s : Sector) → y ≡ record { place = p; span = g; sector = s } → s.first ≡ is_first i → length z ≡ length (placed_rest y) → length z ≡ length (rest_of i g)
  rest_length i p g s e f l = l ∙ ap (λ (q : Placed). length (placed_rest q)) e ∙ ap length (placed_rest_lem (record { place = p; span = g; sector = s }) i f)

  -- The span of y, where it stands: Accept comes to it with z in place of what was read as y.
  pub record StandsIn (h : Home) (i : ℕ) (x : Settled) (p : ℕ) (gs ks : List (List ℕ)) : Type 0 where
    pub position : ℕ
    pub shared : Settled
    pub last : Bool
    pub first_is : y.sector.first ≡ is_first position
    pub clean : clean_span position y.span ≡ true
    pub read : ReadAs h position shared last y.span y.sector
    pub comes : ComesTo h i x p ks (record { position = position; shared = shared; place = y.place; last = last; span = with_rest position y.span z })
    -- The cells up to the end of its count's opening, and those behind the span.
    pub front : List ℕ
    pub back : List ℕ
    pub place_is : p + length front ≡ placed_start y
    pub before_is : joined gs ≡ front ++ (placed_rest y ++ back)
    pub after_is : joined ks ≡ front ++ (z ++ back)

  -- What followed its opening is the rest of the span in its position,
  pub stands_rest : {h : Home} {i : ℕ} {x : Settled} {p : ℕ} {gs ks : List (List ℕ)} (v : StandsIn h i x p gs ks) → placed_rest y ≡ rest_of v.position y.span
  stands_rest v = placed_rest_lem y v.position v.first_is

  -- and in it the blocks did fit.
  pub stands_fit : {h : Home} {i : ℕ} {x : Settled} {p : ℕ} {gs ks : List (List ℕ)} (v : StandsIn h i x p gs ks) → blocks_fit v.last (placed_rest y) ≡ true
  stands_fit v = ap (blocks_fit v.last) (stands_rest v) ∙ v.read.blocks_fit_holds

  -- As the first of the spans.
  stands_first : (h : Home) (i : ℕ) (x : Settled) (p : ℕ) (g : List ℕ) (gs : List (List ℕ)) (s : Sector) → read_span h i x p (none gs) g ≡ good s → clean_span i g ≡ true → y ≡ record { place = p; span = g; sector = s }
      → StandsIn h i x p (g ∷ gs) (with_rest i g z ∷ gs)
  unfolding with_rest
  stands_first h i x p g gs s r c e =
      let o : ℕ = opening_length (is_first i) in
      let v = read_inv h i x p (none gs) g s r in
      let f : s.first ≡ is_first i = read_first h i x (none gs) g s v in
      let within : o ≤ length g = omega (arith, span_least h i x (none gs) g s v) in
      let rest : placed_rest y ≡ drop o g = ap placed_rest e ∙ placed_rest_lem (record { place = p; span = g; sector = s }) i f in
      record {
        position = i;
        shared = x;
        last = none gs;
        first_is = ap (λ (k : Placed). k.sector.first) e ∙ f;
        clean = rw e c;
        read = rw e v;
        comes = inl (rw e);
        front = take o g;
        back = joined gs;
        place_is = ap (λ (k : ℕ). p + k) (length-take-le o g within ∙ ap opening_length (sym f)) ∙ ap placed_start (sym e);
        before_is = ap (λ (k : List ℕ). k ++ joined gs) (sym (take-append-drop o g)) ∙ append_assoc (take o g) (drop o g) (joined gs) ∙ ap (λ (k : List ℕ). take o g ++ (k ++ joined gs)) (sym rest);
        after_is = append_assoc (take o g) z (joined gs);
      }

  -- Behind the first of them.
  stands_later : (h : Home) (i : ℕ) (x : Settled) (p : ℕ) (g : List ℕ) (gs ks : List (List ℕ)) (s : Sector) → read_span h i x p (none gs) g ≡ good s → none ks ≡ none gs
      → StandsIn h (suc i) (settle x s) (p + length g) gs ks → StandsIn h i x p (g ∷ gs) (g ∷ ks)
  stands_later h i x p g gs ks s r n v =
      record {
        position = v.position;
        shared = v.shared;
        last = v.last;
        first_is = v.first_is;
        clean = v.clean;
        read = v.read;
        comes = inr (s, rw n r, v.comes);
        front = g ++ v.front;
        back = v.back;
        place_is = omega (arith, v.place_is, length-append g v.front);
        before_is = ap (λ (k : List ℕ). g ++ k) v.before_is ∙ sym (append_assoc g v.front (placed_rest y ++ v.back));
        after_is = ap (λ (k : List ℕ). g ++ k) v.after_is ∙ sym (append_assoc g v.front (z ++ v.back));
      }

  -- It stands somewhere among them.
  pub stands_in : (h : Home) (i : ℕ) (x : Settled) (p : ℕ) (gs : List (List ℕ)) (ss : List Sector) (m : Member y (placed_from p gs ss)) → Reads h i x p gs ss → clean_spans i gs ≡ true
      → StandsIn h i x p gs (altered_spans i p gs ss m)
  unfolding placed_from altered_spans clean_spans
  stands_in h i x p [] ss m r c = absurd m
  stands_in h i x p (g ∷ gs) [] m r c = absurd m
  stands_in h i x p (g ∷ gs) (s ∷ ss) (inl e) r c = stands_first h i x p g gs s r.0 (and_both (clean_span i g) (clean_spans (suc i) gs) c).0 e
  stands_in h i x p (g ∷ gs) (s ∷ ss) (inr m) r c =
      stands_later h i x p g gs (altered_spans (suc i) (p + length g) gs ss m) s r.0 (none_altered (suc i) (p + length g) gs ss m)
      (stands_in h (suc i) (settle x s) (p + length g) gs ss m r.1 (and_both (clean_span i g) (clean_spans (suc i) gs) c).1)

  -- In the first of them there is room for n cells, if there was.
  reaches_altered : (h : Home) (i : ℕ) (x : Settled) (p n : ℕ) (gs : List (List ℕ)) (ss : List Sector) (m : Member y (placed_from p gs ss)) → Reads h i x p gs ss → length z ≡ length (placed_rest y)
      → opening_length (is_first i) ≤ n → FirstReaches n gs → FirstReaches n (altered_spans i p gs ss m)
  unfolding placed_from altered_spans
  reaches_altered h i x p n [] ss m r l o f = absurd m
  reaches_altered h i x p n (g ∷ gs) [] m r l o f = absurd m
  reaches_altered h i x p n (g ∷ []) (s ∷ ss) (inl e) r l o f = tt
  reaches_altered h i x p n (g ∷ []) (s ∷ ss) (inr m) r l o f = absurd m
  reaches_altered h i x p n (g ∷ k ∷ gs) (s ∷ ss) (inl e) r l o f =
      let size = rest_length i p g s e (read_first h i x false g s (read_inv h i x p false g s r.0)) l in
      omega (arith, length_with_rest i g z (omega arith), length-drop (opening_length (is_first i)) g)
  reaches_altered h i x p n (g ∷ k ∷ gs) (s ∷ ss) (inr m) r l o f = cons (altered_spans (suc i) (p + length g) (k ∷ gs) ss m)
    where
      cons : (ks : List (List ℕ)) → FirstReaches n (g ∷ ks)
      cons [] = tt
      cons (j ∷ ks) = f

  -- A track of such spans behind the home h, where ss are the sectors that they were read as.
  module _ (head : List ℕ) (h : Home) (gs : List (List ℕ)) (ss : List Sector) (t : Track head h gs ss) (m : Member y (placed_from (first_count_place h.place) gs ss)) where
    -- Its spans.
    abbrev spans_altered : List (List ℕ)
    spans_altered = altered_spans 0 (first_count_place h.place) gs ss m

    -- Its home is the same.
    pub home_altered : judge_home (head ++ joined spans_altered) ≡ good h
    home_altered = home_local head (joined gs) (joined spans_altered) h t.home_judged t.head_length_holds

    -- Where z is unmarked its spans are found,
    pub spans_altered_lem : unmarked z ≡ true → spans_of h (head ++ joined spans_altered) ≡ spans_altered
    spans_altered_lem u =
        ap spans (drop_at head (joined spans_altered) (first_count_place h.place) t.head_length_holds)
        ∙ spans_found spans_altered (none_altered 0 (first_count_place h.place) gs ss m ∙ t.some_span) (shape_altered 0 (first_count_place h.place) gs ss m u t.shape t.clean)

    -- and where z is as long as what it replaces no mark is stray.
    pub marks_altered : unmarked z ≡ true → length z ≡ length (placed_rest y) → judge_marks (first_count_end h.place) 0 0 (head ++ joined spans_altered) ≡ good tt
    marks_altered u l =
        clean_marks (first_count_end h.place) head spans_altered (omega (arith, t.head_length_holds)) t.head_unmarked (shape_altered 0 (first_count_place h.place) gs ss m u t.shape t.clean)
        (clean_altered 0 (first_count_place h.place) gs ss m u t.shape t.clean) (reaches_altered h 0 unsettled (first_count_place h.place) 18 gs ss m t.reads l (omega arith) t.reaches)
