-- Accept gives 10 or 11 exactly where the first sector that it refuses has a key or data that is wrong, with the first part of it that is.
use mathlib.Core.Path.{◌≡◌, refl, sym, ap, ◌∙◌}
use mathlib.Core.Logic.{◌⊎◌, inl, inr, ⊎_elim}
use Prim.Native.Nat.{ℕ, zero, suc, ◌+◌, ◌≤◌}
use native.Mathlib.Omega.{arith}
use mathlib.Core.Bool.{Bool, true, false}
use mathlib.Core.List.{List, [], ◌∷◌, ◌++◌}
use lib.ListN.{length, drop, length-drop}
use lib.Seq.{drop-append_seam, drop-append-le, drop-drop}
use Rattle.format.specs.Answer.{Answer, lent_wrong, first_count_missing}
use Rattle.format.specs.Fault.{Fault, sound}
use Rattle.format.specs.Judged.{Judged, good, refused}
use Rattle.format.specs.Lent.{lent_for_reading, cells}
use Rattle.format.specs.Opening.{starts_with, plain_opening}
use Rattle.format.specs.Home.{Home, judge_home, first_count_place}
use Rattle.format.specs.Count.{Settled, unsettled}
use Rattle.format.specs.Block.{blocks_fit, test_key}
use Rattle.format.specs.Blocks.{Wanted, the_key, the_data, blocks_at, wanted_part, judge_fit, offset_of, wrong_at}
use Rattle.format.specs.BlockFault.{FaultIn, refuses_block}
use Rattle.format.specs.Span.{none, joined, clean_span, clean_spans}
use Rattle.format.specs.Sector.{Sector, opening_length, is_first, sector_in, settle, judge_count, read_blocks, judge_sector, read_span}
use Rattle.format.specs.Accept.{judge_marks, read_spans, placed_from, judge_numbers, Accepted, spans_of, first_count_end, judge_behind, accept_cells, accept}
use Rattle.base.proofs.Tests.{false-true, and_both}
use Rattle.format.proofs.Base.Judged.{good-refused, then-refused, require-refused}
use Rattle.format.proofs.Spans.Cutting.{joined_spans}
use Rattle.format.proofs.Spans.Marks.{marks_clean}
use Rattle.format.proofs.Spans.SpanAgrees.{clean_behind}
use Rattle.format.proofs.Sector.BlocksJudged.{block_fits, fit_good, part_good}
use Rattle.format.proofs.Sector.FaultBytes.{FaultAt, fault_at_lem, fault_tested, part_refused}
use Rattle.format.proofs.Sector.ReadSector.{rest_of}
use Rattle.format.proofs.Track.Pairs.{drop_cells}
use Rattle.format.proofs.Find.CandidateBytes.{front_bytes}
use Rattle.format.proofs.Faults.OtherAnswers.{other_refused, home_other, marks_other, count_other, fit_other, numbers_other}

-- A span that Accept has come to.
pub record Reached : Type 0 where
  -- Its position on the track.
  pub position : ℕ
  -- C and H, as the sectors before it settle them.
  pub shared : Settled
  -- The place at which it starts.
  pub place : ℕ
  -- Does it run to index?
  pub last : Bool
  -- Its cells.
  pub span : List ℕ

-- What follows the count's opening in it.
abbrev pub rest_reached : Reached → List ℕ
rest_reached y = rest_of y.position y.span

-- The place from which that follows.
abbrev pub place_reached : Reached → ℕ
place_reached y = y.place + opening_length (is_first y.position)

-- What Accept reads there.
abbrev pub read_reached : Home → Reached → Judged Sector
read_reached h y = read_span h y.position y.shared y.place y.last y.span

-- Of the spans gs, from position i and place p on, Accept comes to y: it is the first of them, or the first reads as a sector and y is among those behind.
abbrev pub ComesTo : Home → ℕ → Settled → ℕ → List (List ℕ) → Reached → Type 0
ComesTo h i x p [] y = ⊥
ComesTo h i x p (g ∷ gs) y =
    (y ≡ record { position = i; shared = x; place = p; last = none gs; span = g })
    ⊎ ((s : Sector) × (read_span h i x p (none gs) g ≡ good s) × ComesTo h (suc i) (settle x s) (p + length g) gs y)

-- The key or the data in y is at fault: the part f is the first that is wrong in the block that opens at q.
pub record FaultySpan (h : Home) (y : Reached) (w : Wanted) (f : Fault) (q : ℕ) : Type 0 where
  -- Sector 0's count opens; a later span starts with its opening.
  pub opened : y.position ≡ 0 → starts_with plain_opening y.span ≡ true
  -- The count fits its span, passes its check, and its flag, C and H are within the rule.
  pub count_judged : judge_count h y.position y.shared y.place (rest_reached y) ≡ good tt
  -- The blocks and the least gap fit the span.
  pub fits : blocks_fit y.last (rest_reached y) ≡ true
  -- Where it is the data that is at fault the key is not.
  pub key_sound : w ≡ the_data → test_key (rest_reached y) ≡ sound
  -- The block opens at q.
  pub place_is : q ≡ place_reached y + offset_of w (rest_reached y)
  -- The part f of it is the first that is wrong.
  pub fault : FaultIn w f (rest_reached y)

-- The first sector that Accept refuses on the pair t and m has a key or data at fault: the part f is the first that is wrong in the block that opens at q.
pub record FaultySector (t m : List ℕ) (w : Wanted) (f : Fault) (q : ℕ) : Type 0 where
  -- The track's home, and the span that is refused.
  pub home : Home
  pub reached : Reached
  -- The pair is lent within the rule.
  pub lent : lent_for_reading t m ≡ true
  -- Home is found and within the rule.
  pub home_judged : judge_home (cells t m) ≡ good home
  -- No mark is stray.
  pub marks_judged : judge_marks (first_count_end home.place) 0 0 (cells t m) ≡ good tt
  -- The sectors before it are read.
  pub comes : ComesTo home 0 unsettled (first_count_place home.place) (spans_of home (cells t m)) reached
  -- Its block is at fault.
  pub faulty : FaultySpan home reached w f q

-- The answer a is that of a block at fault in y.
abbrev FaultRead : Home → Reached → Answer → Type 0
FaultRead h y a = (w : Wanted) × (f : Fault) × (q : ℕ) × (a ≡ wrong_at w f q) × FaultySpan h y w f q

-- What refuses that which follows the opening is another answer, or a block is at fault.
sector_refused : (h : Home) (y : Reached) (a : Answer) → (y.position ≡ 0 → starts_with plain_opening y.span ≡ true)
    → judge_sector h y.position y.shared y.place y.last (rest_reached y) ≡ refused a → (refuses_block a ≡ false) ⊎ FaultRead h y a
unfolding judge_sector read_blocks
sector_refused h y a o e =
    let r : List ℕ = rest_reached y in
    let p : ℕ = place_reached y in
    then-refused (judge_count h y.position y.shared y.place r) _ a e
    (λ g. inl (other_refused (judge_count h y.position y.shared y.place r) a (count_other h y.position y.shared y.place r) g))
    (λ _ c d. then-refused (judge_fit y.place y.last r) _ a d
    (λ g. inl (other_refused (judge_fit y.place y.last r) a (fit_other y.place y.last r) g))
    (λ v k d.
    let fit : blocks_fit y.last r ≡ true = fit_good y.place y.last r v k in
    let here : (w : Wanted) → (w ≡ the_data → test_key r ≡ sound) → wanted_part w (blocks_at p r) ≡ refused a → (refuses_block a ≡ false) ⊎ FaultRead h y a = λ w s g.
    let z = part_refused w p r a g in
    inr (w, z.0, p + offset_of w r, z.1, record { opened = o; count_judged = c; fits = fit; key_sound = s; place_is = refl; fault = z.2 }) in
    then-refused (wanted_part the_key (blocks_at p r)) _ a d (here the_key (λ e. absurd (let z : ◌≡◌ {A = ℕ} 0 1 = cc in omega arith)))
    (λ part l d. then-refused (wanted_part the_data (blocks_at p r)) _ a d (here the_data (λ _. (part_good the_key p r part l).0))
    (λ _ _ g. good-refused (sector_in (is_first y.position) r) a g))))

-- What refuses a span is another answer, or a block is at fault,
span_refused : (h : Home) (i : ℕ) (x : Settled) (p : ℕ) (last : Bool) (g : List ℕ) (a : Answer) → read_span h i x p last g ≡ refused a
    → (refuses_block a ≡ false) ⊎ FaultRead h (record { position = i; shared = x; place = p; last = last; span = g }) a
unfolding read_span
span_refused h zero x p last g a e =
    require-refused (starts_with plain_opening g) (first_count_missing p) _ a e
    (λ _ n. inl (ap refuses_block (sym n)))
    (λ o d. sector_refused h (record { position = 0; shared = x; place = p; last = last; span = g }) a (λ _. o) d)
span_refused h (suc i) x p last g a e = sector_refused h (record { position = suc i; shared = x; place = p; last = last; span = g }) a (λ z. absurd (omega arith)) e

blocks_refused : (w : Wanted) (f : Fault) (first : Bool) (p : ℕ) (last : Bool) (r : List ℕ) → blocks_fit last r ≡ true → (w ≡ the_data → test_key r ≡ sound) → FaultIn w f r
    → read_blocks first p last r ≡ refused (wrong_at w f (p + opening_length first + offset_of w r))
unfolding read_blocks judge_fit blocks_at
blocks_refused the_key f first p last r k s v = rw (k, fault_tested the_key f r v)
blocks_refused the_data f first p last r k s v = rw (k, s refl, fault_tested the_data f r v)

-- and where a block is at fault the span is refused by that answer.
faulty_span : (h : Home) (i : ℕ) (x : Settled) (p : ℕ) (last : Bool) (g : List ℕ) (w : Wanted) (f : Fault) (q : ℕ)
    → FaultySpan h (record { position = i; shared = x; place = p; last = last; span = g }) w f q → read_span h i x p last g ≡ refused (wrong_at w f q)
unfolding read_span judge_sector
faulty_span h zero x p last g w f q v =
    rw (v.opened refl, v.count_judged, v.place_is) (blocks_refused w f true p last (drop 6 g) v.fits v.key_sound v.fault)
faulty_span h (suc i) x p last g w f q v =
    rw (v.count_judged, v.place_is) (blocks_refused w f false p last (drop 8 g) v.fits v.key_sound v.fault)

-- Spans are refused by what refuses one of them that Accept comes to,
comes_refused : (h : Home) (i : ℕ) (x : Settled) (p : ℕ) (gs : List (List ℕ)) (a : Answer) → read_spans h i x p gs ≡ refused a
    → (y : Reached) × ComesTo h i x p gs y × (read_reached h y ≡ refused a)
unfolding read_spans
comes_refused h i x p [] a e = good-refused {A = List Sector} [] a e
comes_refused h i x p (g ∷ gs) a e =
    then-refused (read_span h i x p (none gs) g) _ a e
    (λ r. (record { position = i; shared = x; place = p; last = none gs; span = g }, inl refl, r))
    (λ s k d. then-refused (read_spans h (suc i) (settle x s) (p + length g) gs) (λ ss. good (s ∷ ss)) a d
    (λ r. let z = comes_refused h (suc i) (settle x s) (p + length g) gs a r in (z.0, inr (s, k, z.1), z.2))
    (λ ss _ r. good-refused (s ∷ ss) a r))

-- and what refuses one that Accept comes to refuses them.
refused_comes : (h : Home) (i : ℕ) (x : Settled) (p : ℕ) (gs : List (List ℕ)) (y : Reached) (a : Answer) → ComesTo h i x p gs y → read_reached h y ≡ refused a
    → read_spans h i x p gs ≡ refused a
unfolding read_spans
refused_comes h i x p [] y a c e = absurd c
refused_comes h i x p (g ∷ gs) y a (inl z) e = rw (ap (read_reached h) (sym z) ∙ e)
refused_comes h i x p (g ∷ gs) y a (inr (s, k, c)) e = rw (k, refused_comes h (suc i) (settle x s) (p + length g) gs y a c e)

-- The answer a is that of a block at fault in the first sector that Accept refuses.
abbrev FaultMet : List ℕ → List ℕ → Answer → Type 0
FaultMet t m a = (w : Wanted) × (f : Fault) × (q : ℕ) × (a ≡ wrong_at w f q) × FaultySector t m w f q

-- What Accept refuses by is another answer, or a block is at fault.
accept_refused : (t m : List ℕ) (a : Answer) → accept t m ≡ refused a → (refuses_block a ≡ false) ⊎ FaultMet t m a
unfolding accept accept_cells judge_behind
accept_refused t m a e =
    let c : List ℕ = cells t m in
    require-refused (lent_for_reading t m) lent_wrong (accept_cells c) a e
    (λ _ g. inl (ap refuses_block (sym g)))
    (λ l d. then-refused (judge_home c) _ a d
    (λ g. inl (other_refused (judge_home c) a (home_other c) g))
    (λ h j d.
    let p : ℕ = first_count_place h.place in
    then-refused (judge_behind h c) _ a d
    (λ d. then-refused (judge_marks (first_count_end h.place) 0 0 c) _ a d
    (λ g. inl (other_refused (judge_marks (first_count_end h.place) 0 0 c) a (marks_other c (first_count_end h.place) 0 0) g))
    (λ _ k d. then-refused (read_spans h 0 unsettled p (spans_of h c)) _ a d
    (λ g.
    let r = comes_refused h 0 unsettled p (spans_of h c) a g in
    let y : Reached = r.0 in
    ⊎_elim {C = (refuses_block a ≡ false) ⊎ FaultMet t m a} inl
    (λ (z : FaultRead h y a). inr (z.0, z.1, z.2, z.3, record { home = h; reached = y; lent = l; home_judged = j; marks_judged = k; comes = r.1; faulty = z.4 }))
    (span_refused h y.position y.shared y.place y.last y.span a r.2))
    (λ ss _ d. then-refused (judge_numbers [] (placed_from p (spans_of h c) ss)) _ a d
    (λ g. inl (other_refused (judge_numbers [] (placed_from p (spans_of h c) ss)) a (numbers_other (placed_from p (spans_of h c) ss) []) g))
    (λ _ _ g. good-refused (placed_from p (spans_of h c) ss) a g))))
    (λ xs _ g. good-refused {A = Accepted} (record { home = h; sectors = xs }) a g)))

-- Where Accept gives 10 or 11 the first sector that it refuses has a block at fault, and the answer is that of the fault at the place of the block.
pub accept_faulty : (t m : List ℕ) (a : Answer) → accept t m ≡ refused a → refuses_block a ≡ true
    → (w : Wanted) × (f : Fault) × (q : ℕ) × (a ≡ wrong_at w f q) × FaultySector t m w f q
accept_faulty t m a e u = ⊎_elim {C = FaultMet t m a} (λ (o : refuses_block a ≡ false). false-true (sym o ∙ u)) (λ (v : FaultMet t m a). v) (accept_refused t m a e)

-- Accept gives the answer that refuses a span to which it comes.
pub comes_accept : (t m : List ℕ) (h : Home) (y : Reached) (a : Answer) → lent_for_reading t m ≡ true → judge_home (cells t m) ≡ good h
    → judge_marks (first_count_end h.place) 0 0 (cells t m) ≡ good tt → ComesTo h 0 unsettled (first_count_place h.place) (spans_of h (cells t m)) y → read_reached h y ≡ refused a
    → accept t m ≡ refused a
unfolding accept accept_cells judge_behind
comes_accept t m h y a l j k c r = rw (l, j, k, refused_comes h 0 unsettled (first_count_place h.place) (spans_of h (cells t m)) y a c r)

-- And where the first sector that is refused has a block at fault Accept gives that answer.
pub faulty_accept : (t m : List ℕ) (w : Wanted) (f : Fault) (q : ℕ) → FaultySector t m w f q → accept t m ≡ refused (wrong_at w f q)
faulty_accept t m w f q v =
    let y : Reached = v.reached in
    comes_accept t m v.home y (wrong_at w f q) v.lent v.home_judged v.marks_judged v.comes
    (faulty_span v.home y.position y.shared y.place y.last y.span w f q v.faulty)

-- What Accept comes to is the track from its place on, and no mark stands outside its opening.
comes_at : (h : Home) (i : ℕ) (x : Settled) (p : ℕ) (gs : List (List ℕ)) (y : Reached) (c : List ℕ) → drop p c ≡ joined gs → clean_spans i gs ≡ true → ComesTo h i x p gs y
    → (z : List ℕ) × (drop y.place c ≡ y.span ++ z) × (clean_span y.position y.span ≡ true)
unfolding clean_spans
comes_at h i x p [] y c e k v = absurd v
comes_at h i x p (g ∷ gs) y c e k (inl z) =
    (joined gs, rw z e, rw z (and_both (clean_span i g) (clean_spans (suc i) gs) k).0)
comes_at h i x p (g ∷ gs) y c e k (inr (s, r, v)) =
    let f : drop (p + length g) c ≡ joined gs = sym (drop-drop (length g) p c) ∙ ap (drop (length g)) e ∙ drop-append_seam g (joined gs) in
    comes_at h (suc i) (settle x s) (p + length g) gs y c f (and_both (clean_span i g) (clean_spans (suc i) gs) k).1 v

-- Such a block lies in the span of its count, and the bytes of the lent track from q on are those in which the part f is the first that is wrong.
pub sector_bytes : (t m : List ℕ) (w : Wanted) (f : Fault) (q : ℕ) (v : FaultySector t m w f q) → FaultAt w f t (place_reached v.reached) (rest_reached v.reached) q
sector_bytes t m w f q v =
    let c : List ℕ = cells t m in
    let p : ℕ = first_count_place v.home.place in
    let y : Reached = v.reached in
    let r : List ℕ = rest_reached y in
    let o : ℕ = opening_length (is_first y.position) in
    let k = marks_clean (first_count_end v.home.place) p c (omega arith) v.marks_judged in
    let a = comes_at v.home 0 unsettled p (spans_of v.home c) y c (sym (joined_spans (drop p c))) k.1 v.comes in
    let l : o ≤ length y.span = omega (arith, block_fits w y.last r v.faulty.fits, length-drop o y.span) in
    let e : cells (drop (place_reached y) t) (drop (place_reached y) m) ≡ r ++ a.0 =
    sym (drop_cells (place_reached y) t m) ∙ sym (drop-drop o y.place c) ∙ ap (drop o) a.1 ∙ drop-append-le o y.span a.0 l in
    let b : drop (place_reached y) t ≡ r ++ drop (length r) (drop (place_reached y) t) = front_bytes r a.0 (drop (place_reached y) t) (drop (place_reached y) m) (clean_behind y.position y.span a.2) e in
    rw v.faulty.place_is (fault_at_lem w f y.last r t (drop (length r) (drop (place_reached y) t)) (place_reached y) v.faulty.fits v.faulty.fault b)
