-- Sector 0 on a track without stray marks: its span by the next mark, and what is left behind it.
use mathlib.Core.Path.{◌≡◌, refl, sym, ap, ap₂, ◌∙◌}
use Prim.Native.Nat.{ℕ, ◌+◌, ◌-◌, ◌≤◌, ◌<◌}
use native.Mathlib.Omega.{arith}
use mathlib.Core.Bool.{Bool, true, false}
use mathlib.Core.List.{List, [], ◌∷◌, ◌++◌}
use lib.ListN.{length, get_or, take, drop, length-append, length-drop}
use lib.Dec.{leb}
use borrow.Author.Tests.{lt-leb}
use lib.Seq.{drop_at, drop-drop}
use Rattle.format.specs.Answer.{Answer, first_count_missing}
use Rattle.format.specs.Judged.{answer_of}
use Rattle.format.specs.Lent.{cells}
use Rattle.format.specs.Opening.{starts_with, plain_opening}
use Rattle.format.specs.Address.{Address, address_in}
use Rattle.format.specs.Home.{Home}
use Rattle.format.specs.Count.{unsettled, settled}
use Rattle.format.specs.Span.{span_length, span_rest, before_opening, later_spans, spans, joined, none, clean_span, clean_spans}
use Rattle.format.specs.Sector.{sector_in, settle, judge_sector, read_span}
use Rattle.format.specs.Accept.{read_spans}
use Rattle.base.proofs.Tests.{and_both, false-true}
use Rattle.format.proofs.Spans.Shape.{FirstReaches}
use Rattle.format.proofs.Cells.Opening.{starts_with_append}
use Rattle.format.proofs.Spans.Cutting.{before_joined, before_whole, shape_spans, shape_later, later_joined}
use Rattle.format.proofs.Spans.Marks.{marks_clean}
use Rattle.format.proofs.Spans.SpanAgrees.{span_agrees}
use Rattle.format.proofs.Track.Pairs.{length_cells, drop_cells}
use Rattle.format.proofs.Find.CandidateBytes.{span_rest_bytes}
use Rattle.sector.proofs.Opening.{plain_length_lem}
use Rattle.accepting.specs.Starts.{starts_of}
use Rattle.accepting.specs.Accepting.{LaterSpans, NoStrayMark}
use Rattle.accepting.proofs.Starts.{starts_late, starts_spans}
use Rattle.accepting.proofs.AcceptAnswers.{sector_zero}
use Rattle.format.proofs.Base.Judged.{refusal_stays, answer_then}
use Rattle.accepting.proofs.AcceptSpans.{before_later}

-- Sector 0 opens on the track where it opens in its span.
pub opens_first_lem : (d : List ℕ) → FirstReaches 18 (spans d) → starts_with plain_opening (before_opening d) ≡ starts_with plain_opening d
unfolding spans
opens_first_lem d f = go (later_spans d) refl f
  where
    go : (gs : List (List ℕ)) → later_spans d ≡ gs → FirstReaches 18 (before_opening d ∷ gs) → starts_with plain_opening (before_opening d) ≡ starts_with plain_opening d
    go [] z f = ap (starts_with plain_opening) (before_whole d z)
    go (k ∷ gs) z f =
        sym (starts_with_append plain_opening (before_opening d) (joined (later_spans d)) (omega arith)) ∙ ap (starts_with plain_opening) (before_joined d)

-- The span of sector 0 at place p, of n cells, where ns lists the places of the later spans.
pub record First (p n : ℕ) (t m ns : List ℕ) : Type 0 where
  pub opened : starts_with plain_opening (before_opening (drop p (cells t m))) ≡ true
  pub size : length (before_opening (drop p (cells t m))) ≡ n
  pub opening : 6 ≤ n
  pub reaches : p + n < length t → 18 ≤ n
  pub fits : p + n ≤ length t
  pub bytes : take (p + n - (p + 6)) (drop (p + 6) t) ≡ drop 6 (before_opening (drop p (cells t m)))
  pub last : leb (length ns) 0 ≡ none (later_spans (drop p (cells t m)))
  pub later_cut : later_spans (cells (drop (p + n) t) (drop (p + n) m)) ≡ later_spans (drop p (cells t m))
  pub rest : LaterSpans (p + n) (drop (p + n) t) (drop (p + n) m) ns

-- The later spans are listed from sector 0's end on.
later_listed : (p : ℕ) (t m ns : List ℕ) → NoStrayMark p t m ns → ns ≡ starts_of (p + length (before_opening (drop p (cells t m)))) (later_spans (drop p (cells t m)))
later_listed p t m ns u =
    let z : 0 + p ≡ p = omega arith in
    u.places ∙ starts_late (p + 18) 0 p (cells t m) u.judged (omega arith) ∙ rw z (starts_spans p (drop p (cells t m)))

-- Where the first of them starts: by the list, or index.
first_listed : (q l : ℕ) (gs : List (List ℕ)) → (none gs ≡ true → l ≡ q) → get_or (starts_of q gs) 0 l ≡ q
unfolding starts_of
first_listed q l [] h = h refl
first_listed q l (g ∷ gs) h = refl

-- There is none exactly where the list is empty.
none_listed : (q : ℕ) (gs : List (List ℕ)) → leb (length (starts_of q gs)) 0 ≡ none gs
unfolding starts_of
none_listed q [] = refl
none_listed q (g ∷ gs) = lt-leb (length (starts_of q (g ∷ gs))) 0 (omega arith)

-- Sector 0 opens, and its span ends where the first later one starts.
pub first_front : (p : ℕ) (t m ns : List ℕ) (n : ℕ) → NoStrayMark p t m ns → starts_with plain_opening (drop p (cells t m)) ≡ true → n ≡ get_or ns 0 (length t) - p → First p n t m ns
unfolding spans clean_spans
first_front p t m ns n u o e =
    let d : List ℕ = drop p (cells t m) in
    let g : List ℕ = before_opening d in
    let gs : List (List ℕ) = later_spans d in
    let c = marks_clean (p + 18) p (cells t m) refl u.judged in
    let opened : starts_with plain_opening g ≡ true = opens_first_lem d c.2 ∙ o in
    let six : 6 ≤ length g = plain_length_lem g opened in
    let whole : g ++ joined gs ≡ d = before_joined d in
    let a = span_agrees 0 g gs (shape_spans d) c.1 six in
    let places : ns ≡ starts_of (p + length g) gs = later_listed p t m ns u in
    let next : get_or ns 0 (length t) ≡ p + length g =
    ap (λ (l : List ℕ). get_or l 0 (length t)) places ∙ first_listed (p + length g) (length t) gs (ends gs whole) in
    let size : length g ≡ n = omega arith in
    let by-mark : n ≡ span_length 6 d = sym (ap (span_length 6) (sym whole) ∙ a.0 ∙ size) in
    let fits : p + n ≤ length t = omega (arith, ap length whole, length-append g (joined gs), length-drop p (cells t m), length_cells t m, u.reach) in
    let behind : cells (drop (p + n) t) (drop (p + n) m) ≡ joined gs =
    sym (drop_cells (p + n) t m) ∙ sym (drop-drop n p (cells t m)) ∙ ap (drop n) (sym whole) ∙ drop_at g (joined gs) n size in
    let cut : later_spans (cells (drop (p + n) t) (drop (p + n) m)) ≡ gs = ap later_spans behind ∙ later_joined 0 gs (shape_later 0 d) in
    let k : p + n - (p + 6) ≡ span_length 6 d - 6 = omega arith in
    record {
      opened = opened;
      size = size;
      opening = omega arith;
      reaches = reach gs whole size c.2;
      fits = fits;
      bytes = sym (span_rest_bytes 6 p (p + n - (p + 6)) t m k) ∙ ap (span_rest 6) (sym whole) ∙ a.1;
      last = ap (λ (l : List ℕ). leb (length l) 0) places ∙ none_listed (p + length g) gs;
      later_cut = cut;
      rest = record {
        lengths = omega (arith, length-drop (p + n) t, length-drop (p + n) m, u.lengths);
        within = omega (arith, length-drop (p + n) t, u.within);
        opened = ap before_opening behind ∙ before_later 0 gs (shape_later 0 d);
        clean = ap (clean_spans 1) cut ∙ (and_both (clean_span 0 g) (clean_spans 1 gs) c.1).1;
        places = rw (cut, ← size) places;
      };
    }
  where
    -- Where none follows, sector 0's span ends at index.
    ends : (gs : List (List ℕ)) → before_opening (drop p (cells t m)) ++ joined gs ≡ drop p (cells t m) → none gs ≡ true → length t ≡ p + length (before_opening (drop p (cells t m)))
    ends [] w h = omega (arith, ap length w, length-append (before_opening (drop p (cells t m))) [], length-drop p (cells t m), length_cells t m, u.lengths, u.reach)
    ends (y ∷ gs) w h = false-true h

    -- Where a sector follows, sector 0's span has 18 cells or more.
    reach : (gs : List (List ℕ)) → before_opening (drop p (cells t m)) ++ joined gs ≡ drop p (cells t m) → length (before_opening (drop p (cells t m))) ≡ n
        → FirstReaches 18 (before_opening (drop p (cells t m)) ∷ gs) → p + n < length t → 18 ≤ n
    reach [] w k f l =
        absurd (omega (arith, ap length w, length-append (before_opening (drop p (cells t m))) [], length-drop p (cells t m), length_cells t m, u.lengths, u.reach))
    reach (y ∷ gs) w k f l = omega arith

-- Behind it the first later one starts, or index comes.
pub first_end : (p : ℕ) (t m ns : List ℕ) → NoStrayMark p t m ns → starts_with plain_opening (drop p (cells t m)) ≡ true → (p + 6 ≤ get_or ns 0 (length t)) × (get_or ns 0 (length t) ≤ length t) × (length t ≤ 4002)
first_end p t m ns u o =
    let f = first_front p t m ns (get_or ns 0 (length t) - p) u o refl in
    (omega (arith, f.opening), omega (arith, f.opening, f.fits), u.within)

-- Sector 0's count does not open.
pub first_missing : (h : Home) (p : ℕ) (t m ns : List ℕ) → NoStrayMark p t m ns → starts_with plain_opening (drop p (cells t m)) ≡ false
    → answer_of (read_spans h 0 unsettled p (spans (drop p (cells t m)))) ≡ first_count_missing p
unfolding read_spans read_span spans
first_missing h p t m ns u o =
    let d : List ℕ = drop p (cells t m) in
    rw (opens_first_lem d (marks_clean (p + 18) p (cells t m) refl u.judged).2 ∙ o)

-- Sector 0 by the answer b that its bytes give.
module _ (h : Home) (p n : ℕ) (t m ns : List ℕ) (f : First p n t m ns) (last : Bool) (l : last ≡ leb (length ns) 0)
    (b : Answer) (e : b ≡ answer_of (judge_sector h 0 unsettled p last (take (p + n - (p + 6)) (drop (p + 6) t)))) where
  by_span : b ≡ answer_of (judge_sector h 0 unsettled p (none (later_spans (drop p (cells t m)))) (drop 6 (before_opening (drop p (cells t m)))))
  by_span = e ∙ ap₂ (λ (z : Bool) (r : List ℕ). answer_of (judge_sector h 0 unsettled p z r)) (l ∙ f.last) f.bytes

  -- It is refused.
  pub first_refused : (b.number ≡ 0 → ⊥) → b ≡ answer_of (read_spans h 0 unsettled p (spans (drop p (cells t m))))
  unfolding read_spans read_span spans
  first_refused ne =
      rw f.opened (by_span ∙ sym (refusal_stays (judge_sector h 0 unsettled p (none (later_spans (drop p (cells t m)))) (drop 6 (before_opening (drop p (cells t m))))) _ (λ z. ne (ap (λ (a : Answer). a.number) by_span ∙ z))))

  -- It is good, settles the address a, and what is left behind it decides.
  pub first_good : (a : Address) → a ≡ address_in (take (p + n - (p + 6)) (drop (p + 6) t)) → b.number ≡ 0
      → answer_of (read_spans h 1 (settled a) (p + n) (later_spans (cells (drop (p + n) t) (drop (p + n) m))))
      ≡ answer_of (read_spans h 0 unsettled p (spans (drop p (cells t m))))
  unfolding read_spans read_span spans settle sector_in
  first_good a k z =
      let d : List ℕ = drop p (cells t m) in
      let r : List ℕ = drop 6 (before_opening d) in
      let y = sector_zero h 0 unsettled p (none (later_spans d)) r (ap (λ (a : Answer). a.number) (sym by_span) ∙ z) in
      rw (f.later_cut, f.opened, y, k, f.bytes, ← f.size)
      (sym (answer_then (read_spans h 1 (settled (address_in r)) (p + length (before_opening d)) (later_spans d)) _))
