-- A correction of a lent pair: what it writes is accepted, and it has room exactly where the last block ends early enough.
use mathlib.Core.Path.{◌≡◌, sym, ap, ap₂, ◌∙◌, subst}
use Prim.Native.Nat.{ℕ, ◌+◌, ◌-◌, ◌≤◌, ◌<◌}
use native.Mathlib.Omega.{arith}
use mathlib.Core.Bool.{true}
use mathlib.Core.List.{List, [], ◌∷◌, ◌++◌, map}
use lib.ListN.{length, take, length-append}
use lib.Seq.{length-take-le}
use lib.Dec.{eqb}
use borrow.Author.Tests.{le-leb, lt-leb}
use Rattle.format.specs.Answer.{room_missing}
use Rattle.format.specs.Judged.{good, refused}
use Rattle.format.specs.Lent.{length_right, cells, bytes_of, marks_of, unmarked}
use Rattle.format.specs.Home.{first_count_place}
use Rattle.format.specs.Block.{least_gap}
use Rattle.format.specs.Span.{joined}
use Rattle.format.specs.Sector.{Sector}
use Rattle.format.specs.Accept.{Placed, placed_from, Accepted, spans_of, accept, accept_cells, from_number, sectors_of}
use Rattle.format.specs.GapRule.{GapRule, gap_by, wanted_right}
use Rattle.format.specs.Written.{Pair, reach, written_spans, written_behind}
use Rattle.format.specs.Correct.{with_content, rewritten_from, correct_cells}
use Rattle.format.specs.Together.{Correction, replaced_by, left_place, corrected, corrected_pair}
use Rattle.base.proofs.Tests.{cases}
use Rattle.format.proofs.Track.AcceptedSpans.{accepted_track}
use Rattle.format.proofs.Written.WrittenEnds.{EndsWritten, GapsWritten}
use Rattle.format.proofs.Correct.Replaced.{Bytes, named}
use Rattle.format.proofs.Track.Pairs.{bytes_cells, marks_cells, length_bytes, length_marks, bytes_copied, marks_copied, lent_marks, accept_pair, accepted_pair, lent_length, written_pair}
use Rattle.format.proofs.Correct.Rewritten.{before_hit}
use Rattle.format.proofs.Correct.Orders.{correct_accepted}
use Rattle.format.proofs.Correct.PairOrders.{lent_corrected}

-- The first sector with the number s among placed ones stands no later than their spans end.
place_in_spans : (c : List ℕ) (s p : ℕ) (gs : List (List ℕ)) (ss : List Sector) → p + length (joined gs) ≤ length c
    → (y : Placed) (ys : List Placed) → from_number s (placed_from p gs ss) ≡ y ∷ ys → y.place ≤ length c
unfolding from_number placed_from
place_in_spans c s p [] ss l y ys f = absurd (let z : ◌≡◌ {A = ℕ} 0 1 = cc in omega arith)
place_in_spans c s p (g ∷ gs) [] l y ys f = absurd (let z : ◌≡◌ {A = ℕ} 0 1 = cc in omega arith)
place_in_spans c s p (g ∷ gs) (r ∷ ss) l y ys f =
    cases (eqb r.number s)
    (λ q. let k : from_here ≡ y ∷ ys = rw q at f in let z : p ≡ y.place = cc in omega arith)
    (λ q. place_in_spans c s (p + length g) gs ss (omega (arith, length-append g (joined gs))) y ys (rw q at f))
  where
    from_here : List Placed
    from_here = record { place = p; span = g; sector = r } ∷ placed_from (p + length g) gs ss

-- The place of a sector of an accepted track lies in the track.
pub place_in_track : (c : List ℕ) (a : Accepted) → accept_cells c ≡ good a → (s : ℕ) (y : Placed) (ys : List Placed) → from_number s a.sectors ≡ y ∷ ys → y.place ≤ length c
place_in_track c a e s y ys f =
    let t = accepted_track c a e in
    let p : ℕ = first_count_place a.home.place in
    let gs : List (List ℕ) = spans_of a.home c in
    place_in_spans c s p gs t.0
    (omega (arith, t.1.head_length_holds, length-append (take p c) (joined gs), ap length t.2))
    y ys
    (ap (λ (z : Accepted). from_number s z.sectors) t.3 ∙ f)

module _ (rule : GapRule) where
  -- The corrected pair is accepted, as long as before, with the same home and the same sectors but for the new key and data; bytes and marks before
  -- the corrected sector are copied. From there on blocks end as they are written, the gaps behind them are the rule's and the last one runs to index; the sectors before stay, with
  -- places and spans.
  pub correct_pair : (t m : List ℕ) → unmarked t ≡ true → (a : Accepted) → accept t m ≡ good a → (x : Correction) → Bytes x
      → (q : Pair) → corrected_pair rule t m x ≡ good q
      → (b : Accepted)
      × (accept q.track q.marks ≡ good b)
      × (b.home ≡ a.home)
      × (sectors_of b.sectors ≡ map (replaced_by x) (sectors_of a.sectors))
      × (length q.track ≡ length t)
      × (length q.marks ≡ length t)
      × (take (left_place (from_number x.number a.sectors)) q.track ≡ take (left_place (from_number x.number a.sectors)) t)
      × (take (left_place (from_number x.number a.sectors)) q.marks ≡ take (left_place (from_number x.number a.sectors)) m)
      × EndsWritten (from_number x.number b.sectors)
      × GapsWritten (gap_by rule) (length t) (from_number x.number b.sectors)
      × (before_hit (named x) b.sectors ≡ before_hit (named x) a.sectors)
  correct_pair t m ut a e x bx q k =
      let g = accepted_pair t m a e in
      let n = lent_length t m g.0 in
      let i = written_pair (corrected rule (cells t m) x) q (sym (lent_corrected rule t m x g.0) ∙ k) in
      let c : List ℕ = i.0 in
      let s = correct_accepted rule (cells t m) a g.1 x bx c i.1 in
      let long : length c ≡ length t = s.4 ∙ n.0 in
      let marked : length m ≡ length t = lent_marks t m g.0 in
      let track : bytes_of c ≡ q.track = ap (λ (z : Pair). z.track) i.2 in
      let marks : marks_of c ≡ q.marks = ap (λ (z : Pair). z.marks) i.2 in
      let p : ℕ = left_place (from_number x.number a.sectors) in (
        s.0,
        sym (ap₂ accept track marks) ∙ accept_pair c s.0 (ap length_right long ∙ n.1) s.1,
        s.2,
        s.3,
        ap length (sym track) ∙ length_bytes c ∙ long,
        ap length (sym marks) ∙ length_marks c ∙ long,
        ap (take p) (sym track) ∙ bytes_copied p c (cells t m) s.5 ∙ ap (take p) (bytes_cells t m marked ut),
        ap (take p) (sym marks) ∙ marks_copied p c (cells t m) s.5 ∙ ap (take p) (marks_cells t m marked ut),
        s.6,
        subst (λ (l : ℕ). GapsWritten (gap_by rule) l (from_number x.number s.0.sectors)) n.0 s.7,
        s.8,
      )

  -- Where the last block ends if the sector y, with the sectors ys behind it, gets a new key and data, and the least gap behind it.
  unfoldable pub correct_need : List ℕ → List ℕ → Placed → List Placed → ℕ
  correct_need key body y ys = y.place + reach (gap_by rule) (with_content key body y.sector ∷ sectors_of ys) + 13

  -- 15 is the answer exactly where that is later than L.
  pub correct_room : (c : List ℕ) (a : Accepted) → accept_cells c ≡ good a → (s : ℕ) (key body : List ℕ) → wanted_right rule key body ≡ true
      → (y : Placed) (ys : List Placed) → from_number s a.sectors ≡ y ∷ ys
      → (length c < correct_need key body y ys → correct_cells rule c s key body ≡ refused room_missing)
      × (correct_need key body y ys ≤ length c → (d : List ℕ) × (correct_cells rule c s key body ≡ good d))
  unfolding correct_cells rewritten_from written_behind correct_need least_gap
  correct_room c a e s key body r y ys f =
      let l : y.place ≤ length c = place_in_track c a e s y ys f in
      let ss : List Sector = with_content key body y.sector ∷ sectors_of ys in
      let p : ℕ = y.place in (
        λ short. rw (e, r, f, length-take-le p c l, lt-leb (p + reach (gap_by rule) ss + 13) (length c) (omega arith)),
        λ long. (take p c ++ joined (written_spans (gap_by rule) (length c - p) ss), rw (e, r, f, length-take-le p c l, le-leb (p + reach (gap_by rule) ss + 13) (length c) (omega arith))),
      )
