-- A track that is copied up to a sector and written afresh from there, in terms of its spans.
use mathlib.Core.Path.{◌≡◌, refl, sym, ap, ap₂, ◌∙◌}
use Prim.Native.Nat.{ℕ, ◌+◌, ◌-◌, ◌≤◌}
use native.Mathlib.Omega.{arith}
use mathlib.Core.Bool.{Bool, true, false, not, ◌||◌}
use mathlib.Core.List.{List, [], ◌∷◌, ◌++◌, map, append_assoc}
use lib.ListN.{length, take, length-append}
use lib.Seq.{take_at, length-take-le}
use lib.Dec.{leb, eqb}
use borrow.Author.Tests.{leb-true, leb-false, le-leb, lt-leb, eqb-true, eq-eqb, not-true}
use Rattle.base.specs.Pick.{pick}
use Rattle.format.specs.Answer.{sector_repeated, room_missing}
use Rattle.format.specs.Judged.{Judged, good, require}
use Rattle.format.specs.Block.{least_gap}
use Rattle.format.specs.Span.{joined}
use Rattle.format.specs.Sector.{Sector}
use Rattle.format.specs.Accept.{Placed, placed_from, among, judge_numbers, from_number, sectors_of}
use Rattle.format.specs.Written.{reach, written_spans, written_behind}
use Rattle.format.specs.Correct.{rewritten_from}
use Rattle.format.specs.Together.{Correction, replaced_by, from_either, left_place}
use Rattle.format.proofs.Base.Judged.{good_inj, require_good}
use Rattle.base.proofs.Tests.{cases, false-true}
use Rattle.format.proofs.Sector.ReadsAs.{sectors_placed}
use Rattle.format.proofs.Written.WrittenEnds.{EndsWritten, GapsWritten, spans_end_written, spans_gaps_written}
use Rattle.format.proofs.Correct.Replaced.{named, named_either, replaced_named, replaced_one, replaced_other}
use Rattle.format.proofs.Correct.Relaid.{any_hit, relaid, room}

-- The placed sectors from the first that is hit on.
unfoldable pub from_hit : (Sector → Bool) → List Placed → List Placed
from_hit hit [] = []
from_hit hit (x ∷ xs) = let r = from_hit hit xs in pick (hit x.sector) (x ∷ xs) r

-- The placed sectors before that one.
unfoldable pub before_hit : (Sector → Bool) → List Placed → List Placed
before_hit hit [] = []
before_hit hit (x ∷ xs) = let r = before_hit hit xs in pick (hit x.sector) [] (x ∷ r)

-- The sectors from a number on are those from the sector that the correction names.
pub from_number_lem : (a : Correction) (xs : List Placed) → from_number a.number xs ≡ from_hit (named a) xs
unfolding from_number from_hit named
from_number_lem a [] = refl
from_number_lem a (x ∷ xs) = rw (from_number_lem a xs)

-- The same of two corrections.
pub from_either_lem : (a b : Correction) (xs : List Placed) → from_either a b xs ≡ from_hit (named_either a b) xs
unfolding from_either from_hit named_either named
from_either_lem a b [] = refl
from_either_lem a b (x ∷ xs) = rw (from_either_lem a b xs)

-- None are left where no sector is hit.
pub from_none : (hit : Sector → Bool) (xs : List Placed) → any_hit hit (sectors_of xs) ≡ false → from_hit hit xs ≡ []
unfolding from_hit any_hit
from_none hit [] e = refl
from_none hit (x ∷ xs) e =
    cases (hit x.sector) (λ d. false-true (sym (rw d at e))) (λ d. rw d (from_none hit xs (rw d at e)))

-- Where spans are kept up to the first sector that is hit and written afresh from there: the sectors from it on if it is the first one, and if it comes later.
module _ (gap : ℕ → ℕ → ℕ) (hit : Sector → Bool) (p : ℕ) (g : List ℕ) (gs : List (List ℕ)) (s : Sector) (ss : List Sector) where
  hit_here : hit s ≡ true
      → from_hit hit (placed_from p (written_spans gap (length (joined (g ∷ gs))) (s ∷ ss)) (s ∷ ss)) ≡ placed_from p (written_spans gap (length (joined (g ∷ gs))) (s ∷ ss)) (s ∷ ss)
  unfolding from_hit placed_from written_spans
  hit_here e = rw e

  hit_later : hit s ≡ false → from_hit hit (placed_from p (g ∷ relaid gap hit gs ss) (s ∷ ss)) ≡ from_hit hit (placed_from (p + length g) (relaid gap hit gs ss) ss)
  unfolding from_hit placed_from
  hit_later e = rw e

-- There the blocks from that sector on end as they are written.
pub relaid_ends : (gap : ℕ → ℕ → ℕ) (hit : Sector → Bool) (p : ℕ) (gs : List (List ℕ)) (ss : List Sector) → EndsWritten (from_hit hit (placed_from p (relaid gap hit gs ss) ss))
unfolding from_hit placed_from relaid
relaid_ends gap hit p [] ss = tt
relaid_ends gap hit p (g ∷ gs) [] = tt
relaid_ends gap hit p (g ∷ gs) (s ∷ ss) =
    cases (hit s)
    (λ e. rw (e, hit_here gap hit p g gs s ss e) (spans_end_written gap p (length (joined (g ∷ gs))) (s ∷ ss)))
    (λ e. rw (e, hit_later gap hit p g gs s ss e) (relaid_ends gap hit (p + length g) gs ss))

-- Where there is room, the gaps behind them are the rule's, and the last one runs to index.
pub relaid_gaps : (gap : ℕ → ℕ → ℕ) (hit : Sector → Bool) (p l : ℕ) (gs : List (List ℕ)) (ss : List Sector) → p + length (joined gs) ≡ l → room gap hit gs ss ≡ true
    → GapsWritten gap l (from_hit hit (placed_from p (relaid gap hit gs ss) ss))
unfolding from_hit placed_from relaid room
relaid_gaps gap hit p l [] ss e r = false-true r
relaid_gaps gap hit p l (g ∷ gs) [] e r = false-true r
relaid_gaps gap hit p l (g ∷ gs) (s ∷ ss) e r =
    let n : ℕ = length (joined (g ∷ gs)) in
    cases (hit s)
    (λ q. rw (q, hit_here gap hit p g gs s ss q) (spans_gaps_written gap p n l (s ∷ ss) e (omega (arith, leb-true (reach gap (s ∷ ss) + 13) n (rw q at r)))))
    (λ q. rw (q, hit_later gap hit p g gs s ss q) (relaid_gaps gap hit (p + length g) l gs ss (omega (arith, length-append g (joined gs))) (rw q at r)))

-- The sectors before it stay, with their places and spans.
pub relaid_before : (gap : ℕ → ℕ → ℕ) (a : Correction) (p : ℕ) (gs : List (List ℕ)) (ss : List Sector)
    → before_hit (named a) (placed_from p (relaid gap (named a) gs (map (replaced_by a) ss)) (map (replaced_by a) ss)) ≡ before_hit (named a) (placed_from p gs ss)
unfolding before_hit placed_from relaid written_spans
relaid_before gap a p [] ss = refl
relaid_before gap a p (g ∷ gs) [] = refl
relaid_before gap a p (g ∷ gs) (s ∷ ss) =
    cases (named a s)
    (λ e. rw (replaced_named a a s, e, replaced_named a a s, e))
    (λ e. rw (replaced_other a s e, e, e) (ap (λ (xs : List Placed). record { place = p; span = g; sector = s } ∷ xs) (relaid_before gap a (p + length g) gs ss)))

apart : (n m : ℕ) (seen : List ℕ) → among n seen ≡ true → among m seen ≡ false → eqb m n ≡ false
apart n m seen e f =
    cases (eqb m n)
    (λ q. false-true (sym f ∙ ap (λ (k : ℕ). among k seen) (eqb-true m n q) ∙ e))
    (λ q. q)

-- Where numbers are not repeated, a correction leaves the sectors behind the one that it names.
others_kept : (a : Correction) (seen : List ℕ) (xs : List Placed) → among a.number seen ≡ true → judge_numbers seen xs ≡ good tt
    → map (replaced_by a) (sectors_of xs) ≡ sectors_of xs
unfolding judge_numbers among named
others_kept a seen [] q e = refl
others_kept a seen (x ∷ xs) q e =
    let n : ℕ = x.sector.number in
    let r = require_good (not (among n seen)) (sector_repeated x.place) (judge_numbers (n ∷ seen) xs) tt e in
    let d : eqb n a.number ≡ false = apart a.number n seen q (not-true (among n seen) r.0) in
    let seen₁ : among a.number (n ∷ seen) ≡ true = or_right (eqb a.number n) (among a.number seen) q in
    ap₂ (λ (s : Sector) (ss : List Sector). s ∷ ss) (replaced_other a x.sector d) (others_kept a (n ∷ seen) xs seen₁ r.1)
  where
    or_right : (b c : Bool) → c ≡ true → (b || c) ≡ true
    or_right true c e = refl
    or_right false c e = e

named_among : (a : Correction) (s : Sector) (seen : List ℕ) → named a s ≡ true → among a.number (s.number ∷ seen) ≡ true
unfolding named among
named_among a s seen e = rw (eq-eqb a.number s.number (sym (eqb-true s.number a.number e)))

leb_shift : (k r n : ℕ) → leb (k + r + 13) (k + n) ≡ leb (r + 13) n
leb_shift k r n =
    cases (leb (r + 13) n)
    (λ e. le-leb (k + r + 13) (k + n) (omega (arith, leb-true (r + 13) n e)) ∙ sym e)
    (λ e. lt-leb (k + r + 13) (k + n) (omega (arith, leb-false (r + 13) n e)) ∙ sym e)

module _ (gap : ℕ → ℕ → ℕ) where
  -- The sector that a correction names gets its key and data, and those behind it are written as they were.
  pub rewritten_replaced : (a : Correction) (c seen : List ℕ) (xs : List Placed) → judge_numbers seen xs ≡ good tt → any_hit (named a) (sectors_of xs) ≡ true
      → rewritten_from gap c a.key a.body (from_hit (named a) xs)
      ≡ written_behind gap (take (left_place (from_hit (named a) xs)) c) (length c) (map (replaced_by a) (sectors_of (from_hit (named a) xs)))
  unfolding rewritten_from from_hit left_place judge_numbers any_hit
  rewritten_replaced a c seen [] e h = false-true h
  rewritten_replaced a c seen (x ∷ xs) e h =
      let n : ℕ = x.sector.number in
      let r = require_good (not (among n seen)) (sector_repeated x.place) (judge_numbers (n ∷ seen) xs) tt e in
      cases (named a x.sector)
      (λ d. rw d
      (ap (written_behind gap (take x.place c) (length c))
      (sym (ap₂ (λ (s : Sector) (ss : List Sector). s ∷ ss) (replaced_one a x.sector d) (others_kept a (n ∷ seen) xs (named_among a x.sector seen d) r.1)))))
      (λ d. rw d (rewritten_replaced a c (n ∷ seen) xs r.1 (rw d at h)))

  -- The new sectors, written from the place p of the track c on: 15 where they have no room.
  unfoldable pub written_from : List ℕ → ℕ → List Sector → Judged (List ℕ)
  written_from c p new =
      require (leb (p + reach gap new + least_gap true) (length c)) room_missing (good (take p c ++ joined (written_spans gap (length c - p) new)))

  -- That is what is written behind a copy of the cells before the place.
  pub behind_from : (c : List ℕ) (p : ℕ) (new : List Sector) → p ≤ length c → written_behind gap (take p c) (length c) new ≡ written_from c p new
  unfolding written_from written_behind
  behind_from c p new h = rw (length-take-le p c h)

  -- The cells before that place are copied.
  pub from_copies : (c : List ℕ) (p : ℕ) (new : List Sector) (d : List ℕ) → p ≤ length c → written_from c p new ≡ good d → take p d ≡ take p c
  unfolding written_from
  from_copies c p new d h e =
      let w : List ℕ = joined (written_spans gap (length c - p) new) in
      let k = require_good (leb (p + reach gap new + least_gap true) (length c)) room_missing (good (take p c ++ w)) d e in
      ap (take p) (sym (good_inj (take p c ++ w) d k.1)) ∙ take_at (take p c) w p (length-take-le p c h)

  -- What writing from the place p of the track c on is in terms of spans.
  record Placing (c : List ℕ) (p : ℕ) (new : List Sector) (enough : Bool) (d : List ℕ) : Type 0 where
    within : p ≤ length c
    fits : leb (p + reach gap new + 13) (length c) ≡ enough
    becomes : take p c ++ joined (written_spans gap (length c - p) new) ≡ d

  placing_here : (k j c : List ℕ) (p : ℕ) (new : List Sector) → k ++ j ≡ c → length k ≡ p
      → Placing c p new (leb (reach gap new + 13) (length j)) (k ++ joined (written_spans gap (length j) new))
  placing_here k j c p new e h =
      let l : length c ≡ p + length j = ap length (sym e) ∙ length-append k j ∙ ap (λ (n : ℕ). n + length j) h in
      record {
        within = omega arith;
        fits = ap (leb (p + reach gap new + 13)) l ∙ leb_shift p (reach gap new) (length j);
        becomes =
            ap₂ (λ (r : List ℕ) (n : ℕ). r ++ joined (written_spans gap n new)) (ap (take p) (sym e) ∙ take_at k j p h) (omega arith);
      }

  module _ (hit : Sector → Bool) (f : Sector → Sector) (keeps : (s : Sector) → hit (f s) ≡ hit s) where
    placing_spans : (k c : List ℕ) (p : ℕ) (gs : List (List ℕ)) (ss : List Sector) → k ++ joined gs ≡ c → length k ≡ p → length gs ≡ length ss → any_hit hit ss ≡ true
        → let ys = from_hit hit (placed_from p gs ss) in
        Placing c (left_place ys) (map f (sectors_of ys)) (room gap hit gs (map f ss)) (k ++ joined (relaid gap hit gs (map f ss)))
    unfolding from_hit placed_from left_place any_hit room relaid
    placing_spans k c p [] [] e h l a = false-true a
    placing_spans k c p [] (s ∷ ss) e h l a = absurd (omega arith)
    placing_spans k c p (g ∷ gs) [] e h l a = absurd (omega arith)
    placing_spans k c p (g ∷ gs) (s ∷ ss) e h l a =
        rw (keeps s)
        (cases (hit s)
        (λ d. rw (d, sectors_placed (p + length g) gs ss (omega arith)) (placing_here k (joined (g ∷ gs)) c p (map f (s ∷ ss)) e h))
        (λ d. rw (d, ← (append_assoc k g (joined (relaid gap hit gs (map f ss)))))
        (placing_spans (k ++ g) c (p + length g) gs ss (append_assoc k g (joined gs) ∙ e) (length-append k g ∙ ap (λ (n : ℕ). n + length g) h) (omega arith) (rw d at a))))

    -- The place of the first sector that is hit lies in the track.
    pub place_within : (k c : List ℕ) (p : ℕ) (gs : List (List ℕ)) (ss : List Sector) → k ++ joined gs ≡ c → length k ≡ p → length gs ≡ length ss → any_hit hit ss ≡ true
        → left_place (from_hit hit (placed_from p gs ss)) ≤ length c
    place_within k c p gs ss e h l a = (placing_spans k c p gs ss e h l a).within

    -- Writing from that place on is keeping the spans up to it and writing afresh from there.
    pub from_relaid : (k c : List ℕ) (p : ℕ) (gs : List (List ℕ)) (ss : List Sector) → k ++ joined gs ≡ c → length k ≡ p → length gs ≡ length ss → any_hit hit ss ≡ true
        → let ys = from_hit hit (placed_from p gs ss) in
        written_from c (left_place ys) (map f (sectors_of ys)) ≡ require (room gap hit gs (map f ss)) room_missing (good (k ++ joined (relaid gap hit gs (map f ss))))
    unfolding written_from least_gap
    from_relaid k c p gs ss e h l a =
        let r = placing_spans k c p gs ss e h l a in
        ap₂ (λ (x : Bool) (d : List ℕ). require x room_missing (good d)) r.fits r.becomes
