-- Two corrections of sectors of different number by one rule of the gap: in either order the same answer and the same track.
use mathlib.Core.Path.{◌≡◌, refl, sym, ap, ap₂, ◌∙◌}
use Prim.Native.Nat.{ℕ}
use mathlib.Core.Bool.{Bool, true}
use mathlib.Core.List.{List, [], ◌∷◌, ◌++◌, map}
use native.Mathlib.Omega.{arith}
use lib.ListN.{length, take, length-append}
use lib.Dec.{eqb}
use Rattle.base.proofs.Tests.{or_comm}
use Rattle.format.specs.Answer.{room_missing}
use Rattle.format.specs.Judged.{good, require}
use Rattle.format.specs.Home.{Home, first_count_place}
use Rattle.format.specs.Span.{joined}
use Rattle.format.specs.Sector.{Sector}
use Rattle.format.specs.Accept.{Placed, placed_from, Accepted, spans_of, accept_cells, from_number, sectors_of}
use Rattle.format.specs.GapRule.{GapRule, gap_by, wanted_right}
use Rattle.format.specs.Together.{Correction, replaced_by, from_either, left_place, with_both, corrected, fit_together, written_together, together}
use Rattle.format.proofs.Written.WrittenEnds.{EndsWritten, GapsWritten}
use Rattle.format.proofs.Correct.Replaced.{Bytes, named, with_both_comm}
use Rattle.format.proofs.Correct.Relaid.{any_hit, any_replaced, relaid, relaid_relaid, room_relaid}
use Rattle.format.proofs.Track.AcceptedSpans.{Track, accepted_of, track_accepted, track_sectors, accepted_track}
use Rattle.format.proofs.Correct.Rewritten.{before_hit, from_number_lem, relaid_ends, relaid_gaps, relaid_before}
use Rattle.format.proofs.Correct.Corrected.{corrected_spans, Done, corrected_done, done_length, done_copies, done_track, together_spans}

from_either_comm : (a b : Correction) (xs : List Placed) → from_either b a xs ≡ from_either a b xs
unfolding from_either
from_either_comm a b [] = refl
from_either_comm a b (x ∷ xs) =
    rw (or_comm (eqb x.sector.number b.number) (eqb x.sector.number a.number), from_either_comm a b xs)

module _ (gap : ℕ → ℕ → ℕ) where
  -- Together no order is left.
  together_comm : (a b : Correction) → (a.number ≡ b.number → ⊥) → (c : List ℕ) (xs : List Placed) → together gap c b a xs ≡ together gap c a b xs
  unfolding together fit_together written_together
  together_comm a b ne c xs = rw (from_either_comm a b xs, with_both_comm a b ne (sectors_of (from_either a b xs)))

module _ (rule : GapRule) where
  abbrev gap : ℕ → ℕ → ℕ
  gap = gap_by rule

  -- The second correction, whichever of the two sectors is the left one, gives what both give together.
  second : (head : List ℕ) (h : Home) (gs : List (List ℕ)) (ss : List Sector) (t : Track head h gs ss) (a b : Correction) (d : List ℕ) → Bytes a
      → Done rule head h gs ss t a d → wanted_right rule b.key b.body ≡ true → any_hit (named b) ss ≡ true
      → corrected rule d b ≡ together gap (head ++ joined gs) a b (placed_from (first_count_place h.place) gs ss)
  unfolding with_both
  second head h gs ss t a b d y r f n =
      let one : List Sector = map (replaced_by a) ss in
      let ks : List (List ℕ) = relaid gap (named a) gs one in
      ap (λ (z : List ℕ). corrected rule z b) (sym r.becomes)
      ∙ corrected_spans rule head h ks one (done_track rule head h gs ss t a d y r) b f (any_replaced a b ss ∙ n)
      ∙ ap₂ (λ (x : Bool) (zs : List (List ℕ)). require x room_missing (good (head ++ joined zs))) (room_relaid gap a b gs ss r.enough n) (relaid_relaid gap a b gs ss r.enough)
      ∙ sym (together_spans rule head h gs ss t a b n)

  -- A corrected track is accepted with the same home and the corrected sectors, is as long as before and copies what stood before the sector. From there on its blocks end as they
  -- are written, the gaps behind them are the rule's and the last one runs to index; the sectors before stay, with places and spans.
  pub correct_accepted : (c : List ℕ) (a : Accepted) → accept_cells c ≡ good a → (x : Correction) → Bytes x → (c₁ : List ℕ) → corrected rule c x ≡ good c₁
      → (b : Accepted) × (accept_cells c₁ ≡ good b) × (b.home ≡ a.home) × (sectors_of b.sectors ≡ map (replaced_by x) (sectors_of a.sectors))
      × (length c₁ ≡ length c) × (take (left_place (from_number x.number a.sectors)) c₁ ≡ take (left_place (from_number x.number a.sectors)) c)
      × EndsWritten (from_number x.number b.sectors)
      × GapsWritten gap (length c) (from_number x.number b.sectors)
      × (before_hit (named x) b.sectors ≡ before_hit (named x) a.sectors)
  correct_accepted c a e x y c₁ k =
      let h : Home = a.home in
      let head : List ℕ = take (first_count_place h.place) c in
      let gs : List (List ℕ) = spans_of h c in
      let v = accepted_track c a e in
      let ss : List Sector = v.0 in
      let t : Track head h gs ss = v.1 in
      let r : Done rule head h gs ss t x c₁ = corrected_done rule head h gs ss t x c₁ (ap (λ (z : List ℕ). corrected rule z x) v.2 ∙ k) in
      let new : List Sector = map (replaced_by x) ss in
      let ks : List (List ℕ) = relaid gap (named x) gs new in
      let u : Track head h ks new = done_track rule head h gs ss t x c₁ y r in (
        accepted_of h ks new,
        ap accept_cells (sym r.becomes) ∙ track_accepted head h ks new u,
        refl,
        track_sectors head h ks new u ∙ ap (map (replaced_by x)) (sym (track_sectors head h gs ss t) ∙ ap (λ (z : Accepted). sectors_of z.sectors) v.3),
        done_length rule head h gs ss t x c₁ r ∙ ap length v.2,
        ap (λ (z : Accepted). take (left_place (from_number x.number z.sectors)) c₁) (sym v.3)
            ∙ done_copies rule head h gs ss t x c₁ r
            ∙ ap₂ (λ (z : Accepted) (w : List ℕ). take (left_place (from_number x.number z.sectors)) w) v.3 v.2,
        rw (from_number_lem x (placed_from (first_count_place h.place) ks new)) (relaid_ends gap (named x) (first_count_place h.place) gs new),
        rw (from_number_lem x (placed_from (first_count_place h.place) ks new))
            (relaid_gaps gap (named x) (first_count_place h.place) (length c) gs new (omega (arith, t.head_length_holds, length-append head (joined gs), ap length v.2)) r.enough),
        relaid_before gap x (first_count_place h.place) gs ss ∙ ap (λ (z : Accepted). before_hit (named x) z.sectors) v.3,
      )

  module _ (c : List ℕ) (a : Accepted) (e : accept_cells c ≡ good a) (x y : Correction) (ne : x.number ≡ y.number → ⊥) (bx : Bytes x) (by : Bytes y) where
    -- Two corrections of different number, each of which is done on the track c: whichever comes first, the other then gives what both give together.
    pub corrections_commute : (c₁ c₂ : List ℕ) → corrected rule c x ≡ good c₁ → corrected rule c y ≡ good c₂
        → (corrected rule c₁ y ≡ together gap c x y a.sectors) × (corrected rule c₂ x ≡ together gap c x y a.sectors)
    corrections_commute c₁ c₂ k l =
        let h : Home = a.home in
        let head : List ℕ = take (first_count_place h.place) c in
        let gs : List (List ℕ) = spans_of h c in
        let v = accepted_track c a e in
        let ss : List Sector = v.0 in
        let t : Track head h gs ss = v.1 in
        let r : Done rule head h gs ss t x c₁ = corrected_done rule head h gs ss t x c₁ (ap (λ (z : List ℕ). corrected rule z x) v.2 ∙ k) in
        let q : Done rule head h gs ss t y c₂ = corrected_done rule head h gs ss t y c₂ (ap (λ (z : List ℕ). corrected rule z y) v.2 ∙ l) in
        let same : together gap (head ++ joined gs) x y (placed_from (first_count_place h.place) gs ss) ≡ together gap c x y a.sectors =
        ap₂ (λ (z : List ℕ) (w : Accepted). together gap z x y w.sectors) v.2 v.3 in (
          second head h gs ss t x y c₁ bx r q.wanted q.present ∙ same,
          second head h gs ss t y x c₂ by q r.wanted r.present ∙ together_comm gap x y ne (head ++ joined gs) (placed_from (first_count_place h.place) gs ss) ∙ same,
        )

    -- What both give together is accepted with the same home and with both new keys and data, and is as long as before.
    pub together_sectors : (c₁ c₂ : List ℕ) → corrected rule c x ≡ good c₁ → corrected rule c y ≡ good c₂ → (d : List ℕ) → together gap c x y a.sectors ≡ good d
        → (b : Accepted) × (accept_cells d ≡ good b) × (b.home ≡ a.home) × (sectors_of b.sectors ≡ with_both x y (sectors_of a.sectors))
        × (length d ≡ length c)
    unfolding with_both
    together_sectors c₁ c₂ k l d j =
        let m = correct_accepted c a e x bx c₁ k in
        let n = correct_accepted c₁ m.0 m.1 y by d ((corrections_commute c₁ c₂ k l).0 ∙ j) in
        (n.0, n.1, n.2 ∙ m.2, n.3 ∙ ap (map (replaced_by y)) m.3, n.4 ∙ m.4)
