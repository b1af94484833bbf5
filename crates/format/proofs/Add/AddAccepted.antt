-- What Add writes is accepted: the old home and sectors with the new one behind them; and there is room for it exactly where its block ends in time.
use mathlib.Core.Path.{◌≡◌, refl, sym, ap, ◌∙◌, subst, subst₂}
use Prim.Native.Nat.{ℕ, ◌+◌, ◌-◌, ◌≤◌, ◌<◌}
use native.Mathlib.Omega.{arith}
use mathlib.Core.Bool.{true, false, ◌&&◌}
use mathlib.Core.List.{List, [], ◌∷◌, ◌++◌, map}
use lib.ListN.{length, take, length-append}
use lib.Dec.{leb}
use borrow.Author.Tests.{leb-true, le-leb, lt-leb}
use Rattle.format.specs.Answer.{room_missing, wanted_wrong}
use Rattle.format.specs.Judged.{good, refused, then, require}
use Rattle.format.specs.Lent.{unmarked}
use Rattle.format.specs.Home.{Home, first_count_place}
use Rattle.format.specs.Count.{unsettled}
use Rattle.format.specs.Span.{joined, none}
use Rattle.format.specs.Accept.{Placed, placed_from, Accepted, accept_cells, end_of, from_number, sectors_of}
use Rattle.format.specs.GapRule.{GapRule, gap_by, wanted_right}
use Rattle.format.specs.Add.{judge_absent, added_to, add_cells}
use Rattle.format.proofs.Base.Judged.{then_good, require_good}
use Rattle.base.proofs.Tests.{and_both, false-true}
use Rattle.format.proofs.Track.TakenApart.{taken_apart}
use Rattle.format.proofs.Written.Gap.{rule_least, wanted_parts}
use Rattle.format.proofs.Written.WrittenEnds.{gaps_of}
use Rattle.format.proofs.Add.GrownSpans.{gaps_before_last, end_in_lem}
use Rattle.format.proofs.Add.NewSector.{new_sector, last_end, last_gap, add_end, add_need, added_room}
use Rattle.format.proofs.Add.AddedTrack.{Outcome, track_added}

-- An accepted track has a sector, and the block of the last ends at least 13 bytes before index.
pub accepted_end : (c : List ℕ) (a : Accepted) → accept_cells c ≡ good a → (none a.sectors ≡ false) × (last_end a.sectors + 13 ≤ length c)
unfolding placed_from
accepted_end c a e =
    let t = taken_apart c a e in
    let h : Home = a.home in
    let p : ℕ = first_count_place h.place in
    let Goal : Accepted → Type 0 = λ y. (none y.sectors ≡ false) × (last_end y.sectors + 13 ≤ length c) in
    subst Goal t.same (
      refl,
      omega (
        arith,
        end_in_lem h 0 unsettled p t.span t.spans t.sector t.sectors t.track.reads,
        t.track.head_length_holds,
        length-append t.head (joined (t.span ∷ t.spans)),
        ap length t.whole,
      ),
    )

some_room : (gap : ℕ → ℕ → ℕ) (c : List ℕ) (h : Home) (b7 s : ℕ) (key body : List ℕ) (xs : List Placed) → none xs ≡ false → last_end xs ≤ length c
    → (e : List ℕ) × (added_to gap c h 0 b7 s key body xs ≡ require (leb (add_need gap xs key body) (length c)) room_missing (good e))
some_room gap c h b7 s key body [] n l = false-true (sym n)
some_room gap c h b7 s key body (x ∷ xs) n l = (_, added_room gap c h 0 b7 s key body x xs l)

module _ (rule : GapRule) (c : List ℕ) (a : Accepted) (accepted : accept_cells c ≡ good a) (b7 s : ℕ) (key body : List ℕ) where
  abbrev gap : ℕ → ℕ → ℕ
  gap = gap_by rule

  -- Add on an accepted track, behind the answers of the track itself.
  add_is : add_cells rule c b7 s key body
      ≡ require (leb b7 1 && wanted_right rule key body) wanted_wrong
      (then (judge_absent (from_number s a.sectors)) (λ _. added_to gap c a.home 0 b7 s key body a.sectors))
  unfolding add_cells
  add_is = rw accepted

  -- What Add writes is accepted: the same home, the same sectors and the new one behind them, and all up to the end of the old last block copied; the old blocks end where they
  -- ended, the new one as it is written. The gap behind the block that was the last is the rule's, that of the new one runs to index, and the others stay.
  pub add_accepted : unmarked key ≡ true → unmarked body ≡ true → s < 256 → (e : List ℕ) → add_cells rule c b7 s key body ≡ good e
      → (b : Accepted)
      × (accept_cells e ≡ good b)
      × (b.home ≡ a.home)
      × (sectors_of b.sectors ≡ sectors_of a.sectors ++ new_sector a b7 s key body ∷ [])
      × (length e ≡ length c)
      × (take (last_end a.sectors) e ≡ take (last_end a.sectors) c)
      × (map end_of b.sectors ≡ map end_of a.sectors ++ add_end gap a.sectors key body ∷ [])
      × (gaps_of b.sectors ≡ gaps_before_last a.sectors ++ last_gap gap a.sectors ∷ (length c - add_end gap a.sectors key body) ∷ [])
  add_accepted uk ub n e f =
      let t = taken_apart c a accepted in
      let q = require_good (leb b7 1 && wanted_right rule key body) wanted_wrong _ e (sym add_is ∙ f) in
      let w = and_both (leb b7 1) (wanted_right rule key body) q.0 in
      let j = then_good (judge_absent (from_number s a.sectors)) _ e q.1 in
      let Goal : List ℕ → Accepted → Type 0 =
      λ z y. judge_absent (from_number s y.sectors) ≡ good tt → added_to gap z y.home 0 b7 s key body y.sectors ≡ good e → Outcome z y (new_sector y b7 s key body) (last_gap gap y.sectors) (add_end gap y.sectors key body) e in
      subst₂ Goal t.whole t.same
      (track_added gap (rule_least rule) t.head a.home t.span t.spans t.sector t.sectors t.track b7 s key body e uk ub n (wanted_parts rule key body w.1).1 (leb-true b7 1 w.0))
      j.1 j.2

  -- There is room exactly where the block of the new sector ends no later than 13 bytes before index.
  pub add_room : b7 ≤ 1 → wanted_right rule key body ≡ true → judge_absent (from_number s a.sectors) ≡ good tt
      → (length c < add_need gap a.sectors key body → add_cells rule c b7 s key body ≡ refused room_missing)
      × (add_need gap a.sectors key body ≤ length c → (e : List ℕ) × (add_cells rule c b7 s key body ≡ good e))
  add_room hb r absent =
      let k = accepted_end c a accepted in
      let need : ℕ = add_need gap a.sectors key body in
      let w = some_room gap c a.home b7 s key body a.sectors k.0 (omega (arith, k.1)) in
      let e : add_cells rule c b7 s key body ≡ require (leb need (length c)) room_missing (good w.0) = add_is ∙ rw (le-leb b7 1 hb, r, absent) w.1 in (
        λ l. e ∙ rw (lt-leb need (length c) l),
        λ l. (w.0, e ∙ rw (le-leb need (length c) l)),
      )
