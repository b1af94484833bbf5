-- A track in terms of its head and spans with one more sector: it is accepted, as long as before, and copied up to the end of the old last block.
use mathlib.Core.Path.{◌≡◌, refl, sym, ap, ◌∙◌, subst}
use Prim.Native.Nat.{ℕ, suc, ◌+◌, ◌-◌, ◌≤◌, ◌<◌}
use native.Mathlib.Omega.{arith}
use mathlib.Core.Bool.{true, false}
use mathlib.Core.List.{List, [], ◌∷◌, ◌++◌, map, append_assoc, append-nil}
use lib.ListN.{length, take, replicate, length-append}
use lib.Seq.{length-take-le, take_at}
use lib.Dec.{leb}
use borrow.Author.Tests.{leb-true}
use Rattle.format.specs.Answer.{room_missing}
use Rattle.format.specs.Judged.{good, require}
use Rattle.format.specs.Lent.{unmarked}
use Rattle.format.specs.Home.{Home, first_count_place}
use Rattle.format.specs.Count.{unsettled, settled}
use Rattle.format.specs.Block.{least_gap}
use Rattle.format.specs.Span.{joined}
use Rattle.format.specs.Sector.{Sector, content_right}
use Rattle.format.specs.Accept.{Placed, placed_from, among, Accepted, accept_cells, end_of, from_number, sectors_of}
use Rattle.format.specs.Written.{written_sector, gap_after, written_behind}
use Rattle.format.specs.Add.{judge_absent, added_flag, added_sector, added_to}
use Rattle.format.proofs.Spans.Shape.{Valid, AllValid}
use Rattle.format.proofs.Base.Judged.{good_inj, require_good}
use Rattle.format.proofs.Track.HomeLocal.{home_local}
use Rattle.format.proofs.Sector.ReadBack.{length_written, read_written, written_later, written_clean}
use Rattle.format.proofs.Sector.ReadsAs.{Reads, length_reads, reads_valid, sectors_placed}
use Rattle.format.proofs.Track.AcceptedSpans.{Track, accepted_of, track_accepted}
use Rattle.format.proofs.Track.TakenApart.{reads_reach}
use Rattle.format.proofs.Track.Numbers.{Fresh, Absent, judged_fresh, fresh_placed, fresh_append, judged_absent}
use Rattle.format.proofs.Track.SharedAddress.{AllName, all_name}
use Rattle.format.proofs.Add.GrownSpans.{grown, none_grown, reads_grown, shape_grown, clean_grown, placed_at, last_placed, last_name, length_placed, ends_grown, gaps_before_last, gaps_grown, end_in_lem, joined_grown}
use Rattle.format.proofs.Written.WrittenEnds.{gaps_of, end_as_written, gap_as_written}
use Rattle.format.proofs.Written.OneBehind.{gap_to_index, span_to_index, behind_one, gap_behind, length_behind}
use Rattle.format.proofs.Add.NewSector.{new_sector, last_end, added_valid, added_to_is, last_gap, add_end, add_need, length_kept}

-- The track e is the accepted track c with one more sector, n, whose block ends at k and has a gap to index; m bytes of gap stand behind the block that was the last.
abbrev pub Outcome : List ℕ → Accepted → Sector → ℕ → ℕ → List ℕ → Type 0
Outcome c a n m k e =
    (b : Accepted)
    × (accept_cells e ≡ good b)
    × (b.home ≡ a.home)
    × (sectors_of b.sectors ≡ sectors_of a.sectors ++ n ∷ [])
    × (length e ≡ length c)
    × (take (last_end a.sectors) e ≡ take (last_end a.sectors) c)
    × (map end_of b.sectors ≡ map end_of a.sectors ++ k ∷ [])
    × (gaps_of b.sectors ≡ gaps_before_last a.sectors ++ m ∷ (length c - k) ∷ [])

-- The track of the head xs and the sectors o and os in the spans g and gs, and what Add makes of it.
module _ (gap : ℕ → ℕ → ℕ) (least : (k d : ℕ) → 21 ≤ gap k d) (xs : List ℕ) (h : Home) (g : List ℕ) (gs : List (List ℕ)) (o : Sector) (os : List Sector)
    (t : Track xs h (g ∷ gs) (o ∷ os)) (b7 s : ℕ) (key body : List ℕ) where
  abbrev c : List ℕ
  c = xs ++ joined (g ∷ gs)

  abbrev a : Accepted
  a = accepted_of h (g ∷ gs) (o ∷ os)

  abbrev p : ℕ
  p = first_count_place h.place

  abbrev others : List Placed
  others = placed_from (p + length g) gs os

  abbrev last : Placed
  last = last_placed p g gs o os

  abbrev new : Sector
  new = new_sector a b7 s key body

  abbrev kept : List ℕ
  kept = take (end_of last) c ++ replicate (gap_after gap last.sector) 0xFF

  valid : AllValid h 0 unsettled (o ∷ os)
  valid = reads_valid h 0 unsettled p (g ∷ gs) (o ∷ os) t.clean t.reads

  named : AllName o.address (o ∷ os)
  named = all_name h o os valid

  new_is : added_sector h (suc (length others)) last b7 s key body ≡ new
  unfolding added_sector new_sector placed_from
  new_is = λ i. record {
    first = false;
    flag = added_flag h.flag (suc (length others)) b7;
    address = last_name o.address p g gs o os named i;
    number = s;
    key_bytes = key;
    data_bytes = body;
  }

  written_is : added_to gap c h 0 b7 s key body a.sectors ≡ written_behind gap kept (length c) (new ∷ [])
  unfolding placed_from
  written_is =
      added_to_is gap c h 0 b7 s key body (placed_at p g o) others (suc (length others)) (omega arith)
      ∙ ap (λ (z : Sector). written_behind gap kept (length c) (z ∷ [])) new_is

  end_inside : end_of last ≤ length c
  end_inside = omega (arith, end_in_lem h 0 unsettled p g gs o os t.reads, t.head_length_holds, length-append xs (joined (g ∷ gs)))

  new_valid : unmarked key ≡ true → unmarked body ≡ true → s < 256 → content_right key body ≡ true → b7 ≤ 1
      → Valid h (suc (length others)) (settled o.address) new
  unfolding new_sector placed_from
  new_valid uk ub n r hb = added_valid h (length others) o new b7 uk ub n r hb valid.0 refl refl refl

  -- The span of the new sector.
  abbrev w : List ℕ
  w = span_to_index kept (length c) new

  abbrev spans_now : List (List ℕ)
  spans_now = grown 0 g gs (gap_after gap last.sector) w

  whole_now : xs ++ joined spans_now ≡ kept ++ joined (w ∷ [])
  whole_now = joined_grown xs h 0 unsettled p g gs o os (gap_after gap last.sector) w t.head_length_holds t.reads ∙ ap (λ (z : List ℕ). kept ++ z) (sym (append-nil w))

  count_others : suc (length others) ≡ suc (0 + length gs)
  count_others = omega (arith, length_placed (p + length g) gs os (omega (arith, length_reads h 0 unsettled p (g ∷ gs) (o ∷ os) t.reads)))

  old_sectors : sectors_of a.sectors ≡ o ∷ os
  old_sectors = sectors_placed p (g ∷ gs) (o ∷ os) (length_reads h 0 unsettled p (g ∷ gs) (o ∷ os) t.reads)

  fresh_now : judge_absent (from_number s a.sectors) ≡ good tt → Fresh [] ((o ∷ os) ++ new ∷ [])
  unfolding among new_sector
  fresh_now absent =
      fresh_append [] (o ∷ os) new
      (subst (Fresh []) old_sectors (judged_fresh [] a.sectors t.numbers)) refl
      (subst (Absent s) old_sectors (judged_absent s a.sectors absent))

  track_now : Valid h (suc (length others)) (settled o.address) new → judge_absent (from_number s a.sectors) ≡ good tt → length kept + length (written_sector new) + 13 ≤ length c
      → Track xs h spans_now ((o ∷ os) ++ new ∷ [])
  unfolding least_gap gap_after
  track_now v absent room =
      let n : ℕ = suc (length others) in
      let m : ℕ = gap_after gap last.sector in
      let r : ℕ = gap_to_index kept (length c) new in
      let later = written_later h (length others) (settled o.address) new r v in
      let reads : Reads h 0 unsettled p spans_now ((o ∷ os) ++ new ∷ []) =
      reads_grown h 0 unsettled p g gs (o ∷ os) m w new o.address n count_others t.reads tt named
      (least (length last.sector.key_bytes) (length last.sector.data_bytes))
      (λ q. read_written h n (settled o.address) q true new r v (gap_behind kept (length c) new room)) in
      record {
        some_span = none_grown 0 g gs m w;
        home_judged = home_local xs (joined (g ∷ gs)) (joined spans_now) h t.home_judged t.head_length_holds;
        head_length_holds = t.head_length_holds;
        head_unmarked = t.head_unmarked;
        shape = shape_grown 0 g gs m w n count_others t.shape t.clean (later, tt);
        clean = clean_grown 0 g gs m w n count_others t.shape t.clean (written_clean h n (settled o.address) new r v);
        reads = reads;
        reaches = reads_reach h unsettled p spans_now ((o ∷ os) ++ new ∷ []) reads;
        numbers = fresh_placed [] p spans_now ((o ∷ os) ++ new ∷ []) (length_reads h 0 unsettled p spans_now ((o ∷ os) ++ new ∷ []) reads) (fresh_now absent);
      }

  need_now : length kept + length (written_sector new) + 13 ≡ add_need gap a.sectors key body
  unfolding new_sector placed_from
  need_now = omega (arith, length_kept gap c a.sectors end_inside, length_written new)

  -- What Add gives on the track: 15, or the head and the grown spans.
  added_now : added_to gap c h 0 b7 s key body a.sectors ≡ require (leb (add_need gap a.sectors key body) (length c)) room_missing (good (xs ++ joined spans_now))
  added_now =
      written_is ∙ behind_one kept (length c) new gap
      ∙ ap (λ (z : ℕ). require (leb z (length c)) room_missing (good (kept ++ joined (w ∷ [])))) need_now
      ∙ ap (λ (z : List ℕ). require (leb (add_need gap a.sectors key body) (length c)) room_missing (good z)) (sym whole_now)

  -- What stands up to the end of the old last block is copied.
  copied_now : take (end_of last) (xs ++ joined spans_now) ≡ take (end_of last) c
  copied_now =
      let front : List ℕ = take (end_of last) c in
      let gap_bytes : List ℕ = replicate (gap_after gap last.sector) 0xFF in
      let rest : List ℕ = joined (w ∷ []) in
      ap (take (end_of last)) (whole_now ∙ append_assoc front gap_bytes rest) ∙ take_at front (gap_bytes ++ rest) (end_of last) (length-take-le (end_of last) c end_inside)

  -- The blocks of the old sectors end where they ended, that of the new one as it is written.
  ends_now : map end_of (placed_from p spans_now ((o ∷ os) ++ new ∷ [])) ≡ map end_of a.sectors ++ add_end gap a.sectors key body ∷ []
  unfolding placed_from new_sector
  ends_now =
      let m : ℕ = gap_after gap last.sector in
      ends_grown h 0 unsettled p g gs o os m w new t.reads
      ∙ ap (λ (k : ℕ). map end_of a.sectors ++ k ∷ []) (end_as_written (end_of last + m) new (gap_to_index kept (length c) new))

  -- The gap behind the old last block is the rule's, that of the new one runs to index, and the others stay.
  gaps_now : gaps_of (placed_from p spans_now ((o ∷ os) ++ new ∷ []))
      ≡ gaps_before_last a.sectors ++ last_gap gap a.sectors ∷ (length c - add_end gap a.sectors key body) ∷ []
  unfolding placed_from new_sector
  gaps_now =
      let m : ℕ = gap_after gap last.sector in
      let r : ℕ = gap_to_index kept (length c) new in
      gaps_grown h 0 unsettled p g gs o os m w new t.reads
      ∙ ap (λ (k : ℕ). gaps_before_last a.sectors ++ m ∷ k ∷ []) (gap_as_written (end_of last + m) new r ∙ omega (arith, length_kept gap c a.sectors end_inside, length_written new))

  -- What Add writes on such a track.
  pub track_added : (e : List ℕ) → unmarked key ≡ true → unmarked body ≡ true → s < 256 → content_right key body ≡ true → b7 ≤ 1
      → judge_absent (from_number s a.sectors) ≡ good tt → added_to gap c h 0 b7 s key body a.sectors ≡ good e → Outcome c a new (last_gap gap a.sectors) (add_end gap a.sectors key body) e
  unfolding placed_from
  track_added e uk ub n r hb absent f =
      let need : ℕ = add_need gap a.sectors key body in
      let q = require_good (leb need (length c)) room_missing (good (xs ++ joined spans_now)) e (sym added_now ∙ f) in
      let room : need ≤ length c = leb-true need (length c) q.0 in
      let enough : length kept + length (written_sector new) + 13 ≤ length c = omega (arith, need_now) in
      let b : Track xs h spans_now ((o ∷ os) ++ new ∷ []) = track_now (new_valid uk ub n r hb) absent enough in
      let now : List Sector = (o ∷ os) ++ new ∷ [] in
      subst (Outcome c a new (last_gap gap a.sectors) (add_end gap a.sectors key body)) (good_inj (xs ++ joined spans_now) e q.1) (
        accepted_of h spans_now now,
        track_accepted xs h spans_now now b,
        refl,
        sectors_placed p spans_now now (length_reads h 0 unsettled p spans_now now b.reads) ∙ ap (λ (z : List Sector). z ++ new ∷ []) (sym old_sectors),
        ap length whole_now ∙ length_behind kept (length c) new enough,
        copied_now,
        ends_now,
        gaps_now,
      )
