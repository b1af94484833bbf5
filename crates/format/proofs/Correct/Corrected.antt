-- A correction of an accepted track in terms of its spans, and the track after it.
use mathlib.Core.Path.{◌≡◌, refl, sym, ap, ◌∙◌}
use Prim.Native.Nat.{ℕ, ◌+◌}
use mathlib.Core.Bool.{true}
use mathlib.Core.List.{List, [], ◌∷◌, ◌++◌, map}
use lib.ListN.{length, take, length-append, length-map}
use Rattle.format.specs.Answer.{sector_missing, wanted_wrong, room_missing}
use Rattle.format.specs.Judged.{good, require}
use Rattle.format.specs.Home.{Home, first_count_place}
use Rattle.format.specs.Count.{unsettled}
use Rattle.format.specs.Span.{joined}
use Rattle.format.specs.Sector.{Sector}
use Rattle.format.specs.Accept.{Placed, placed_from, judge_numbers, from_number, sectors_of}
use Rattle.format.specs.GapRule.{GapRule, gap_by, wanted_right}
use Rattle.format.specs.Correct.{rewritten_from, correct_cells}
use Rattle.format.specs.Together.{Correction, replaced_by, left_place, with_both, corrected, fit_together, written_together, together}
use Rattle.format.proofs.Spans.Shape.{AllValid}
use Rattle.format.proofs.Base.Judged.{good_inj, refused-good, require_good}
use Rattle.base.proofs.Tests.{cases}
use Rattle.format.proofs.Track.HomeLocal.{home_local}
use Rattle.format.proofs.Sector.ReadsAs.{length_reads, reads_valid, sectors_placed}
use Rattle.format.proofs.Written.Gap.{rule_least, wanted_parts}
use Rattle.format.proofs.Correct.Replaced.{Bytes, named, named_either, replaced_named, replaced_numbers, replaced_valid}
use Rattle.format.proofs.Correct.Relaid.{any_hit, relaid, room, length_relaid}
use Rattle.format.proofs.Correct.RelaidReads.{shape_relaid, none_relaid, clean_relaid, relaid_reaches, reads_relaid}
use Rattle.format.proofs.Track.AcceptedSpans.{Track, track_accepted, track_sectors, same_numbers}
use Rattle.format.proofs.Correct.Rewritten.{from_hit, from_number_lem, from_either_lem, from_none, rewritten_replaced, written_from, behind_from, from_copies, place_within, from_relaid}

either_named : (a b d : Correction) (s : Sector) → named_either a b (replaced_by d s) ≡ named_either a b s
unfolding named_either
either_named a b d s = rw (replaced_named d a s, replaced_named d b s)

any_either : (a b : Correction) (ss : List Sector) → any_hit (named b) ss ≡ true → any_hit (named_either a b) ss ≡ true
unfolding any_hit named_either
any_either a b [] e = e
any_either a b (s ∷ ss) e =
    cases (named a s)
    (λ d. rw d)
    (λ d. rw d (cases (named b s) (λ f. rw f) (λ f. rw f (any_either a b ss (rw f at e)))))

with_both_map : (a b : Correction) (ss : List Sector) → with_both a b ss ≡ map (λ s. replaced_by b (replaced_by a s)) ss
unfolding with_both
with_both_map a b [] = refl
with_both_map a b (s ∷ ss) = ap (λ (rs : List Sector). replaced_by b (replaced_by a s) ∷ rs) (with_both_map a b ss)

module _ (rule : GapRule) (head : List ℕ) (h : Home) (gs : List (List ℕ)) (ss : List Sector) (t : Track head h gs ss) where
  abbrev gap : ℕ → ℕ → ℕ
  gap = gap_by rule

  abbrev start : ℕ
  start = first_count_place h.place

  abbrev placed : List Placed
  placed = placed_from start gs ss

  same_length : length gs ≡ length ss
  same_length = length_reads h 0 unsettled start gs ss t.reads

  sectors_are : sectors_of placed ≡ ss
  sectors_are = track_sectors head h gs ss t

  -- A correction within the rule of a sector that is there keeps the spans up to it and writes afresh from there, or has no room.
  pub corrected_spans : (a : Correction) → wanted_right rule a.key a.body ≡ true → any_hit (named a) ss ≡ true
      → corrected rule (head ++ joined gs) a
      ≡ require (room gap (named a) gs (map (replaced_by a) ss)) room_missing (good (head ++ joined (relaid gap (named a) gs (map (replaced_by a) ss))))
  unfolding correct_cells
  corrected_spans a r n =
      let c : List ℕ = head ++ joined gs in
      let q : ℕ = left_place (from_hit (named a) placed) in
      rw (track_accepted head h gs ss t, r, from_number_lem a placed)
      (rewritten_replaced gap a c [] placed t.numbers (ap (any_hit (named a)) sectors_are ∙ n)
      ∙ behind_from gap c q _ (place_within gap (named a) (replaced_by a) (replaced_named a a) head c start gs ss refl t.head_length_holds same_length n)
      ∙ from_relaid gap (named a) (replaced_by a) (replaced_named a a) head c start gs ss refl t.head_length_holds same_length n)

  -- What a correction that is done has met, and the track that it gives.
  pub record Done (a : Correction) (d : List ℕ) : Type 0 where
    pub wanted : wanted_right rule a.key a.body ≡ true
    pub present : any_hit (named a) ss ≡ true
    pub enough : room gap (named a) gs (map (replaced_by a) ss) ≡ true
    pub becomes : head ++ joined (relaid gap (named a) gs (map (replaced_by a) ss)) ≡ d

  -- A correction that gives a track has met all this.
  pub corrected_done : (a : Correction) (d : List ℕ) → corrected rule (head ++ joined gs) a ≡ good d → Done a d
  unfolding correct_cells rewritten_from
  corrected_done a d e =
      let c : List ℕ = head ++ joined gs in
      let k = require_good (wanted_right rule a.key a.body) wanted_wrong (rewritten_from gap c a.key a.body (from_number a.number placed)) d
      (rw (track_accepted head h gs ss t) at e) in
      cases (any_hit (named a) ss)
      (λ n.
      let r = require_good (room gap (named a) gs (map (replaced_by a) ss)) room_missing _ d (sym (corrected_spans a k.0 n) ∙ e) in
      record { wanted = k.0; present = n; enough = r.0; becomes = good_inj _ d r.1 })
      (λ n. refused-good sector_missing d (rw (from_number_lem a placed, from_none (named a) placed (ap (any_hit (named a)) sectors_are ∙ n)) at k.1))

  -- The track after a correction is as long as before.
  pub done_length : (a : Correction) (d : List ℕ) → Done a d → length d ≡ length (head ++ joined gs)
  done_length a d r =
      ap length (sym r.becomes)
      ∙ length-append head _ ∙ ap (λ (n : ℕ). length head + n) (length_relaid gap (named a) gs (map (replaced_by a) ss) r.enough) ∙ sym (length-append head (joined gs))

  -- It starts with the cells that stood before the corrected sector.
  pub done_copies : (a : Correction) (d : List ℕ) → Done a d
      → take (left_place (from_number a.number placed)) d ≡ take (left_place (from_number a.number placed)) (head ++ joined gs)
  done_copies a d r =
      let c : List ℕ = head ++ joined gs in
      let ys : List Placed = from_hit (named a) placed in
      rw (from_number_lem a placed)
      (from_copies gap c (left_place ys) (map (replaced_by a) (sectors_of ys)) d
      (place_within gap (named a) (replaced_by a) (replaced_named a a) head c start gs ss refl t.head_length_holds same_length r.present)
      (from_relaid gap (named a) (replaced_by a) (replaced_named a a) head c start gs ss refl t.head_length_holds same_length r.present
      ∙ rw r.enough (ap (λ (z : List ℕ). good z) r.becomes)))

  new_numbers : (a : Correction) (ks : List (List ℕ)) → length ks ≡ length ss → judge_numbers [] (placed_from start ks (map (replaced_by a) ss)) ≡ good tt
  new_numbers a ks l =
      same_numbers [] placed (placed_from start ks (map (replaced_by a) ss))
      (ap (map (λ (s : Sector). s.number)) sectors_are
      ∙ sym (ap (map (λ (s : Sector). s.number)) (sectors_placed start ks (map (replaced_by a) ss) (l ∙ sym (length-map ss (replaced_by a)))) ∙ replaced_numbers a ss))
      t.numbers

  -- It has the head of the track before it, and spans that read as the corrected sectors.
  pub done_track : (a : Correction) (d : List ℕ) → Bytes a → Done a d
      → Track head h (relaid gap (named a) gs (map (replaced_by a) ss)) (map (replaced_by a) ss)
  done_track a d b r =
      let new : List Sector = map (replaced_by a) ss in
      let ks : List (List ℕ) = relaid gap (named a) gs new in
      let v : AllValid h 0 unsettled new = replaced_valid a b (wanted_parts rule a.key a.body r.wanted).1 h 0 unsettled ss (reads_valid h 0 unsettled start gs ss t.clean t.reads) in
      let reads = reads_relaid gap (rule_least rule) a h 0 unsettled start gs ss t.reads v r.enough in
      record {
        head_length_holds = t.head_length_holds;
        head_unmarked = t.head_unmarked;
        home_judged = home_local head (joined gs) (joined ks) h t.home_judged t.head_length_holds;
        some_span = none_relaid gap (named a) gs new ∙ t.some_span;
        shape = shape_relaid gap (named a) h 0 unsettled gs new t.shape v;
        clean = clean_relaid gap (named a) h 0 unsettled gs new t.clean v;
        reaches = relaid_reaches gap (named a) gs new t.reaches;
        reads = reads;
        numbers = new_numbers a ks (length_reads h 0 unsettled start ks new reads ∙ length-map ss (replaced_by a));
      }

  -- Both corrections together keep the spans up to the left one of the two sectors and write afresh from there, or have no room.
  pub together_spans : (a b : Correction) → any_hit (named b) ss ≡ true
      → together gap (head ++ joined gs) a b placed
      ≡ require (room gap (named_either a b) gs (with_both a b ss)) room_missing (good (head ++ joined (relaid gap (named_either a b) gs (with_both a b ss))))
  unfolding together fit_together written_together written_from
  together_spans a b n =
      let c : List ℕ = head ++ joined gs in
      let ys : List Placed = from_hit (named_either a b) placed in
      let f : Sector → Sector = λ s. replaced_by b (replaced_by a s) in
      rw (from_either_lem a b placed, with_both_map a b (sectors_of ys), with_both_map a b ss)
      (from_relaid gap (named_either a b) f (λ s. either_named a b b (replaced_by a s) ∙ either_named a b a s) head c start gs ss refl t.head_length_holds same_length (any_either a b ss n))
