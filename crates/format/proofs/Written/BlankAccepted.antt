-- What Blank writes is accepted, with home at 30 and the wanted sector alone, and there is room for it exactly where its block ends in time.
use mathlib.Core.Path.{◌≡◌, refl, sym, ap, ap₂, ◌∙◌}
use Prim.Native.Nat.{ℕ, ◌+◌, ◌≤◌, ◌<◌}
use native.Mathlib.Omega.{arith}
use mathlib.Core.Bool.{Bool, true, false, ◌&&◌}
use mathlib.Core.List.{List, [], ◌∷◌, ◌++◌, map}
use lib.ListN.{length, replicate}
use lib.Dec.{leb, eqb}
use borrow.Author.Tests.{leb-true, le-leb, lt-leb}
use Rattle.format.specs.Answer.{Answer, lent_wrong, wanted_wrong, room_missing}
use Rattle.format.specs.Judged.{Judged, good, refused, require}
use Rattle.format.specs.Lent.{length_right, lent_for_writing, bytes_of, marks_of, unmarked}
use Rattle.format.specs.Address.{Address, address_in_range, address_right}
use Rattle.format.specs.Home.{Home}
use Rattle.format.specs.Count.{unsettled, count_address_right}
use Rattle.format.specs.Block.{least_gap}
use Rattle.format.specs.Span.{joined, clean_spans}
use Rattle.format.specs.Sector.{Sector, content_right}
use Rattle.format.specs.Accept.{placed_from, among, judge_numbers, Accepted, accept, sectors_of}
use Rattle.format.specs.GapRule.{gap_one}
use Rattle.format.specs.Written.{written_sector, sector_size, written_behind, Pair, as_pair}
use Rattle.format.specs.Blank.{named_by, blank_right, written_head, blank_sector, blank}
use Rattle.format.proofs.Spans.Shape.{Valid}
use Rattle.format.proofs.Base.Judged.{good_inj, require_good}
use Rattle.base.proofs.Tests.{and_both, and_make}
use Rattle.format.proofs.Sector.ReadBack.{length_written, read_written, written_first, written_clean}
use Rattle.format.proofs.Track.Pairs.{length_bytes, length_marks, accept_pair, pair_of}
use Rattle.format.proofs.Track.AcceptedSpans.{Track, accepted_of, track_accepted}
use Rattle.format.proofs.Written.WrittenHome.{range_bounds, head_length_holds, head_unmarked, written_home}
use Rattle.format.proofs.Sector.CountRight.{right_in_range, count_unmarked, first_flag}
use Rattle.format.proofs.Written.WrittenEnds.{EndsWritten, GapsWritten, end_as_written, last_gap_written}
use Rattle.format.proofs.Written.OneBehind.{gap_to_index, span_to_index, behind_one, gap_behind, length_behind}

-- Home as Blank writes it.
abbrev pub blank_home : ℕ → Address → Home
blank_home flag own = record { place = 30; flag = flag; address = own }

-- The place at which the block of sector 0 ends, and 13 bytes more.
abbrev pub blank_need : List ℕ → List ℕ → ℕ
blank_need key body = 55 + sector_size true (length key) (length body) + 13

-- What the wanted fields within the rule say.
pub record Wanted (own : Address) (flag : ℕ) (named : Address) (key body : List ℕ) : Type 0 where
  pub own_right : address_in_range own ≡ true
  pub flag_right : flag ≤ 3
  pub named_right : address_right flag own named ≡ true
  pub content_right_holds : content_right key body ≡ true

wanted : (own : Address) (flag : ℕ) (partner : Address) (key body : List ℕ) → blank_right own flag partner key body ≡ true
    → Wanted own flag (named_by flag own partner) key body
unfolding blank_right
wanted own flag partner key body e =
    let a = and_both ((address_in_range own && leb flag 3) && address_right flag own (named_by flag own partner)) (content_right key body) e in
    let b = and_both (address_in_range own && leb flag 3) (address_right flag own (named_by flag own partner)) a.0 in
    let c = and_both (address_in_range own) (leb flag 3) b.0 in
    record { own_right = c.0; flag_right = leb-true flag 3 c.1; named_right = b.1; content_right_holds = a.1 }

module _ (own : Address) (flag : ℕ) (named : Address) (s : ℕ) (key body : List ℕ) where
  abbrev sector : Sector
  sector = blank_sector flag named s key body

  -- The span of sector 0 as it is written, with m bytes of gap.
  abbrev span : ℕ → List ℕ
  span m = written_sector sector ++ replicate m 0xFF

  blank_valid : Wanted own flag named key body → s < 256 → unmarked key ≡ true → unmarked body ≡ true → Valid (blank_home flag own) 0 unsettled sector
  unfolding blank_sector count_address_right
  blank_valid w n uk ub =
      let bounds = range_bounds named (right_in_range flag own named w.own_right w.named_right) in
      record {
        position = refl;
        flag_right = first_flag flag w.flag_right;
        address_right_holds = w.named_right;
        count_bytes_holds = count_unmarked sector (omega (arith, w.flag_right)) (omega arith) (omega arith) n w.content_right_holds;
        key_bytes_holds = uk;
        data_bytes_holds = ub;
      }

  blank_track : (m : ℕ) → Wanted own flag named key body → Valid (blank_home flag own) 0 unsettled sector → 13 ≤ m
      → Track (written_head flag own) (blank_home flag own) (span m ∷ []) (sector ∷ [])
  unfolding least_gap clean_spans placed_from judge_numbers among
  blank_track m w v h =
      let k : Home = blank_home flag own in
      record {
        some_span = refl;
        home_judged = written_home flag own (joined (span m ∷ [])) w.flag_right w.own_right;
        head_length_holds = head_length_holds flag own;
        head_unmarked = head_unmarked flag own w.flag_right w.own_right;
        shape = (written_first k unsettled sector m v, tt);
        clean = and_make (written_clean k 0 unsettled sector m v) refl;
        reads = (read_written k 0 unsettled 55 true sector m v h, tt);
        reaches = tt;
        numbers = refl;
      }

  -- The cells of the whole track of l cells.
  abbrev whole : ℕ → List ℕ
  whole l = written_head flag own ++ joined (span_to_index (written_head flag own) l sector ∷ [])

  need_is : length (written_head flag own) + length (written_sector sector) + 13 ≡ blank_need key body
  unfolding blank_sector
  need_is = omega (arith, head_length_holds flag own, length_written sector)

  behind_need : (l : ℕ) → written_behind gap_one (written_head flag own) l (sector ∷ []) ≡ require (leb (blank_need key body) l) room_missing (good (whole l))
  behind_need l =
      behind_one (written_head flag own) l sector gap_one ∙ ap (λ (z : ℕ). require (leb z l) room_missing (good (whole l))) need_is

pair_require : (b : Bool) (a : Answer) (c : List ℕ) → as_pair (require b a (good c)) ≡ require b a (good (pair_of c))
unfolding as_pair
pair_require true a c = refl
pair_require false a c = refl

module _ (l k : ℕ) (own : Address) (flag : ℕ) (partner : Address) (s : ℕ) (key body : List ℕ) where
  abbrev result : Judged Pair
  result = blank l k own flag partner s key body

  abbrev cells_written : List ℕ
  cells_written = whole own flag (named_by flag own partner) s key body l

  -- What Blank gives on a pair lent within the rule and wanted fields within the rule.
  blank_is : lent_for_writing l k ≡ true → blank_right own flag partner key body ≡ true
      → result ≡ require (leb (blank_need key body) l) room_missing (good (pair_of cells_written))
  unfolding blank
  blank_is a b = rw (a, b, behind_need own flag (named_by flag own partner) s key body l) (pair_require (leb (blank_need key body) l) room_missing cells_written)

  -- There is room exactly where the block ends no later than l - 13.
  pub blank_room : lent_for_writing l k ≡ true → blank_right own flag partner key body ≡ true
      → (l < blank_need key body → blank l k own flag partner s key body ≡ refused room_missing)
      × (blank_need key body ≤ l → (q : Pair) × (blank l k own flag partner s key body ≡ good q))
  blank_room a b = (
    λ h. rw (blank_is a b, lt-leb (blank_need key body) l h),
    λ h. (pair_of cells_written, rw (blank_is a b, le-leb (blank_need key body) l h)),
  )

  -- The lengths, fields and room that a good result shows.
  blank_good : (q : Pair) → result ≡ good q
      → (lent_for_writing l k ≡ true) × (blank_right own flag partner key body ≡ true) × (blank_need key body ≤ l) × (pair_of cells_written ≡ q)
  unfolding blank
  blank_good q e =
      let a = require_good (lent_for_writing l k) lent_wrong _ q e in
      let b = require_good (blank_right own flag partner key body) wanted_wrong _ q a.1 in
      let c = require_good (leb (blank_need key body) l) room_missing _ q (sym (blank_is a.0 b.0) ∙ e) in
      (a.0, b.0, leb-true (blank_need key body) l c.0, good_inj (pair_of cells_written) q c.1)

  -- What Blank writes is accepted: home at 30, the wanted sector alone at 55, the lengths asked for; the block ends as it is written, and its gap runs to index.
  pub blank_accepted : unmarked key ≡ true → unmarked body ≡ true → s < 256 → (q : Pair) → blank l k own flag partner s key body ≡ good q
      → (a : Accepted)
      × (accept q.track q.marks ≡ good a)
      × (a.home ≡ record { place = 30; flag = flag; address = own })
      × (sectors_of a.sectors ≡ blank_sector flag (named_by flag own partner) s key body ∷ [])
      × (map (λ x. x.place) a.sectors ≡ 55 ∷ [])
      × (length q.track ≡ l)
      × (length q.marks ≡ l)
      × EndsWritten a.sectors
      × GapsWritten gap_one l a.sectors
  unfolding placed_from lent_for_writing
  blank_accepted uk ub n q e =
      let g = blank_good q e in
      let named : Address = named_by flag own partner in
      let c : List ℕ = cells_written in
      let head : List ℕ = written_head flag own in
      let new : Sector = sector own flag named s key body in
      let w = wanted own flag partner key body g.1 in
      let room : length head + length (written_sector new) + 13 ≤ l = omega (arith, need_is own flag named s key body, g.2) in
      let m : ℕ = gap_to_index head l new in
      let b = blank_track own flag named s key body m w (blank_valid own flag named s key body w n uk ub) (gap_behind head l new room) in
      let len : length c ≡ l = length_behind head l new room in
      let ok : length_right (length c) ≡ true = ap length_right len ∙ (and_both (length_right l) (eqb k l) g.0).0 in
      let t = accepted_of (blank_home flag own) (span_to_index head l new ∷ []) (new ∷ []) in
      let track : bytes_of c ≡ q.track = ap (λ (z : Pair). z.track) g.3 in
      let marks : marks_of c ≡ q.marks = ap (λ (z : Pair). z.marks) g.3 in (
        t,
        sym (ap₂ accept track marks) ∙ accept_pair c t ok (track_accepted head (blank_home flag own) (span_to_index head l new ∷ []) (new ∷ []) b),
        refl,
        refl,
        refl,
        ap length (sym track) ∙ length_bytes c ∙ len,
        ap length (sym marks) ∙ length_marks c ∙ len,
        (end_as_written 55 new m, tt),
        last_gap_written gap_one 55 l m new (omega (arith, head_length_holds flag own)),
      )
