-- Pair find: the part from whichever of two tracks holds the record, by the flag of the first.
use Rattle.std.specs.Prelude.{ℕ, Bool, ◌&&◌, List, drop, eqb}
use Rattle.base.specs.Pick.{pick}
use Rattle.format.specs.Layout.{plain_length}
use Rattle.format.specs.Answer.{lent_wrong, first_count_missing, pair_wrong}
use Rattle.format.specs.Judged.{Judged, good, refused, then, require}
use Rattle.format.specs.Lent.{lent_for_reading, cells}
use Rattle.format.specs.Opening.{starts_with, plain_opening}
use Rattle.format.specs.Flag.{condition}
use Rattle.format.specs.Address.{Address, same_address}
use Rattle.format.specs.Home.{Home, judge_home, first_count_place}
use Rattle.format.specs.Count.{unsettled, count_address}
use Rattle.format.specs.Span.{span_rest}
use Rattle.format.specs.Sector.{judge_count}
use Rattle.format.specs.Accept.{Accepted, accept}
use Rattle.format.specs.Find.{find}
use Rattle.format.specs.Blocks.{Wanted, Part}

-- The outcome, and which track it speaks of: 0 the first, 1 the second.
pub record Paired : Type 0 where
  pub which : ℕ
  pub outcome : Judged Part

-- It speaks of the first track.
abbrev pub of_first : Judged Part → Paired
of_first j = record { which = 0; outcome = j }

-- It speaks of the second track.
abbrev pub of_second : Judged Part → Paired
of_second j = record { which = 1; outcome = j }

-- The cells of a track from sector 0's count on.
abbrev pub from_first_count : Home → List ℕ → List ℕ
from_first_count h c = drop (first_count_place h.place) c

-- The track that sector 0's count names.
unfoldable pub named_track : Home → List ℕ → Address
named_track h c = count_address (drop plain_length (from_first_count h c))

-- The home h of a track c whose count of sector 0 is right: 6, 9 for the count, 7, 8.
unfoldable pub judge_first_count : Home → List ℕ → Judged Home
judge_first_count h c =
    require (starts_with plain_opening (from_first_count h c)) (first_count_missing (first_count_place h.place))
    (then (judge_count h 0 unsettled (first_count_place h.place) (span_rest plain_length (from_first_count h c))) (λ _. good h))

-- The first track's home and sector 0's count: 1 to 4, then the count.
unfoldable pub judge_first : List ℕ → List ℕ → Judged Home
judge_first t m =
    require (lent_for_reading t m) lent_wrong
    (then (judge_home (cells t m)) (λ h. judge_first_count h (cells t m)))

-- The second track is flagged 01, is the one that the first names, and names the first.
unfoldable pub pair_agrees : Home → List ℕ → Home → List ℕ → Bool
pair_agrees h c g d =
    eqb (condition g.flag) 1 && (same_address g.address (named_track h c) && same_address (named_track g d) h.address)

-- With 10: the second's own answer, then 16, then Find on the second.
unfoldable pub find_on_second : ℕ → Wanted → Home → List ℕ → List ℕ → List ℕ → Judged Accepted → Paired
find_on_second s w h c u v (refused a) = of_second (refused a)
find_on_second s w h c u v (good g) =
    pick (pair_agrees h c g.home (cells u v)) (of_second (find s w u v)) (of_first (refused pair_wrong))

-- By the flag of the first: 11 refuses, 10 goes to the second, 00 and 01 leave the second unread.
unfoldable pub find_by_flag : ℕ → Wanted → List ℕ → List ℕ → List ℕ → List ℕ → Judged Home → Paired
find_by_flag s w t m u v (refused a) = of_first (refused a)
find_by_flag s w t m u v (good h) =
    pick (eqb (condition h.flag) 3) (of_first (refused pair_wrong))
    (pick (eqb (condition h.flag) 2) (find_on_second s w h (cells t m) u v (accept u v)) (of_first (find s w t m)))

-- The first pair t, m and the second pair u, v.
unfoldable pub pair_find : ℕ → Wanted → List ℕ → List ℕ → List ℕ → List ℕ → Paired
pair_find s w t m u v = find_by_flag s w t m u v (judge_first t m)
