-- Accept: judges the whole track.
use Rattle.std.specs.Prelude.{ℕ, zero, suc, ◌+◌, Bool, false, not, ◌&&◌, ◌||◌, List, [], ◌∷◌, map, length, drop, leb, ltb, eqb}
use Rattle.base.specs.Pick.{pick}
use Rattle.format.specs.Layout.{first_count_length}
use Rattle.format.specs.Answer.{lent_wrong, mark_stray, sector_repeated}
use Rattle.format.specs.Judged.{Judged, good, then, require}
use Rattle.format.specs.Lent.{lent_for_reading, cells}
use Rattle.format.specs.Opening.{opens}
use Rattle.format.specs.Home.{Home, judge_home, first_count_place}
use Rattle.format.specs.Count.{Settled, unsettled}
use Rattle.format.specs.Blocks.{blocks_at}
use Rattle.format.specs.Span.{spans, none}
use Rattle.format.specs.Sector.{Sector, settle, read_span, opening_length}

-- Answer 5: the lowest mark outside a whole opening, or in one that starts before place e.
-- c starts at place q, and its first k cells belong to an opening that was passed.
unfoldable pub judge_marks : ℕ → ℕ → ℕ → List ℕ → Judged (Unit {0})
judge_marks e k q [] = good tt
judge_marks e zero q (x ∷ c) =
    let past = judge_marks e 7 (suc q) c in
    let next = judge_marks e 0 (suc q) c in
    pick (opens (x ∷ c) && leb e q) past (require (ltb x 256) (mark_stray q) next)
judge_marks e (suc k) q (x ∷ c) = judge_marks e k (suc q) c

-- The sectors of the spans gs, the first of which stands in position i and at place p.
unfoldable pub read_spans : Home → ℕ → Settled → ℕ → List (List ℕ) → Judged (List Sector)
read_spans h i x p [] = good []
read_spans h i x p (g ∷ gs) =
    then (read_span h i x p (none gs) g) (λ s.
    then (read_spans h (suc i) (settle x s) (p + length g) gs) (λ ss.
    good (s ∷ ss)))

-- A sector with its span and the place of its count's opening.
pub record Placed : Type 0 where
  pub place : ℕ
  pub span : List ℕ
  pub sector : Sector

-- What follows the count's opening in the span of a placed sector,
abbrev pub placed_rest : Placed → List ℕ
placed_rest x = drop (opening_length x.sector.first) x.span

-- and the place from which it follows.
abbrev pub placed_start : Placed → ℕ
placed_start x = x.place + opening_length x.sector.first

-- The sectors ss of the spans gs, the first of which stands at place p.
unfoldable pub placed_from : ℕ → List (List ℕ) → List Sector → List Placed
placed_from p [] ss = []
placed_from p (g ∷ gs) [] = []
placed_from p (g ∷ gs) (s ∷ ss) = record { place = p; span = g; sector = s } ∷ placed_from (p + length g) gs ss

-- The place at which the data block of a placed sector ends.
unfoldable pub end_of : Placed → ℕ
end_of x =
    let o = opening_length x.sector.first in
    (blocks_at (x.place + o) (drop o x.span)).end

-- The sectors of placed ones.
abbrev pub sectors_of : List Placed → List Sector
sectors_of xs = map (λ x. x.sector) xs

-- The sectors from the leftmost that carries S on; none where no sector does.
unfoldable pub from_number : ℕ → List Placed → List Placed
from_number s [] = []
from_number s (x ∷ xs) = let r = from_number s xs in pick (eqb x.sector.number s) (x ∷ xs) r

-- The last of the placed sectors x and xs.
abbrev pub last_of : Placed → List Placed → Placed
last_of x [] = x
last_of x (y ∷ ys) = last_of y ys

-- n is among the numbers ns.
unfoldable pub among : ℕ → List ℕ → Bool
among n [] = false
among n (m ∷ ns) = eqb n m || among n ns

-- Answer 13: the leftmost sector that repeats the number of an earlier one; `seen` has the numbers passed.
unfoldable pub judge_numbers : List ℕ → List Placed → Judged (Unit {0})
judge_numbers seen [] = good tt
judge_numbers seen (x ∷ xs) =
    require (not (among x.sector.number seen)) (sector_repeated x.place) (judge_numbers (x.sector.number ∷ seen) xs)

-- An accepted track: its home, and its sectors from left to right with their spans.
pub record Accepted : Type 0 where
  pub home : Home
  pub sectors : List Placed

-- The spans of the track c behind the home h.
abbrev pub spans_of : Home → List ℕ → List (List ℕ)
spans_of h c = spans (drop (first_count_place h.place) c)

-- No marked opening may start before this place: the end of sector 0's count, which has 18 bytes.
abbrev pub first_count_end : ℕ → ℕ
first_count_end p = first_count_place p + first_count_length

-- The sectors of the track c behind its home h: 5, then sector by sector, last 13.
unfoldable pub judge_behind : Home → List ℕ → Judged (List Placed)
judge_behind h c =
    then (judge_marks (first_count_end h.place) 0 0 c) (λ _.
    then (read_spans h 0 unsettled (first_count_place h.place) (spans_of h c)) (λ ss.
    let xs = placed_from (first_count_place h.place) (spans_of h c) ss in
    then (judge_numbers [] xs) (λ _.
    good xs)))

-- The cells of a track: 2 to 4, then what stands behind home.
unfoldable pub accept_cells : List ℕ → Judged Accepted
accept_cells c = then (judge_home c) (λ h. then (judge_behind h c) (λ xs. good (record { home = h; sectors = xs })))

-- A lent pair: 1 first.
unfoldable pub accept : List ℕ → List ℕ → Judged Accepted
accept t m = require (lent_for_reading t m) lent_wrong (accept_cells (cells t m))
