-- Two corrections of one track: done one after the other, and what both give together.
use Rattle.std.specs.Prelude.{ℕ, ◌+◌, ◌-◌, Bool, true, ◌||◌, List, [], ◌∷◌, ◌++◌, map, length, take, leb, eqb}
use Rattle.base.specs.Pick.{pick}
use Rattle.format.specs.Answer.{room_missing}
use Rattle.format.specs.Judged.{Judged, good, require}
use Rattle.format.specs.Block.{least_gap}
use Rattle.format.specs.Span.{joined}
use Rattle.format.specs.Sector.{Sector}
use Rattle.format.specs.Accept.{Placed, sectors_of}
use Rattle.format.specs.GapRule.{GapRule}
use Rattle.format.specs.Written.{reach, written_spans, Pair}
use Rattle.format.specs.Correct.{with_content, correct_cells, correct}

-- A correction: the sector S, its new key and its new data.
pub record Correction : Type 0 where
  pub number : ℕ
  pub key : List ℕ
  pub body : List ℕ

-- What a correction makes of a sector: the one that it names gets the new key and data, any other stays.
unfoldable pub replaced_by : Correction → Sector → Sector
replaced_by a s = pick (eqb s.number a.number) (with_content a.key a.body s) s

-- The sectors from the left one of the two corrected ones on.
unfoldable pub from_either : Correction → Correction → List Placed → List Placed
from_either a b [] = []
from_either a b (x ∷ xs) =
    let r = from_either a b xs in
    pick (eqb x.sector.number a.number || eqb x.sector.number b.number) (x ∷ xs) r

-- The place of the first of them.
unfoldable pub left_place : List Placed → ℕ
left_place [] = 0
left_place (x ∷ xs) = x.place

-- Sectors with both new keys and data.
unfoldable pub with_both : Correction → Correction → List Sector → List Sector
with_both a b ss = map (replaced_by b) (map (replaced_by a) ss)

module _ (rule : GapRule) where
  -- Correct, of the cells of a track.
  abbrev pub corrected : List ℕ → Correction → Judged (List ℕ)
  corrected c a = correct_cells rule c a.number a.key a.body

  -- Correct, of a pair, into a pair of the same L.
  abbrev pub corrected_pair : List ℕ → List ℕ → Correction → Judged Pair
  corrected_pair t m a = correct rule t m (length t) (length t) a.number a.key a.body

module _ (gap : ℕ → ℕ → ℕ) where
  -- Both fit together: if the sectors xs, which start with the left one of the two, are laid out afresh with both contents, 13 cells or more
  -- are left behind the last block.
  unfoldable pub fit_together : List ℕ → Correction → Correction → List Placed → Bool
  fit_together c a b xs = leb (left_place xs + reach gap (with_both a b (sectors_of xs)) + least_gap true) (length c)

  -- The track with both: it is kept up to the left sector, and the sectors from there on are laid out afresh.
  unfoldable pub written_together : List ℕ → Correction → Correction → List Placed → List ℕ
  written_together c a b xs =
      take (left_place xs) c ++ joined (written_spans gap (length c - left_place xs) (with_both a b (sectors_of xs)))

  -- What both corrections give together on the track c with the sectors xs: 15 exactly where they do not fit together.
  unfoldable pub together : List ℕ → Correction → Correction → List Placed → Judged (List ℕ)
  together c a b xs =
      let ys = from_either a b xs in
      require (fit_together c a b ys) room_missing (good (written_together c a b ys))
