-- Correct: a new key and new data for the sector that carries S.
use Rattle.std.specs.Prelude.{ℕ, List, [], ◌∷◌, length, take}
use Rattle.format.specs.Answer.{lent_wrong, sector_missing, wanted_wrong}
use Rattle.format.specs.Judged.{Judged, refused, then, require}
use Rattle.format.specs.Lent.{cells, both_lent}
use Rattle.format.specs.Sector.{Sector}
use Rattle.format.specs.Accept.{Placed, accept_cells, from_number, sectors_of}
use Rattle.format.specs.GapRule.{GapRule, gap_by, wanted_right}
use Rattle.format.specs.Written.{written_behind, Pair, as_pair}

-- The sector with a new key and data; flag, C, H and S are kept.
unfoldable pub with_content : List ℕ → List ℕ → Sector → Sector
with_content key body s =
    record {
      first = s.first;
      flag = s.flag;
      address = s.address;
      number = s.number;
      key_bytes = key;
      data_bytes = body;
    }

module _ (gap : ℕ → ℕ → ℕ) where
  -- The track c, of which xs are the sectors from the corrected one on: it is kept up to that count's opening, and these sectors are
  -- laid out afresh behind it; 12 where there is no such sector.
  unfoldable pub rewritten_from : List ℕ → List ℕ → List ℕ → List Placed → Judged (List ℕ)
  rewritten_from c key body [] = refused sector_missing
  rewritten_from c key body (x ∷ xs) =
      written_behind gap (take x.place c) (length c) (with_content key body x.sector ∷ sectors_of xs)

module _ (rule : GapRule) where
  -- The cells of a track: its own answer, 14, 12, 15.
  unfoldable pub correct_cells : List ℕ → ℕ → List ℕ → List ℕ → Judged (List ℕ)
  correct_cells c s key body =
      then (accept_cells c) (λ a.
      require (wanted_right rule key body) wanted_wrong
      (rewritten_from (gap_by rule) c key body (from_number s a.sectors)))

  -- 1 first; the written pair has the lengths l and k.
  unfoldable pub correct : List ℕ → List ℕ → ℕ → ℕ → ℕ → List ℕ → List ℕ → Judged Pair
  correct t m l k s key body =
      require (both_lent t m l k) lent_wrong (as_pair (correct_cells (cells t m) s key body))
