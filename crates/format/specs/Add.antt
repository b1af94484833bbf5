-- Add: one more sector after the last.
use Rattle.std.specs.Prelude.{ℕ, suc, ◌+◌, ◌*◌, ◌%◌, false, ◌&&◌, List, [], ◌∷◌, ◌++◌, length, take, replicate, leb}
use Rattle.format.specs.Answer.{lent_wrong, sector_repeated, sector_missing, wanted_wrong}
use Rattle.format.specs.Judged.{Judged, good, refused, then, require}
use Rattle.format.specs.Lent.{cells, both_lent}
use Rattle.format.specs.Flag.{condition}
use Rattle.format.specs.Home.{Home}
use Rattle.format.specs.Sector.{Sector}
use Rattle.format.specs.Accept.{Placed, accept_cells, end_of, from_number}
use Rattle.format.specs.GapRule.{GapRule, gap_by, wanted_right}
use Rattle.format.specs.Written.{gap_after, written_behind, Pair, as_pair}

-- 13 where a sector carries S already, with its place.
unfoldable pub judge_absent : List Placed → Judged (Unit {0})
judge_absent [] = good tt
judge_absent (x ∷ xs) = refused (sector_repeated x.place)

-- The flag of the sector in position i > 0: B8 by its position, B7 as given, B2 B1 as in home.
unfoldable pub added_flag : ℕ → ℕ → ℕ → ℕ
added_flag f i b7 = i % 2 * 128 + b7 * 64 + condition f

-- The new sector, in position i behind the sector x, whose C and H it shares.
unfoldable pub added_sector : Home → ℕ → Placed → ℕ → ℕ → List ℕ → List ℕ → Sector
added_sector h i x b7 s key body =
    record {
      first = false;
      flag = added_flag h.flag i b7;
      address = x.sector.address;
      number = s;
      key_bytes = key;
      data_bytes = body;
    }

module _ (gap : ℕ → ℕ → ℕ) where
  -- The track c up to the end of the last of its sectors (there is always one), that block's first-written gap, and the new sector;
  -- the sectors at hand start in position i of the track.
  unfoldable pub added_to : List ℕ → Home → ℕ → ℕ → ℕ → List ℕ → List ℕ → List Placed → Judged (List ℕ)
  added_to c h i b7 s key body [] = refused sector_missing
  added_to c h i b7 s key body (x ∷ []) =
      written_behind gap (take (end_of x) c ++ replicate (gap_after gap x.sector) 0xFF) (length c) (added_sector h (suc i) x b7 s key body ∷ [])
  added_to c h i b7 s key body (x ∷ y ∷ xs) = added_to c h (suc i) b7 s key body (y ∷ xs)

module _ (rule : GapRule) where
  -- The cells of a track: its own answer, 14, 13, 15.
  unfoldable pub add_cells : List ℕ → ℕ → ℕ → List ℕ → List ℕ → Judged (List ℕ)
  add_cells c b7 s key body =
      then (accept_cells c) (λ a.
      require (leb b7 1 && wanted_right rule key body) wanted_wrong
      (then (judge_absent (from_number s a.sectors)) (λ _.
      added_to (gap_by rule) c a.home 0 b7 s key body a.sectors)))

  -- 1 first; the written pair has the lengths l and k.
  unfoldable pub add : List ℕ → List ℕ → ℕ → ℕ → ℕ → ℕ → List ℕ → List ℕ → Judged Pair
  add t m l k b7 s key body =
      require (both_lent t m l k) lent_wrong (as_pair (add_cells (cells t m) b7 s key body))
