-- Walk: from one candidate of any S to the next, left to right.
use Rattle.std.specs.Prelude.{ℕ, suc, List, [], ◌∷◌, leb}
use Rattle.base.specs.Pick.{pick}
use Rattle.format.specs.Answer.{lent_wrong, sector_missing}
use Rattle.format.specs.Judged.{Judged, good, refused, require}
use Rattle.format.specs.Lent.{lent_for_reading, cells}
use Rattle.format.specs.Count.{count_flag, count_number, key_length, data_length}
use Rattle.format.specs.Candidate.{Candidate, candidates}

-- What a step gives: the place of the candidate's opening, its flag, S, KL and DL.
pub record Visited : Type 0 where
  pub place : ℕ
  pub flag : ℕ
  pub number : ℕ
  pub key_length : ℕ
  pub data_length : ℕ

-- What a step gives of a candidate.
unfoldable pub visited : Candidate → Visited
visited x =
    record {
      place = x.place;
      flag = count_flag x.rest;
      number = count_number x.rest;
      key_length = key_length x.rest;
      data_length = data_length x.rest;
    }

-- The first candidate whose opening stands at place p or later; 12 with none left.
unfoldable pub next_from : ℕ → List Candidate → Judged Visited
next_from p [] = refused sector_missing
next_from p (x ∷ xs) = let r = next_from p xs in pick (leb p x.place) (good (visited x)) r

-- The step of a reader that has come to place p: 1 where the pair is lent out of rule, at every step alike.
unfoldable pub step : ℕ → List ℕ → List ℕ → Judged Visited
step p t m = require (lent_for_reading t m) lent_wrong (next_from p (candidates (cells t m)))

-- The place that the reader has come to after a step: behind the candidate's first byte, or where it was.
unfoldable pub place_after : ℕ → Judged Visited → ℕ
place_after p (good v) = suc v.place
place_after p (refused a) = p
