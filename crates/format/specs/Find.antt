-- Find: the key's or the data's information of sector S on any track, sound or damaged.
use Rattle.std.specs.Prelude.{ℕ, ◌+◌, List, [], ◌∷◌, take, drop, eqb}
use Rattle.base.specs.Pick.{pick}
use Rattle.format.specs.Answer.{lent_wrong, sector_missing, sector_repeated}
use Rattle.format.specs.Judged.{Judged, good, refused, then, require}
use Rattle.format.specs.Lent.{lent_for_reading, cells}
use Rattle.format.specs.Count.{count_number}
use Rattle.format.specs.Blocks.{Part, Wanted, the_key, the_data, blocks_at, wanted_part, judge_fit}
use Rattle.format.specs.Sector.{opening_length, Sector}
use Rattle.format.specs.Candidate.{Candidate, candidates}

-- The key or the data of a sector.
abbrev pub content_of : Wanted → Sector → List ℕ
content_of the_key s = s.key_bytes
content_of the_data s = s.data_bytes

-- The bytes of a part.
unfoldable pub part_of : List ℕ → Part → List ℕ
part_of t x = take x.size (drop x.start t)

-- The candidates that carry S.
unfoldable pub carrying : ℕ → List Candidate → List Candidate
carrying s [] = []
carrying s (x ∷ xs) = let r = carrying s xs in pick (eqb (count_number x.rest) s) (x ∷ r) r

-- The only one of them: 12 where there is none, 13 with the place of the second where there are more.
unfoldable pub only : List Candidate → Judged Candidate
only [] = refused sector_missing
only (x ∷ []) = good x
only (x ∷ y ∷ r) = refused (sector_repeated y.place)

-- The part asked for of a candidate: 9 where its blocks and the least gap do not fit its span, then the part, which alone is opened and checked: 10 for the key, 11 for the data.
unfoldable pub candidate_part : Wanted → Candidate → Judged Part
candidate_part w x =
    then (judge_fit x.place x.last x.rest) (λ _. wanted_part w (blocks_at (x.place + opening_length x.first) x.rest))

-- The cells of a track: 12, 13, then the part of the only candidate that carries S.
unfoldable pub find_cells : ℕ → Wanted → List ℕ → Judged Part
find_cells s w c = then (only (carrying s (candidates c))) (candidate_part w)

-- A lent pair: 1 first.
unfoldable pub find : ℕ → Wanted → List ℕ → List ℕ → Judged Part
find s w t m = require (lent_for_reading t m) lent_wrong (find_cells s w (cells t m))
