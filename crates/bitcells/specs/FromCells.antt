-- From the drive's bit cells to a track and its marks.
use Rattle.std.specs.Prelude.{ℕ, ◌*◌, Bool, ◌&&◌, List, length, eqb}
use Rattle.format.specs.Answer.{lent_wrong}
use Rattle.format.specs.Judged.{Judged, good, then, require}
use Rattle.format.specs.Lent.{lent_for_writing}
use Rattle.format.specs.Written.{Pair}
use Rattle.pattern.specs.Pattern.{data_in, legal_pattern, mark_in}
use Rattle.bitcells.specs.Each.{each_pattern, judge_each}

-- n cell bytes and a pair of the lengths l and k are lent within the rule: two cell bytes for each of L bytes.
unfoldable pub lent_from : ℕ → ℕ → ℕ → Bool
lent_from n l k = lent_for_writing l k && eqb n (2 * l)

-- The track and the marks that the cell bytes x stand for.
abbrev pub read_pair : List ℕ → Pair
read_pair x = record { track = each_pattern data_in x; marks = each_pattern mark_in x }

-- Of the cell bytes x into a pair of the lengths l and k: 1, then 17 at the first byte whose two cell bytes are no legal pattern.
unfoldable pub from_cells : List ℕ → ℕ → ℕ → Judged Pair
from_cells x l k =
    require (lent_from (length x) l k) lent_wrong
    (then (judge_each 0 (each_pattern legal_pattern x)) (λ _. good (read_pair x)))
