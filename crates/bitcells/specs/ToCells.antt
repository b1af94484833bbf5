-- From a track and its marks to the drive's bit cells.
use Rattle.std.specs.Prelude.{ℕ, ◌*◌, Bool, ◌&&◌, List, length, eqb}
use Rattle.format.specs.Answer.{lent_wrong}
use Rattle.format.specs.Judged.{Judged, good, then, require}
use Rattle.format.specs.Lent.{lent_for_reading}
use Rattle.format.specs.Span.{joined}
use Rattle.pattern.specs.Pattern.{recordable, cell_bytes}
use Rattle.bitcells.specs.Each.{each_byte, judge_each}

-- A pair and n cell bytes are lent within the rule: the pair for reading, and two cell bytes for each of its bytes.
unfoldable pub lent_to : List ℕ → List ℕ → ℕ → Bool
lent_to t m n = lent_for_reading t m && eqb n (2 * length t)

-- The cell bytes of a track with its marks.
unfoldable pub written_cells : List ℕ → List ℕ → List ℕ
written_cells t m = joined (each_byte cell_bytes t m)

-- Of the track t with the marks m into n cell bytes: 1, then 17 at the first marked byte that is not FF.
unfoldable pub to_cells : List ℕ → List ℕ → ℕ → Judged (List ℕ)
to_cells t m n =
    require (lent_to t m n) lent_wrong
    (then (judge_each 0 (each_byte recordable t m)) (λ _. good (written_cells t m)))
