-- One sector written behind kept cells: when there is room for it, and how long the track is then.
use mathlib.Core.Path.{◌≡◌, ap}
use Prim.Native.Nat.{ℕ, ◌+◌, ◌-◌, ◌≤◌}
use native.Mathlib.Omega.{arith}
use mathlib.Core.List.{List, [], ◌∷◌, ◌++◌}
use lib.ListN.{length, replicate, length-append}
use lib.Dec.{leb}
use Rattle.format.specs.Answer.{room_missing}
use Rattle.format.specs.Judged.{good, require}
use Rattle.format.specs.Block.{least_gap}
use Rattle.format.specs.Span.{joined}
use Rattle.format.specs.Sector.{Sector}
use Rattle.format.specs.Written.{written_sector, reach, written_spans, written_behind}
use Rattle.format.proofs.Written.WrittenSpans.{length_written_span}

module _ (kept : List ℕ) (l : ℕ) (s : Sector) where
  -- The gap from its block to index of a track of l cells.
  abbrev pub gap_to_index : ℕ
  gap_to_index = l - length kept - length (written_sector s)

  -- Its span.
  abbrev pub span_to_index : List ℕ
  span_to_index = written_sector s ++ replicate gap_to_index 0xFF

  -- There is room exactly where the block ends no later than l - 13.
  pub behind_one : (gap : ℕ → ℕ → ℕ)
      → written_behind gap kept l (s ∷ []) ≡ require (leb (length kept + length (written_sector s) + 13) l) room_missing (good (kept ++ joined (span_to_index ∷ [])))
  unfolding written_behind reach least_gap written_spans
  behind_one gap =
      let e : length kept + (length (written_sector s) + 0) + 13 ≡ length kept + length (written_sector s) + 13 = omega arith in
      ap (λ (z : ℕ). require (leb z l) room_missing (good (kept ++ joined (span_to_index ∷ [])))) e

  -- Where there is room the gap to index is at least the least one.
  pub gap_behind : length kept + length (written_sector s) + 13 ≤ l → 13 ≤ gap_to_index
  gap_behind h = omega arith

  -- The track is as long as it shall be.
  pub length_behind : length kept + length (written_sector s) + 13 ≤ l → length (kept ++ joined (span_to_index ∷ [])) ≡ l
  length_behind h =
      omega (arith, length-append kept (span_to_index ++ []), length-append span_to_index [], length_written_span s gap_to_index)
