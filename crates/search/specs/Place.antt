-- What the search for home gives.
use Rattle.std.specs.Prelude.{ℕ, ◌≤◌, Option, Some, None}
use Rattle.format.specs.Layout.{home_first, home_last}
use Rattle.format.specs.Answer.{home_missing}
use Rattle.format.specs.Judged.{Judged, good, refused}

-- Home's place, or answer 2 where home opens nowhere in its window.
abbrev pub judged_place : Option ℕ → Judged ℕ
judged_place (Some p) = good p
judged_place None = refused home_missing

-- A place that was found lies in the window, 23 to 37.
abbrev pub InWindow : Option ℕ → Type 0
InWindow (Some p) = (home_first ≤ p) × (p ≤ home_last)
InWindow None = Unit {0}
