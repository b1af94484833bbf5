-- The first later sector that is wrong.
use Rattle.std.specs.Prelude.{ℕ, suc, List, [], ◌∷◌, length, drop}
use Rattle.base.specs.Pick.{pick}
use Rattle.format.specs.Address.{Address}
use Rattle.format.specs.Home.{Home}
use Rattle.format.specs.Count.{settled}
use Rattle.format.specs.Span.{none}
use Rattle.sector.specs.Right.{sector_right}

-- How many of the later spans gs, the first of which stands in position i, are left from the first on whose sector is wrong; 0 where all are right.
unfoldable pub wrong_left : Home → ℕ → Address → List (List ℕ) → ℕ
wrong_left h i a [] = 0
wrong_left h i a (g ∷ gs) = let r = wrong_left h (suc i) a gs in pick (sector_right h i (settled a) (none gs) (drop 8 g)) r (suc (length gs))
