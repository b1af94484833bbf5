-- What the code of writing is lent, as the definitions name it.
use Rattle.std.specs.Prelude.{ℕ, List}
use Rattle.cylinder.specs.Cylinder.{Cylinder}

-- The cylinder of two slices and a list of Ls.
abbrev pub lent : List ℕ → List ℕ → List ℕ → Cylinder
lent t m ls = record { tracks = t; marks = m; lengths = ls }
