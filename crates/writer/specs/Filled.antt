-- What the writers of this crate lay out for one sector.
use Rattle.std.specs.Prelude.{ℕ, ◌-◌, List, ◌++◌, length, replicate}
use Rattle.format.specs.Sector.{Sector}
use Rattle.format.specs.Written.{written_sector}

-- A sector in first-written form and FF behind it, n cells together.
unfoldable pub filled_span : ℕ → Sector → List ℕ
filled_span n s = written_sector s ++ replicate (n - length (written_sector s)) 0xFF
