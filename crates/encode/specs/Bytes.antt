-- The bytes of a written count.
use Rattle.std.specs.Prelude.{List, ◌++◌, ℕ}
use Rattle.format.specs.Lent.{bytes_of}
use Rattle.format.specs.Opening.{closing}
use Rattle.format.specs.Sector.{Sector}
use Rattle.format.specs.Written.{count_info, count_opening}

-- The opening, the information, the check and the closing byte.
unfoldable pub count_bytes : Sector → List ℕ
count_bytes s = bytes_of (count_opening s.first) ++ (count_info s ++ closing (count_info s))
