-- What the writers take, and whether it fits in parts of l bytes and k marks.
use Rattle.std.specs.Prelude.{ℕ, Bool, ◌&&◌, List, length, leb}
use Rattle.format.specs.Address.{Address}
use Rattle.format.specs.Sector.{Sector, content_right}
use Rattle.format.specs.Written.{written_sector}
use Rattle.encode.specs.declared.Sector.{Sector as SectorCode}

-- C and H as an address.
abbrev pub address_of : ℕ → ℕ → Address
address_of cylinder head = record { cylinder = cylinder; head = head }

-- The sector with these fields.
abbrev pub sector_from : Bool → ℕ → ℕ → ℕ → ℕ → List ℕ → List ℕ → Sector
sector_from first flag cylinder head s key body =
    record { first = first; flag = flag; address = address_of cylinder head; number = s; key_bytes = key; data_bytes = body }

-- The format's sector that a value of the code stands for.
abbrev pub as_sector : SectorCode → Sector
as_sector x = sector_from x.first x.flag x.cylinder x.head x.number x.key.now x.body.now

-- A list of n cells fits in both parts.
abbrev pub both_fit : ℕ → ℕ → ℕ → Bool
both_fit n l k = leb n l && leb n k

-- A sector's content is within the rule and its written form fits in both parts.
unfoldable pub sector_fits : Sector → ℕ → ℕ → Bool
sector_fits s l k = content_right s.key_bytes s.data_bytes && both_fit (length (written_sector s)) l k

-- The places from `from` up to `to` lie in both parts.
abbrev pub gap_fits : ℕ → ℕ → ℕ → ℕ → Bool
gap_fits from to l k = leb from to && both_fit to l k
