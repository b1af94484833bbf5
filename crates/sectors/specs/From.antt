-- The sectors of a track from a place on, as a loop steps over them.
use Rattle.std.specs.Prelude.{◌≡◌, ℕ, ◌+◌, ◌≤◌, ◌<◌, Bool, List, [], ◌∷◌, length, take, drop}
use Rattle.format.specs.Layout.{longest_track}
use Rattle.format.specs.Lent.{cells}
use Rattle.format.specs.Block.{key_offset, key_size, least_gap}
use Rattle.format.specs.Span.{none}
use Rattle.format.specs.Sector.{opening_length}
use Rattle.format.specs.Accept.{Placed, end_of}
use Rattle.format.specs.Listing.{listed}
use Rattle.format.specs.Written.{data_size}
use Rattle.sectors.specs.SectorAt.{opens_first, sector_at}

-- The sector x stands at place p of the track t with the marks m, and `last` says that its span runs to index.
pub record Stepping (t m : List ℕ) (p : ℕ) (x : Placed) (last : Bool) : Type 0 where
  pub place_is : x.place ≡ p
  pub place_least : 48 ≤ p
  pub first_is : x.sector.first ≡ opens_first p
  -- The fields of the count at p.
  pub flag_is : (sector_at p (cells t m)).flag ≡ x.sector.flag
  pub address_is : (sector_at p (cells t m)).address ≡ x.sector.address
  pub number_is : (sector_at p (cells t m)).number ≡ x.sector.number
  pub key_length_is : (sector_at p (cells t m)).key_length ≡ length x.sector.key_bytes
  pub data_length_is : (sector_at p (cells t m)).data_length ≡ length x.sector.data_bytes
  -- The places.
  pub key_place_is : (sector_at p (cells t m)).key_place ≡ (listed x).key_place
  pub data_place_is : (sector_at p (cells t m)).data_place ≡ (listed x).data_place
  pub end_is : (sector_at p (cells t m)).end ≡ end_of x
  pub next_is : (sector_at p (cells t m)).next ≡ p + length x.span
  pub last_is : (sector_at p (cells t m)).last ≡ last
  -- The bytes of the key and of the data in the track.
  pub key_bytes_holds : take (length x.sector.key_bytes) (drop (listed x).key_place t) ≡ x.sector.key_bytes
  pub data_bytes_holds : take (length x.sector.data_bytes) (drop (listed x).data_place t) ≡ x.sector.data_bytes
  -- KL and DL fit their bytes, and the places lie in their order within the track.
  pub key_fits : length x.sector.key_bytes ≤ 255
  pub data_fits : length x.sector.data_bytes ≤ 65535
  pub key_inside : (listed x).key_place + length x.sector.key_bytes ≤ (listed x).data_place
  pub data_inside : (listed x).data_place + length x.sector.data_bytes < end_of x
  -- The sector takes no less than its written form.
  pub end_size : p + opening_length (opens_first p) + key_offset + key_size (length x.sector.key_bytes) + data_size (length x.sector.data_bytes) ≤ end_of x
  pub gap_inside : end_of x + least_gap last ≤ p + length x.span
  pub end_inside : end_of x + 13 ≤ p + length x.span
  pub span_least : 49 ≤ length x.span
  pub span_inside : p + length x.span ≤ length (cells t m)

-- From place p on the track t with the marks m has exactly the sectors xs.
abbrev pub SectorsFrom : List ℕ → List ℕ → ℕ → List Placed → Type 0
SectorsFrom t m p [] = p ≡ length (cells t m)
SectorsFrom t m p (x ∷ xs) = Stepping t m p x (none xs) × SectorsFrom t m (p + length x.span) xs

-- A track of at most 4,002 bytes, lent with as many marks, has sectors from place p on.
pub record Remaining (t m : List ℕ) (p : ℕ) : Type 0 where
  pub sectors : List Placed
  pub steps : SectorsFrom t m p sectors
  pub cells_length : length (cells t m) ≡ length t
  pub length_most : length t ≤ longest_track
