-- The bytes of a count against its numbers, and that the sector in unmarked cells with right fields is valid.
use mathlib.Core.Path.{◌≡◌, refl}
use Prim.Native.Nat.{ℕ, ◌/◌, ◌%◌, ◌≤◌, ◌<◌}
use mathlib.Core.Bool.{Bool, true}
use mathlib.Core.List.{List}
use lib.ListN.{length, drop, length-take}
use native.Mathlib.Omega.{arith}
use borrow.Author.Tests.{lt-ltb}
use Rattle.format.specs.Lent.{unmarked}
use Rattle.format.specs.Flag.{count_flag_right}
use Rattle.format.specs.Address.{address_in, address_bytes}
use Rattle.format.specs.Home.{Home}
use Rattle.format.specs.Count.{Settled, count_flag, key_length, data_length, count_address_right, count_fields_right}
use Rattle.format.specs.Block.{data_offset, block_info, key_info, data_info}
use Rattle.format.specs.Sector.{Sector, is_first, sector_in}
use Rattle.format.specs.Written.{count_info}
use Rattle.format.proofs.Spans.Shape.{Valid}
use Rattle.base.proofs.Tests.{and_both}
use Rattle.format.proofs.Cells.Opening.{unmarked_take, unmarked_drop, unmarked_at}

-- The numbers of a sector fit the bytes of its count.
pub record FitsCount (s : Sector) : Type 0 where
  pub flag_fits : s.flag < 256
  pub cylinder_fits : s.address.cylinder < 65536
  pub head_fits : s.address.head < 65536
  pub number_fits : s.number < 256
  pub key_fits : length s.key_bytes < 256
  pub data_fits : length s.data_bytes < 65536

-- Then these bytes are unmarked.
pub info_unmarked : (s : Sector) → FitsCount s → unmarked (count_info s) ≡ true
unfolding count_info address_bytes unmarked
info_unmarked s f =
    simp (
      lt-ltb s.flag 256 f.flag_fits,
      lt-ltb (s.address.cylinder / 256) 256 (omega arith),
      lt-ltb (s.address.cylinder % 256) 256 (omega arith),
      lt-ltb (s.address.head / 256) 256 (omega arith),
      lt-ltb (s.address.head % 256) 256 (omega arith),
      lt-ltb s.number 256 f.number_fits,
      lt-ltb (length s.key_bytes) 256 f.key_fits,
      lt-ltb (length s.data_bytes / 256) 256 (omega arith),
      lt-ltb (length s.data_bytes % 256) 256 (omega arith),
    )

-- Only then.
pub info_fits : (s : Sector) → unmarked (count_info s) ≡ true → FitsCount s
unfolding count_info address_bytes
info_fits s u =
    record {
      flag_fits = unmarked_at (count_info s) 0 u;
      cylinder_fits = omega (arith, unmarked_at (count_info s) 1 u);
      head_fits = omega (arith, unmarked_at (count_info s) 3 u);
      number_fits = unmarked_at (count_info s) 5 u;
      key_fits = unmarked_at (count_info s) 6 u;
      data_fits = omega (arith, unmarked_at (count_info s) 7 u);
    }

key_info_short : (r : List ℕ) → length (key_info r) ≤ key_length r
unfolding key_info block_info
key_info_short r = simp length-take (omega arith)

data_info_short : (r : List ℕ) → length (data_info r) ≤ data_length r
unfolding data_info block_info
data_info_short r = simp length-take (omega arith)

key_info_unmarked : (r : List ℕ) → unmarked r ≡ true → unmarked (key_info r) ≡ true
unfolding key_info block_info
key_info_unmarked r u = unmarked_take (key_length r) (drop 6 (drop 23 r)) (unmarked_drop 6 (drop 23 r) (unmarked_drop 23 r u))

data_info_unmarked : (r : List ℕ) → unmarked r ≡ true → unmarked (data_info r) ≡ true
unfolding data_info block_info
data_info_unmarked r u =
    let n : ℕ = data_offset r in
    unmarked_take (data_length r) (drop 6 (drop n r)) (unmarked_drop 6 (drop n r) (unmarked_drop n r u))

sector_fits_lem : (first : Bool) (r : List ℕ) → unmarked r ≡ true → FitsCount (sector_in first r)
unfolding sector_in address_in
sector_fits_lem first r u =
    record {
      flag_fits = unmarked_at r 0 u;
      cylinder_fits = omega (arith, unmarked_at r 1 u, unmarked_at r 2 u);
      head_fits = omega (arith, unmarked_at r 3 u, unmarked_at r 4 u);
      number_fits = unmarked_at r 5 u;
      key_fits = omega (arith, key_info_short r, unmarked_at r 6 u);
      data_fits = omega (arith, data_info_short r, unmarked_at r 7 u, unmarked_at r 8 u);
    }

-- The sector in unmarked cells whose fields are right is valid.
pub sector_valid : (h : Home) (i : ℕ) (x : Settled) (r : List ℕ) → unmarked r ≡ true → count_fields_right h i x r ≡ true → Valid h i x (sector_in (is_first i) r)
unfolding count_fields_right sector_in
sector_valid h i x r u e =
    let f = and_both (count_flag_right h.flag i (count_flag r)) (count_address_right h x (address_in r)) e in
    record {
      position = refl;
      flag_right = f.0;
      address_right_holds = f.1;
      count_bytes_holds = info_unmarked (sector_in (is_first i) r) (sector_fits_lem (is_first i) r u);
      key_bytes_holds = key_info_unmarked r u;
      data_bytes_holds = data_info_unmarked r u;
    }
