-- What is written for a sector behind its count's opening, read field by field.
use mathlib.Core.Path.{◌≡◌, refl, sym, ap, ◌∙◌}
use Prim.Native.Nat.{ℕ, ◌+◌, ◌≤◌}
use native.Mathlib.Nat.{div-add-mod'}
use mathlib.Core.Bool.{Bool, true, false}
use mathlib.Core.List.{List, ◌++◌, append_assoc}
use lib.ListN.{length, drop, length-append}
use lib.Seq.{drop_at}
use native.Mathlib.Omega.{arith}
use borrow.Author.Tests.{le-leb}
use Rattle.crc.specs.Check.{check_bytes}
use Rattle.format.specs.Lent.{unmarked}
use Rattle.format.specs.Opening.{starts_with, closing}
use Rattle.format.specs.Address.{address_in, address_bytes}
use Rattle.format.specs.Count.{count_flag, count_number, key_length, data_length, count_fits, count_closed}
use Rattle.format.specs.Fault.{sound}
use Rattle.format.specs.Block.{key_size, data_offset, empty_closing, block_end, least_gap, blocks_fit, test_key, test_data, key_info, data_info}
use Rattle.format.specs.Written.{data_size, inner_gap, count_info, written_key, written_data, count_opening, written_sector}
use Rattle.format.specs.Sector.{Sector, sector_in}
use Rattle.format.proofs.Cells.Opening.{unmarked_append}
use Rattle.format.proofs.Sector.BlockEnd.{end_written_lem}
use Rattle.format.proofs.Cells.Field.{closed_field, length_closing, unmarked_closing, key_right_written, key_info_written, length_key, unmarked_key, data_right_written, data_info_written, length_data, unmarked_data}

-- Count, key and data block of s, and R behind them.
unfoldable pub written_rest : Sector → List ℕ → List ℕ
written_rest s R = count_info s ++ (closing (count_info s) ++ (written_key s.key_bytes ++ (inner_gap ++ (written_data s.data_bytes ++ R))))

-- A written sector is the opening of its count and that.
pub written_form : (s : Sector) (R : List ℕ) → written_sector s ++ R ≡ count_opening s.first ++ written_rest s R
unfolding written_sector written_rest
written_form s R = simp append_assoc

length_info : (s : Sector) → length (count_info s) ≡ 9
unfolding count_info address_bytes
length_info s = refl

-- How long it is.
pub length_rest : (s : Sector) (R : List ℕ) → length (written_rest s R) ≡ 23 + key_size (length s.key_bytes) + data_size (length s.data_bytes) + length R
unfolding written_rest
length_rest s R =
    simp (length-append, length_info, length_closing, length_key, length_data) (omega arith)

-- Its count says how long the key is.
pub rest_key_length : (s : Sector) (R : List ℕ) → key_length (written_rest s R) ≡ length s.key_bytes
unfolding written_rest count_info address_bytes
rest_key_length s R = refl

-- Its count says how long the data is.
pub rest_data_length : (s : Sector) (R : List ℕ) → data_length (written_rest s R) ≡ length s.data_bytes
unfolding written_rest count_info address_bytes
rest_data_length s R = div-add-mod' (length s.data_bytes) 256

-- Its count has the address of s.
pub rest_address : (s : Sector) (R : List ℕ) → address_in (written_rest s R) ≡ s.address
unfolding written_rest count_info address_bytes address_in
rest_address s R =
    λ j. record { cylinder = div-add-mod' s.address.cylinder 256 j; head = div-add-mod' s.address.head 256 j }

-- Its count fits.
pub rest_fits : (s : Sector) (R : List ℕ) → count_fits (written_rest s R) ≡ true
unfolding count_fits
rest_fits s R = le-leb 12 (length (written_rest s R)) (omega (arith, length_rest s R))

-- Its count is closed rightly.
pub rest_closed : (s : Sector) (R : List ℕ) → count_closed (written_rest s R) ≡ true
unfolding count_closed written_rest
rest_closed s R = rw (length_info s) at (closed_field (count_info s) (written_key s.key_bytes ++ (inner_gap ++ (written_data s.data_bytes ++ R))))

rest_at_key : (s : Sector) (R : List ℕ) → drop 23 (written_rest s R) ≡ drop 11 (written_key s.key_bytes ++ (inner_gap ++ (written_data s.data_bytes ++ R)))
unfolding written_rest count_info address_bytes closing check_bytes
rest_at_key s R = refl

rest_offset : (s : Sector) (R : List ℕ) → data_offset (written_rest s R) ≡ 23 + key_size (length s.key_bytes)
unfolding data_offset
rest_offset s R = rw (rest_key_length s R)

before_data : Sector → List ℕ
before_data s = count_info s ++ (closing (count_info s) ++ (written_key s.key_bytes ++ inner_gap))

length_before_data : (s : Sector) → length (before_data s) ≡ 23 + key_size (length s.key_bytes)
unfolding before_data
length_before_data s = simp (length-append, length_info, length_closing, length_key) (omega arith)

rest_split : (s : Sector) (R : List ℕ) → written_rest s R ≡ before_data s ++ (written_data s.data_bytes ++ R)
unfolding written_rest before_data
rest_split s R = simp append_assoc

rest_at_data : (s : Sector) (R : List ℕ) → drop (data_offset (written_rest s R)) (written_rest s R) ≡ written_data s.data_bytes ++ R
rest_at_data s R =
    rw (rest_offset s R, rest_split s R)
    (drop_at (before_data s) (written_data s.data_bytes ++ R) (23 + key_size (length s.key_bytes)) (length_before_data s))

-- It reads back with the end of what is written, where R does not start with FF FF CC.
pub rest_end : (s : Sector) (R : List ℕ) → starts_with empty_closing R ≡ false → block_end (written_rest s R) ≡ 23 + key_size (length s.key_bytes) + data_size (length s.data_bytes)
rest_end s R f =
    let r : List ℕ = written_rest s R in
    end_written_lem r s.data_bytes R (rest_data_length s R) (rest_at_data s R) f ∙ ap (λ (o : ℕ). o + data_size (length s.data_bytes)) (rest_offset s R)

-- Then its blocks and the least gap fit where R is as long as that gap.
pub rest_blocks_fit : (last : Bool) (s : Sector) (R : List ℕ) → starts_with empty_closing R ≡ false → least_gap last ≤ length R → blocks_fit last (written_rest s R) ≡ true
unfolding blocks_fit
rest_blocks_fit last s R f h =
    let r : List ℕ = written_rest s R in
    le-leb (block_end r + least_gap last) (length r) (omega (arith, rest_end s R f, length_rest s R))

-- Its key is sound.
pub rest_key_right : (s : Sector) (R : List ℕ) → test_key (written_rest s R) ≡ sound
unfolding test_key
rest_key_right s R = rw (rest_key_length s R, rest_at_key s R) (key_right_written s.key_bytes (written_data s.data_bytes ++ R))

-- Its data block is sound.
pub rest_data_right : (s : Sector) (R : List ℕ) → test_data (written_rest s R) ≡ sound
unfolding test_data
rest_data_right s R = rw (rest_data_length s R, rest_at_data s R) (data_right_written s.data_bytes R)

rest_key_info : (s : Sector) (R : List ℕ) → key_info (written_rest s R) ≡ s.key_bytes
unfolding key_info
rest_key_info s R = rw (rest_key_length s R, rest_at_key s R) (key_info_written s.key_bytes (written_data s.data_bytes ++ R))

rest_data_info : (s : Sector) (R : List ℕ) → data_info (written_rest s R) ≡ s.data_bytes
unfolding data_info
rest_data_info s R = rw (rest_data_length s R, rest_at_data s R) (data_info_written s.data_bytes R)

-- Its count has the flag of s.
pub rest_flag : (s : Sector) (R : List ℕ) → count_flag (written_rest s R) ≡ s.flag
unfolding written_rest count_info
rest_flag s R = refl

rest_number : (s : Sector) (R : List ℕ) → count_number (written_rest s R) ≡ s.number
unfolding written_rest count_info address_bytes
rest_number s R = refl

-- The sector that it shows is s.
pub rest_sector : (s : Sector) (R : List ℕ) → s ≡ sector_in s.first (written_rest s R)
unfolding sector_in
rest_sector s R =
    sym (λ j. record {
      first = s.first;
      flag = rest_flag s R j;
      address = rest_address s R j;
      number = rest_number s R j;
      key_bytes = rest_key_info s R j;
      data_bytes = rest_data_info s R j;
    })

-- It is unmarked where the count's bytes, key, data and R are.
pub rest_unmarked : (s : Sector) (R : List ℕ) → unmarked (count_info s) ≡ true → unmarked s.key_bytes ≡ true → unmarked s.data_bytes ≡ true → unmarked R ≡ true
    → unmarked (written_rest s R) ≡ true
unfolding written_rest unmarked
rest_unmarked s R c k d r =
    let A : List ℕ = written_data s.data_bytes ++ R in
    let a : unmarked A ≡ true = unmarked_append (written_data s.data_bytes) R (unmarked_data s.data_bytes d) r in
    let B : List ℕ = written_key s.key_bytes ++ (inner_gap ++ A) in
    let b : unmarked B ≡ true = unmarked_append (written_key s.key_bytes) (inner_gap ++ A) (unmarked_key s.key_bytes k) a in
    unmarked_append (count_info s) (closing (count_info s) ++ B) c (unmarked_append (closing (count_info s)) B (unmarked_closing (count_info s)) b)
