-- A sector, and how it is read from its own span and nothing else.
use Rattle.std.specs.Prelude.{ℕ, zero, suc, ◌+◌, Bool, true, false, ◌&&◌, List, drop, length, leb}
use Rattle.base.specs.Pick.{pick}
use Rattle.format.specs.Layout.{plain_length, marked_length}
use Rattle.format.specs.Answer.{first_count_missing, count_check_wrong, count_fields_wrong, span_too_short}
use Rattle.format.specs.Judged.{Judged, good, then, require}
use Rattle.format.specs.Opening.{starts_with, plain_opening}
use Rattle.format.specs.Address.{Address}
use Rattle.format.specs.Home.{Home}
use Rattle.format.specs.Count.{Settled, unsettled, settled, count_flag, count_address, count_number, count_fits, count_closed, count_fields_right}
use Rattle.format.specs.Block.{key_info, data_info}
use Rattle.format.specs.Blocks.{blocks_at, judge_fit}

-- A sector: what its count says, and the information of its key and its data block.
pub record Sector : Type 0 where
  -- Is it sector 0, whose count opens unmarked?
  pub first : Bool
  pub flag : ℕ
  pub address : Address
  -- S.
  pub number : ℕ
  pub key_bytes : List ℕ
  pub data_bytes : List ℕ

-- A key of at most 255 bytes and data of at most 65,535.
unfoldable pub content_right : List ℕ → List ℕ → Bool
content_right key body = leb (length key) 255 && leb (length body) 65535

-- The length of the opening of a count: six bytes in sector 0, else eight.
abbrev pub opening_length : Bool → ℕ
opening_length first = pick first plain_length marked_length

-- The sector that stands in position 0 of a track is sector 0.
abbrev pub is_first : ℕ → Bool
is_first zero = true
is_first (suc i) = false

-- The sector whose span goes on with r after the count's opening.
unfoldable pub sector_in : Bool → List ℕ → Sector
sector_in first r =
    record {
      first = first;
      flag = count_flag r;
      address = count_address r;
      number = count_number r;
      key_bytes = key_info r;
      data_bytes = data_info r;
    }

-- Sector 0 settles C and H.
unfoldable pub settle : Settled → Sector → Settled
settle unsettled s = settled s.address
settle (settled a) s = settled a

-- The count at p, in position i, of which r follows the opening: 9 where it does not fit, then 7, then 8.
unfoldable pub judge_count : Home → ℕ → Settled → ℕ → List ℕ → Judged (Unit {0})
judge_count h i x p r =
    require (count_fits r) (span_too_short p)
    (require (count_closed r) (count_check_wrong p)
    (require (count_fields_right h i x r) (count_fields_wrong p)
    (good tt)))

-- Its blocks, where `last` says that the span runs to index: 9 for them and the least gap, then 10, then 11.
unfoldable pub read_blocks : Bool → ℕ → Bool → List ℕ → Judged Sector
read_blocks first p last r =
    let b = blocks_at (p + opening_length first) r in
    then (judge_fit p last r) (λ _.
    then b.key (λ _.
    then b.body (λ _.
    good (sector_in first r))))

-- The sector in position i and at place p by what follows its count's opening: its count, then its blocks.
unfoldable pub judge_sector : Home → ℕ → Settled → ℕ → Bool → List ℕ → Judged Sector
judge_sector h i x p last r = then (judge_count h i x p r) (λ _. read_blocks (is_first i) p last r)

-- The sector in position i whose span is g: 6 where sector 0's count does not open, then what follows its opening.
unfoldable pub read_span : Home → ℕ → Settled → ℕ → Bool → List ℕ → Judged Sector
read_span h zero x p last g = require (starts_with plain_opening g) (first_count_missing p) (judge_sector h 0 x p last (drop plain_length g))
read_span h (suc i) x p last g = judge_sector h (suc i) x p last (drop marked_length g)
