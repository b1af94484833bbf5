-- List: an accepted track's sectors as records for the caller's list.
use Rattle.std.specs.Prelude.{ℕ, ◌+◌, ◌-◌, List, map, length, leb, eqb}
use Rattle.base.specs.Pick.{pick}
use Rattle.format.specs.Layout.{plain_length}
use Rattle.format.specs.Answer.{lent_wrong}
use Rattle.format.specs.Judged.{Judged, good, then, require}
use Rattle.format.specs.Block.{key_offset, key_size}
use Rattle.format.specs.Sector.{opening_length}
use Rattle.format.specs.Accept.{Placed, end_of, accept}

-- A sector record: flag, S, KL, DL, the places of the information, the byte after the block's opening, where the data block ends, and the gap behind it.
pub record Listed : Type 0 where
  pub flag : ℕ
  pub number : ℕ
  pub key_length : ℕ
  pub data_length : ℕ
  -- 0 where KL = 0.
  pub key_place : ℕ
  pub data_place : ℕ
  -- The place after the last byte of the data block.
  pub end : ℕ
  -- How many bytes follow it up to the next count's opening, or to index behind the last sector.
  pub gap : ℕ

-- The place of the first block's information, behind the count's opening, the count, a gap and its own opening.
abbrev pub first_info_place : Placed → ℕ
first_info_place x = x.place + opening_length x.sector.first + key_offset + plain_length

-- The place behind the span of a sector: where the next count opens, or index behind the last.
abbrev pub next_place : Placed → ℕ
next_place x = x.place + length x.span

-- The record of a sector.
unfoldable pub listed : Placed → Listed
listed x =
    let k = length x.sector.key_bytes in
    record {
      flag = x.sector.flag;
      number = x.sector.number;
      key_length = k;
      data_length = length x.sector.data_bytes;
      key_place = pick (eqb k 0) 0 (first_info_place x);
      data_place = first_info_place x + key_size k;
      end = end_of x;
      gap = next_place x - end_of x;
    }

-- No track holds more sectors.
abbrev pub most_sectors : ℕ
most_sectors = 67

-- The records for a list of n: 1 for a list under 67 before anything else, then Accept's own answers.
unfoldable pub list : ℕ → List ℕ → List ℕ → Judged (List Listed)
list n t m = require (leb most_sectors n) lent_wrong (then (accept t m) (λ a. good (map listed a.sectors)))
