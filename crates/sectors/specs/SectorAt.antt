-- The sector whose count opens at a place of a track, and where the next one starts.
use Rattle.std.specs.Prelude.{◌≡◌, ℕ, ◌+◌, Bool, true, List, drop, leb, eqb}
use Rattle.base.specs.Pick.{pick}
use Rattle.format.specs.Layout.{longest_track, home_last, plain_length, home_to_count}
use Rattle.format.specs.Address.{Address}
use Rattle.format.specs.Count.{count_flag, count_address, count_number, key_length, data_length}
use Rattle.format.specs.Block.{key_offset, data_offset, block_end}
use Rattle.format.specs.Span.{runs_to_index, span_length, span_rest}
use Rattle.format.specs.Sector.{opening_length}
use Rattle.sector.specs.As.{as_address}
use Rattle.sectors.specs.declared.SectorAt.{SectorAt as SectorCode}
use Rattle.sectors.specs.declared.steps.Step.{Step as StepCode}

-- The fields of a count, the places of the information, where the data block ends, where the next span starts, and does this one run to index?
pub record SectorAt : Type 0 where
  pub flag : ℕ
  -- S.
  pub number : ℕ
  pub key_length : ℕ
  pub data_length : ℕ
  -- 0 where KL = 0.
  pub key_place : ℕ
  pub data_place : ℕ
  pub end : ℕ
  pub next : ℕ
  pub last : Bool
  -- C and H.
  pub address : Address

-- The sector of which r follows the count's opening from place q on, where the next span starts at `next`.
unfoldable pub sector_fields : ℕ → ℕ → Bool → List ℕ → SectorAt
sector_fields q next last r =
    record {
      flag = count_flag r;
      number = count_number r;
      key_length = key_length r;
      data_length = data_length r;
      key_place = pick (eqb (key_length r) 0) 0 (q + key_offset + plain_length);
      data_place = q + data_offset r + plain_length;
      end = q + block_end r;
      next = next;
      last = last;
      address = count_address r;
    }

-- Behind the longest track there is no sector.
abbrev pub nowhere : SectorAt
nowhere =
    record {
      flag = 0;
      number = 0;
      key_length = 0;
      data_length = 0;
      key_place = 0;
      data_place = 0;
      end = 0;
      next = 0;
      last = true;
      address = record { cylinder = 0; head = 0 };
    }

-- The last place at which sector 0's count opens: home starts at 37 at the latest and has 14 bytes, and 11 follow it.
abbrev pub last_first_count : ℕ
last_first_count = home_last + home_to_count

-- The count that opens at place p is sector 0's: every later one opens behind the last place of sector 0's.
unfoldable pub opens_first : ℕ → Bool
opens_first p = leb p last_first_count

-- The rest of the span of the count that opens at place p.
unfoldable pub rest_at : ℕ → List ℕ → List ℕ
rest_at p c = span_rest (opening_length (opens_first p)) (drop p c)

-- The sector whose count opens at place p of the cells c; no place is above 4,002, the largest L.
unfoldable pub sector_at : ℕ → List ℕ → SectorAt
sector_at p c =
    let o = opening_length (opens_first p) in
    pick (leb p longest_track) (sector_fields (p + o) (p + span_length o (drop p c)) (runs_to_index o (drop p c)) (rest_at p c)) nowhere

-- What a value of the code says.
abbrev pub as_sector_at : SectorCode → SectorAt
as_sector_at s =
    record {
      flag = s.flag;
      number = s.number;
      key_length = s.key_length;
      data_length = s.data_length;
      key_place = s.key_place;
      data_place = s.data_place;
      end = s.end;
      next = s.next;
      last = s.last;
      address = as_address s.address;
    }

-- A step tells these fields of the sector at place p of the cells c.
abbrev pub StepsOver : StepCode → ℕ → List ℕ → Type 0
StepsOver s p c = (s.number ≡ (sector_at p c).number) × (s.next ≡ (sector_at p c).next) × (s.last ≡ (sector_at p c).last)
