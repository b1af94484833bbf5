-- List into the caller's records: which are filled, with what, and what stays.
use Rattle.std.specs.Prelude.{ℕ, ◌-◌, List, [], ◌++◌, map, length, drop, leb, Result, Ok, Err}
use Rattle.format.specs.declared.Refusal.{Refusal}
use Rattle.format.specs.Answer.{as_refusal, lent_wrong}
use Rattle.format.specs.Judged.{Judged, good, refused, then, require, value_or}
use Rattle.format.specs.Home.{first_count_place}
use Rattle.format.specs.Accept.{accept}
use Rattle.format.specs.Listing.{Listed, most_sectors, list}
use Rattle.sectors.specs.SectorAt.{SectorAt, sector_at}
use Rattle.listing.specs.declared.Sector.{Sector}
use Rattle.listing.specs.declared.SectorNext.{SectorNext}
use Rattle.listing.specs.declared.Begun.{Begun}

-- What a record of the code says.
abbrev pub as_listed : Sector → Listed
as_listed s =
    record {
      flag = s.flag;
      number = s.number;
      key_length = s.key_length;
      data_length = s.data_length;
      key_place = s.key_place;
      data_place = s.data_place;
      end = s.end;
      gap = s.gap;
    }

-- What a list of them says.
abbrev pub as_records : List Sector → List Listed
as_records xs = map as_listed xs

-- The records of an outcome: none where it is refused.
abbrev pub records_of : Judged (List Listed) → List Listed
records_of j = value_or [] j

-- The caller's list after the call: the records of the outcome, and behind them what stood there.
unfoldable pub filled : Judged (List Listed) → List Listed → List Listed
filled j old = records_of j ++ drop (length (records_of j)) old

-- The record of a sector that is come to.
abbrev pub as_sector : SectorAt → Sector
as_sector v =
    record {
      flag = v.flag;
      number = v.number;
      key_length = v.key_length;
      data_length = v.data_length;
      key_place = v.key_place;
      data_place = v.data_place;
      end = v.end;
      gap = v.next - v.end;
    }

-- The record of the sector whose count opens at place p of the cells c, and the place at which the next count opens.
abbrev pub record_at : List ℕ → ℕ → SectorNext
record_at c p = record { sector = as_sector (sector_at p c); next = (sector_at p c).next }

-- The place of sector 0's count on an accepted track.
unfoldable pub first_count : List ℕ → List ℕ → Judged ℕ
first_count t m = then (accept t m) (λ a. good (first_count_place a.home.place))

-- The same for a list of n; 0 where the list or the track is refused.
unfoldable pub first_for : ℕ → List ℕ → List ℕ → ℕ
first_for n t m = value_or 0 (require (leb most_sectors n) lent_wrong (first_count t m))

-- What the code has settled, or the answer that refuses.
abbrev pub judged_begun : Result Begun Refusal → Judged Begun
judged_begun (Ok b) = good b
judged_begun (Err e) = refused (as_refusal e)

-- What is settled before any record is filled: the number of records of the outcome, and the place of sector 0's count; or the answer that refuses.
abbrev pub begun : ℕ → List ℕ → List ℕ → Judged Begun
begun n t m = then (list n t m) (λ rs. good (record { count = length rs; first = first_for n t m }))

-- A record of a list that no sector has filled yet.
abbrev pub empty : Sector
empty = record { flag = 0; number = 0; key_length = 0; data_length = 0; key_place = 0; data_place = 0; end = 0; gap = 0 }
