-- The pieces of an accepted track from index to index, each as long as the layout says, and each gap behind a data block as long as its sector record says.
use Rattle.std.specs.Prelude.{◌≡◌, ℕ, ◌+◌, ◌-◌, ◌≤◌, Bool, true, false, List, [], ◌∷◌, ◌++◌, length, take, drop, eqb}
use Rattle.base.specs.Pick.{pick}
use Rattle.format.specs.Layout.{plain_length, gap_length, home_length, count_tail, block_frame}
use Rattle.format.specs.Lent.{unmarked}
use Rattle.format.specs.Opening.{starts_with}
use Rattle.format.specs.Count.{count_flag, count_number, key_length, data_length}
use Rattle.format.specs.Block.{empty_size, least_gap}
use Rattle.format.specs.Span.{none}
use Rattle.format.specs.Sector.{opening_length}
use Rattle.format.specs.Listing.{Listed}
use Rattle.format.specs.Written.{count_opening}

-- A count with its opening: 18 bytes in sector 0, else 20.
abbrev pub count_length : Bool → ℕ
count_length first = opening_length first + count_tail

-- A key of n bytes with its opening, check and closing byte, and the gap after it; no piece where KL = 0.
unfoldable pub key_pieces : ℕ → List ℕ
key_pieces n = pick (eqb n 0) [] ((n + block_frame) ∷ gap_length ∷ [])

-- Where the data block of a record opens.
abbrev pub block_opening : Listed → ℕ
block_opening r = r.data_place - plain_length

-- What the cells c of the track hold from there up to the end of the record's gap.
abbrev pub block_cells : List ℕ → Listed → List ℕ
block_cells c r = take (r.end + r.gap - block_opening r) (drop (block_opening r) c)

-- The data block of a record: opening, information, check and closing byte; if DL = 0 seven or ten bytes, by these cells.
unfoldable pub block_length : List ℕ → Listed → ℕ
block_length c r = pick (eqb r.data_length 0) (empty_size (block_cells c r)) (r.data_length + block_frame)

-- The pieces of a sector: count, gap, key and its gap, data block, and the gap that its record gives.
unfoldable pub sector_pieces : List ℕ → Bool → Listed → List ℕ
sector_pieces c first r = count_length first ∷ gap_length ∷ (key_pieces r.key_length ++ block_length c r ∷ r.gap ∷ [])

-- Those of sectors with the records rs, where `first` says that sector 0 is the first of them.
unfoldable pub record_pieces : List ℕ → Bool → List Listed → List ℕ
record_pieces c first [] = []
record_pieces c first (r ∷ rs) = sector_pieces c first r ++ record_pieces c false rs

-- The pieces of a track whose home starts at p: what stands before home, home, its gap, and the sectors.
unfoldable pub track_pieces : List ℕ → ℕ → List Listed → List ℕ
track_pieces c p rs = p ∷ home_length ∷ gap_length ∷ record_pieces c true rs

-- What they add up to.
abbrev pub total : List ℕ → ℕ
total [] = 0
total (n ∷ ns) = n + total ns

-- What follows the opening of the count at place p of the cells c.
abbrev pub count_at : List ℕ → Bool → ℕ → List ℕ
count_at c first p = drop (p + opening_length first) c

-- The record r is that of the sector whose count opens at place p of the cells c; `last` says that no other follows.
pub record RecordAt (c : List ℕ) (first last : Bool) (p : ℕ) (r : Listed) : Type 0 where
  pub count_opens : starts_with (count_opening first) (drop p c) ≡ true
  -- What this count says.
  pub flag_is : r.flag ≡ count_flag (count_at c first p)
  pub number_is : r.number ≡ count_number (count_at c first p)
  pub key_length_is : r.key_length ≡ key_length (count_at c first p)
  pub data_length_is : r.data_length ≡ data_length (count_at c first p)
  -- The places of the information, behind the pieces before it and the block's opening.
  pub key_place_holds : r.key_place ≡ pick (eqb r.key_length 0) 0 (p + count_length first + gap_length + plain_length)
  pub data_place_holds : r.data_place ≡ p + count_length first + gap_length + total (key_pieces r.key_length) + plain_length
  -- The end of the data block; the gap behind it is the least one or longer, and has no mark, so that no count opens in it.
  pub end_place : r.end ≡ p + count_length first + gap_length + total (key_pieces r.key_length) + block_length c r
  pub gap_least : least_gap last ≤ r.gap
  pub gap_unmarked : unmarked (take r.gap (drop r.end c)) ≡ true

-- The records rs are those of the sectors from place p on: end and gap of each lead to the opening of the next one's count, and those of the last to index.
abbrev pub Following : List ℕ → Bool → ℕ → List Listed → Type 0
Following c first p [] = p ≡ length c
Following c first p (r ∷ rs) = RecordAt c first (none rs) p r × Following c false (r.end + r.gap) rs

-- The gaps behind sectors with the records rs where all of them are written afresh on a track of l bytes: by a function of KL and DL, behind the last one to index.
unfoldable pub gaps_by : (ℕ → ℕ → ℕ) → ℕ → List Listed → List ℕ
gaps_by gap l [] = []
gaps_by gap l (r ∷ rs) = pick (none rs) (l - r.end) (gap r.key_length r.data_length) ∷ gaps_by gap l rs
