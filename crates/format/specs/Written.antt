-- First-written form: of a sector, and of all from a place to index.
use Rattle.std.specs.Prelude.{ℕ, ◌+◌, ◌-◌, ◌/◌, ◌%◌, Bool, true, List, [], ◌∷◌, ◌++◌, length, replicate, leb, eqb}
use Rattle.base.specs.Pick.{pick}
use Rattle.format.specs.Layout.{gap_length, block_frame, empty_block}
use Rattle.format.specs.Answer.{Answer, done, room_missing}
use Rattle.format.specs.Judged.{Judged, good, refused, then, require}
use Rattle.format.specs.Lent.{bytes_of, marks_of}
use Rattle.format.specs.Opening.{plain_opening, marked_opening, closing}
use Rattle.format.specs.Address.{address_bytes}
use Rattle.format.specs.Block.{key_offset, key_size, least_gap}
use Rattle.format.specs.Span.{joined, none}
use Rattle.format.specs.Sector.{Sector, opening_length}

-- The gap after home.
abbrev pub home_gap : List ℕ
home_gap = replicate gap_length 0x00

-- The gap after a count and after a key: nine FF and two 00.
abbrev pub inner_gap : List ℕ
inner_gap = replicate 9 0xFF ++ replicate 2 0x00

-- The nine information bytes of a count.
unfoldable pub count_info : Sector → List ℕ
count_info s =
    (s.flag ∷ address_bytes s.address)
    ++ (s.number ∷ length s.key_bytes ∷ length s.data_bytes / 256 ∷ length s.data_bytes % 256 ∷ [])

-- A block with the information xs.
unfoldable pub written_block : List ℕ → List ℕ
written_block xs = plain_opening ++ (xs ++ closing xs)

-- The key and the gap before it; none if KL = 0.
unfoldable pub written_key : List ℕ → List ℕ
written_key xs = pick (none xs) [] (inner_gap ++ written_block xs)

-- The data block; if DL = 0 the opening and one 00.
unfoldable pub written_data : List ℕ → List ℕ
written_data xs = pick (none xs) (plain_opening ++ 0x00 ∷ []) (written_block xs)

-- What a written data block of n bytes takes: opening, information, check and closing byte; if n = 0 the opening and one 00.
unfoldable pub data_size : ℕ → ℕ
data_size n = pick (eqb n 0) empty_block (n + block_frame)

-- The opening of a count.
unfoldable pub count_opening : Bool → List ℕ
count_opening first = pick first plain_opening marked_opening

-- A sector without the gap after it: count, key and data block, with the gaps before the last two.
unfoldable pub written_sector : Sector → List ℕ
written_sector s =
    count_opening s.first
    ++ (count_info s ++ (closing (count_info s) ++ (written_key s.key_bytes ++ (inner_gap ++ written_data s.data_bytes))))

-- What a sector with a key of kl bytes and data of dl bytes takes without the gap after it.
unfoldable pub sector_size : Bool → ℕ → ℕ → ℕ
sector_size first kl dl = opening_length first + key_offset + key_size kl + data_size dl

-- The new track's bytes and marks.
pub record Pair : Type 0 where
  pub track : List ℕ
  pub marks : List ℕ

-- Cells as bytes and marks.
unfoldable pub as_pair : Judged (List ℕ) → Judged Pair
as_pair j = then j (λ c. good (record { track = bytes_of c; marks = marks_of c }))

-- What stands after a call that writes a pair: its answer, and what the lent track and marks hold.
pub record After : Type 0 where
  pub answer : Answer
  pub track : List ℕ
  pub marks : List ℕ

-- These three.
abbrev pub after : Answer → List ℕ → List ℕ → After
after a t m = record { answer = a; track = t; marks = m }

-- What a call leaves that gives j, where t and m stood before: the new pair, or where it refuses t and m as they were.
abbrev pub leaves : Judged Pair → List ℕ → List ℕ → After
leaves (good q) t m = after done q.track q.marks
leaves (refused a) t m = after a t m

-- What follows takes the gap after a block as a function of KL and DL.
module _ (gap : ℕ → ℕ → ℕ) where
  -- The length of the gap that follows the sector s.
  unfoldable pub gap_after : Sector → ℕ
  gap_after s = gap (length s.key_bytes) (length s.data_bytes)

  -- How many cells the sectors ss take from the first one's opening to the end of the last block.
  unfoldable pub reach : List Sector → ℕ
  reach [] = 0
  reach (s ∷ ss) = length (written_sector s) + pick (none ss) 0 (gap_after s + reach ss)

  -- The sectors ss as spans that fill n cells: FF after each block, after the last one to index.
  unfoldable pub written_spans : ℕ → List Sector → List (List ℕ)
  written_spans n [] = []
  written_spans n (s ∷ ss) =
      (written_sector s ++ replicate (pick (none ss) (n - length (written_sector s)) (gap_after s)) 0xFF)
      ∷ written_spans (n - (length (written_sector s) + gap_after s)) ss

  -- A track of l cells that starts with `kept` and goes on with ss: 15 where the last block would end later than l - 13.
  unfoldable pub written_behind : List ℕ → ℕ → List Sector → Judged (List ℕ)
  written_behind kept l ss =
      require (leb (length kept + reach ss + least_gap true) l) room_missing
      (good (kept ++ joined (written_spans (l - length kept) ss)))
