-- The key and the data block of a sector, read from what follows its count's opening.
use Rattle.std.specs.Prelude.{ℕ, ◌+◌, Bool, List, [], ◌∷◌, length, take, drop, leb, eqb}
use Rattle.base.specs.Pick.{pick}
use Rattle.format.specs.Layout.{plain_length, count_to_block, block_frame, key_frame, empty_block, closed_empty_block}
use Rattle.format.specs.Opening.{starts_with, plain_opening, check_follows, closing_follows}
use Rattle.format.specs.Count.{key_length, data_length}
use Rattle.format.specs.Fault.{opening_wrong, check_wrong, closing_wrong, Tested, sound, demand}

-- The key's opening comes 11 bytes after the count's 12.
abbrev pub key_offset : ℕ
key_offset = count_to_block

-- What a key of n bytes takes: none, or its opening, information, check, closing byte and the 11 bytes after it.
unfoldable pub key_size : ℕ → ℕ
key_size n = pick (eqb n 0) 0 (n + key_frame)

-- Where the data block opens: behind a gap of 11, which follows the key, or the count of a sector without one.
unfoldable pub data_offset : List ℕ → ℕ
data_offset r = key_offset + key_size (key_length r)

-- What a data block where DL = 0 may go on with: check and closing byte of its 00.
abbrev pub empty_closing : List ℕ
empty_closing = 0xFF ∷ 0xFF ∷ 0xCC ∷ []

-- What such a block takes, where c is the rest of its span from the block's opening on: ten bytes if FF FF CC stands in c behind the place of the 00, whatever that holds; else seven.
unfoldable pub empty_size : List ℕ → ℕ
empty_size c = pick (starts_with empty_closing (drop empty_block c)) closed_empty_block empty_block

-- Where the data block that is read ends: behind its opening, information, check and closing byte; if DL = 0 behind seven or ten bytes.
unfoldable pub block_end : List ℕ → ℕ
block_end r = data_offset r + pick (eqb (data_length r) 0) (empty_size (drop (data_offset r) r)) (data_length r + block_frame)

-- The least gap after the block: 13 where the span runs to index, else 21.
unfoldable pub least_gap : Bool → ℕ
least_gap last = pick last 13 21

-- The blocks and the least gap lie in the span.
unfoldable pub blocks_fit : Bool → List ℕ → Bool
blocks_fit last r = leb (block_end r + least_gap last) (length r)

-- A block of n information bytes: its opening is tried first, then its check, then its closing byte.
unfoldable pub test_block : ℕ → List ℕ → Tested
test_block n c =
    demand (starts_with plain_opening c) opening_wrong
    (demand (check_follows n (drop plain_length c)) check_wrong
    (demand (closing_follows n (drop plain_length c)) closing_wrong
    sound))

-- The information of such a block.
unfoldable pub block_info : ℕ → List ℕ → List ℕ
block_info n c = take n (drop plain_length c)

-- The data block where DL = 0: its opening, then one 00, which counts as its check.
unfoldable pub test_empty : List ℕ → Tested
test_empty c =
    demand (starts_with plain_opening c) opening_wrong
    (demand (starts_with (0x00 ∷ []) (drop plain_length c)) check_wrong
    sound)

-- The key; none where KL = 0, and nothing to be at fault.
unfoldable pub test_key : List ℕ → Tested
test_key r = pick (eqb (key_length r) 0) sound (test_block (key_length r) (drop key_offset r))

-- The data block; if DL = 0 its opening and one 00, and no more is looked at.
unfoldable pub test_data : List ℕ → Tested
test_data r =
    let c = drop (data_offset r) r in
    pick (eqb (data_length r) 0) (test_empty c) (test_block (data_length r) c)

-- The key's information; none where KL = 0.
unfoldable pub key_info : List ℕ → List ℕ
key_info r = block_info (key_length r) (drop key_offset r)

-- The data's information; none where DL = 0.
unfoldable pub data_info : List ℕ → List ℕ
data_info r = block_info (data_length r) (drop (data_offset r) r)
