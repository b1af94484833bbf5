-- The lengths that the layout of a track is made of, in bytes.
use Rattle.std.specs.Prelude.{ℕ, ◌+◌}

-- The least and the greatest L.
abbrev pub shortest_track : ℕ
shortest_track = 3815

abbrev pub longest_track : ℕ
longest_track = 4002

-- The first and the last place at which home starts.
abbrev pub home_first : ℕ
home_first = 23

abbrev pub home_last : ℕ
home_last = 37

-- The opening of home, of sector 0's count, of keys and of data blocks.
abbrev pub plain_length : ℕ
plain_length = 6

-- The opening of a later count.
abbrev pub marked_length : ℕ
marked_length = 8

-- The information of home: flag, C and H.
abbrev pub home_info_length : ℕ
home_info_length = 5

-- The information of a count: flag, C, H, S, KL and DL.
abbrev pub count_info_length : ℕ
count_info_length = 9

-- A check.
abbrev pub check_length : ℕ
check_length = 2

-- What closes a field: its check and the closing byte.
abbrev pub closing_length : ℕ
closing_length = 3

-- The gap after home, after a count and after a key.
abbrev pub gap_length : ℕ
gap_length = 11

-- Home behind its opening, and home as a whole: 8 and 14.
abbrev pub home_tail : ℕ
home_tail = home_info_length + closing_length

abbrev pub home_length : ℕ
home_length = plain_length + home_tail

-- A count behind its opening: 12.
abbrev pub count_tail : ℕ
count_tail = count_info_length + closing_length

-- Sector 0's count as a whole: 18.
abbrev pub first_count_length : ℕ
first_count_length = plain_length + count_tail

-- From home's start to the opening of sector 0's count: 25.
abbrev pub home_to_count : ℕ
home_to_count = home_length + gap_length

-- From the end of a count's opening to the opening of its key, or of its data block where it has no key: 23.
abbrev pub count_to_block : ℕ
count_to_block = count_tail + gap_length

-- What a block takes besides its information: 9.
abbrev pub block_frame : ℕ
block_frame = plain_length + closing_length

-- What a key takes besides its information, with the gap after it: 20.
abbrev pub key_frame : ℕ
key_frame = block_frame + gap_length

-- The data block where DL = 0, its opening and one 00: 7.
abbrev pub empty_block : ℕ
empty_block = plain_length + 1

-- The same where it goes on with check and closing byte: 10.
abbrev pub closed_empty_block : ℕ
closed_empty_block = empty_block + closing_length

-- The gap before home, and all that stands before sector 0's count, on a track that Blank writes: 30 and 55.
abbrev pub index_gap_length : ℕ
index_gap_length = 30

abbrev pub head_length : ℕ
head_length = index_gap_length + home_to_count
