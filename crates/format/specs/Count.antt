-- The count of a sector, read from what follows its opening: flag, C, H, S, KL, DL, check and closing byte, 12 bytes.
use Rattle.std.specs.Prelude.{ℕ, Bool, ◌&&◌, List, length, get_or, leb}
use Rattle.format.specs.Layout.{count_tail, count_info_length}
use Rattle.format.specs.Opening.{closed_after}
use Rattle.format.specs.Flag.{count_flag_right}
use Rattle.format.specs.Address.{Address, word, address_in, address_right, same_address}
use Rattle.format.specs.Home.{Home}

-- The flag.
abbrev pub count_flag : List ℕ → ℕ
count_flag r = get_or r 0 0

-- C and H.
abbrev pub count_address : List ℕ → Address
count_address r = address_in r

-- S, which names the sector.
abbrev pub count_number : List ℕ → ℕ
count_number r = get_or r 5 0

-- KL.
abbrev pub key_length : List ℕ → ℕ
key_length r = get_or r 6 0

-- DL.
abbrev pub data_length : List ℕ → ℕ
data_length r = word (get_or r 7 0) (get_or r 8 0)

-- The count lies in its span, of which r is what follows the opening.
unfoldable pub count_fits : List ℕ → Bool
count_fits r = leb count_tail (length r)

-- Its check and closing byte are right.
unfoldable pub count_closed : List ℕ → Bool
count_closed r = closed_after count_info_length r

-- What sector 0's count settles for the later ones: the C and H that all counts of the track share.
pub data Settled : Type 0 where
  unsettled : Settled
  settled : Address → Settled

-- C and H of a count: sector 0's by the flag of home, a later one's as sector 0's.
unfoldable pub count_address_right : Home → Settled → Address → Bool
count_address_right h unsettled a = address_right h.flag h.address a
count_address_right h (settled b) a = same_address a b

-- Flag, C and H of the count in position i are within the rule.
unfoldable pub count_fields_right : Home → ℕ → Settled → List ℕ → Bool
count_fields_right h i x r = count_flag_right h.flag i (count_flag r) && count_address_right h x (count_address r)
