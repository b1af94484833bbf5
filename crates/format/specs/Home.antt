-- Home: 14 bytes that start 23 to 37 bytes after index.
use Rattle.std.specs.Prelude.{ℕ, zero, suc, ◌+◌, ◌-◌, Bool, ◌&&◌, List, take, drop, get_or}
use Rattle.base.specs.Pick.{pick}
use Rattle.format.specs.Layout.{home_first, home_last, plain_length, home_tail, home_info_length, home_to_count}
use Rattle.format.specs.Answer.{home_missing, home_check_wrong, home_fields_wrong}
use Rattle.format.specs.Judged.{Judged, good, refused, then, require}
use Rattle.format.specs.Lent.{bytes_of}
use Rattle.format.specs.Opening.{starts_with, plain_opening, closed_after}
use Rattle.format.specs.Flag.{home_flag_right}
use Rattle.format.specs.Address.{Address, address_in, address_in_range}

-- The first of the n places from p on at which home opens: all six opening bytes agree and are unmarked.
unfoldable pub home_from : ℕ → ℕ → List ℕ → Judged ℕ
home_from zero p c = refused home_missing
home_from (suc n) p c = let later = home_from n (suc p) c in pick (starts_with plain_opening (drop p c)) (good p) later

-- Home's place: the window is the starts 23 to 37.
unfoldable pub find_home : List ℕ → Judged ℕ
find_home c = home_from (suc home_last - home_first) home_first c

-- The bytes after the opening of home at p: flag, C and H, check and closing byte.
unfoldable pub home_bytes : ℕ → List ℕ → List ℕ
home_bytes p c = bytes_of (take home_tail (drop (p + plain_length) c))

-- What home says of the track, with the place at which home opens.
pub record Home : Type 0 where
  pub place : ℕ
  pub flag : ℕ
  pub address : Address

-- The home at p of the bytes r that follow its opening.
unfoldable pub home_of : ℕ → List ℕ → Home
home_of p r = record { place = p; flag = get_or r 0 0; address = address_in r }

-- Flag, C and H of home are within the rule.
unfoldable pub home_fields_right : Home → Bool
home_fields_right h = home_flag_right h.flag && address_in_range h.address

-- What is judged of it: 3 where its check or closing byte is wrong, then 4.
unfoldable pub judge_home_of : ℕ → List ℕ → Judged Home
judge_home_of p r =
    require (closed_after home_info_length r) (home_check_wrong p)
    (require (home_fields_right (home_of p r)) (home_fields_wrong p)
    (good (home_of p r)))

-- Home opens, its check and closing byte are right, and so are its fields: answers 2, 3 and 4.
unfoldable pub judge_home : List ℕ → Judged Home
judge_home c = then (find_home c) (λ p. judge_home_of p (home_bytes p c))

-- Sector 0's count opens 11 bytes after home, which has 14.
abbrev pub first_count_place : ℕ → ℕ
first_count_place p = p + home_to_count
