-- A burst in one field of an accepted track, and the answer to it: the words of the laws on short bursts.
use Rattle.std.specs.Prelude.{◌≡◌, ℕ, ◌+◌, true, List, take, drop}
use Rattle.base.specs.Lists.{Member}
use Rattle.crc.specs.Check.{coefficients}
use Rattle.crc.specs.Burst.{Burst}
use Rattle.format.specs.Layout.{plain_length, home_info_length, count_info_length, check_length}
use Rattle.format.specs.Fault.{check_wrong}
use Rattle.format.specs.Answer.{Answer, home_check_wrong, count_check_wrong}
use Rattle.format.specs.Lent.{unmarked}
use Rattle.format.specs.Blocks.{Wanted, offset_of, length_of, wrong_at}
use Rattle.format.specs.Accept.{Placed, placed_rest, placed_start, Accepted}

-- A field of a track: that of home, or that of the count, the key or the data block of a sector.
pub data Field : Type 0 where
  of_home : Field
  of_count : Placed → Field
  of_block : Wanted → Placed → Field

-- The accepted track a has the field: the sector is one of its sectors, and the key or the data is not empty.
abbrev pub HasField : Accepted → Field → Type 0
HasField a of_home = Unit {0}
HasField a (of_count x) = Member x a.sectors
HasField a (of_block w x) = Member x a.sectors × (length_of w (placed_rest x) ≡ 0 → ⊥)

-- The place of the opening before a field.
abbrev pub opening_place : Accepted → Field → ℕ
opening_place a of_home = a.home.place
opening_place a (of_count x) = x.place
opening_place a (of_block w x) = placed_start x + offset_of w (placed_rest x)

-- The place of its first information byte.
abbrev pub info_place : Accepted → Field → ℕ
info_place a of_home = opening_place a of_home + plain_length
info_place a (of_count x) = placed_start x
info_place a (of_block w x) = opening_place a (of_block w x) + plain_length

-- How many information bytes it has: home 5, a count 9, and a key or data what the count of its sector says.
abbrev pub info_length : Field → ℕ
info_length of_home = home_info_length
info_length (of_count x) = count_info_length
info_length (of_block w x) = length_of w (placed_rest x)

-- The answer that refuses it for its check: 3, 7, or for a block 10 or 11 with the second number of the check, at the opening before it.
abbrev pub check_answer : Accepted → Field → Answer
check_answer a of_home = home_check_wrong (opening_place a of_home)
check_answer a (of_count x) = count_check_wrong (opening_place a (of_count x))
check_answer a (of_block w x) = wrong_at w check_wrong (opening_place a (of_block w x))

-- Its information and check on the track t.
abbrev pub checked_on : Accepted → Field → List ℕ → List ℕ
checked_on a f t = take (info_length f + check_length) (drop (info_place a f) t)

-- The lists t and u are the same before place q and from place q + n on.
pub record SameBut (q n : ℕ) (t u : List ℕ) : Type 0 where
  pub before : take q u ≡ take q t
  pub behind : drop (q + n) u ≡ drop (q + n) t

-- A burst of sixteen bits in information and check of the field f makes the track u of the track t, which is accepted as a.
pub record BurstIn (a : Accepted) (f : Field) (t u : List ℕ) : Type 0 where
  -- What stands there on u are bytes.
  pub bytes : unmarked (checked_on a f u) ≡ true
  -- Nothing else is altered.
  pub same : SameBut (info_place a f) (info_length f + check_length) t u
  -- The bits that are altered.
  pub burst : Burst 16 (coefficients (checked_on a f t)) (coefficients (checked_on a f u))
