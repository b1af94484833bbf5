-- C and H: the address of a track, in home and in counts.
use Rattle.std.specs.Prelude.{ℕ, ◌+◌, ◌*◌, ◌/◌, ◌%◌, Bool, not, ◌&&◌, List, [], ◌∷◌, get_or, leb, eqb}
use Rattle.base.specs.Pick.{pick}
use Rattle.format.specs.Flag.{names_itself}

-- Which track of a pack: C, the cylinder, and H, the head.
pub record Address : Type 0 where
  pub cylinder : ℕ
  pub head : ℕ

-- The number that two bytes store, most significant first.
abbrev pub word : ℕ → ℕ → ℕ
word hi lo = hi * 256 + lo

-- The address that the information xs of home or of a count has in its second to fifth byte.
unfoldable pub address_in : List ℕ → Address
address_in xs = record { cylinder = word (get_or xs 1 0) (get_or xs 2 0); head = word (get_or xs 3 0) (get_or xs 4 0) }

-- Its four bytes as stored.
unfoldable pub address_bytes : Address → List ℕ
address_bytes a = a.cylinder / 256 ∷ a.cylinder % 256 ∷ a.head / 256 ∷ a.head % 256 ∷ []

-- Cylinder 0 to 202, head 0 to 9.
unfoldable pub address_in_range : Address → Bool
address_in_range a = leb a.cylinder 202 && leb a.head 9

-- Both name the same track.
unfoldable pub same_address : Address → Address → Bool
same_address a b = eqb a.cylinder b.cylinder && eqb a.head b.head

-- What C and H of counts are on the track `own` whose flag is f: its own for 00 and 11; for 01 and 10 those of a partner, in range and different.
unfoldable pub address_right : ℕ → Address → Address → Bool
address_right f own a = pick (names_itself f) (same_address a own) (address_in_range a && not (same_address a own))
