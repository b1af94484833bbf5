-- Blank: a new track that has home at place 30 and sector 0 behind it.
use Rattle.std.specs.Prelude.{ℕ, Bool, true, ◌&&◌, List, [], ◌∷◌, ◌++◌, replicate, leb}
use Rattle.base.specs.Pick.{pick}
use Rattle.format.specs.Layout.{index_gap_length}
use Rattle.format.specs.Answer.{lent_wrong, wanted_wrong}
use Rattle.format.specs.Judged.{Judged, require}
use Rattle.format.specs.Lent.{lent_for_writing}
use Rattle.format.specs.Flag.{names_itself}
use Rattle.format.specs.Address.{Address, address_bytes, address_in_range, address_right}
use Rattle.format.specs.Sector.{Sector, content_right}
use Rattle.format.specs.GapRule.{gap_one}
use Rattle.format.specs.Written.{home_gap, written_block, written_behind, Pair, as_pair}

-- What the count names: the track itself for flags 00 and 11, where the partner is ignored.
unfoldable pub named_by : ℕ → Address → Address → Address
named_by flag own partner = pick (names_itself flag) own partner

-- The wanted fields are within the rule.
unfoldable pub blank_right : Address → ℕ → Address → List ℕ → List ℕ → Bool
blank_right own flag partner key body =
    ((address_in_range own && leb flag 3) && address_right flag own (named_by flag own partner)) && content_right key body

-- Home with the gaps before and after it.
unfoldable pub written_head : ℕ → Address → List ℕ
written_head flag own = replicate index_gap_length 0x00 ++ (written_block (flag ∷ address_bytes own) ++ home_gap)

-- Sector 0.
unfoldable pub blank_sector : ℕ → Address → ℕ → List ℕ → List ℕ → Sector
blank_sector flag a s key body = record { first = true; flag = flag; address = a; number = s; key_bytes = key; data_bytes = body }

-- A pair of lengths l and k: 1, 14, 15.
unfoldable pub blank : ℕ → ℕ → Address → ℕ → Address → ℕ → List ℕ → List ℕ → Judged Pair
blank l k own flag partner s key body =
    require (lent_for_writing l k) lent_wrong
    (require (blank_right own flag partner key body) wanted_wrong
    (as_pair (written_behind gap_one (written_head flag own) l (blank_sector flag (named_by flag own partner) s key body ∷ []))))
