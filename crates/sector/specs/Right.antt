-- Whether all tests of a sector hold, in the order in which they are tried.
use Rattle.std.specs.Prelude.{ℕ, Bool, true, false, ◌&&◌, List}
use Rattle.format.specs.Fault.{Tested, sound, faulty}
use Rattle.format.specs.Home.{Home}
use Rattle.format.specs.Count.{Settled, count_fits, count_closed, count_fields_right}
use Rattle.format.specs.Block.{blocks_fit, test_key, test_data}

-- Nothing is at fault in a block.
abbrev pub is_sound : Tested → Bool
is_sound sound = true
is_sound (faulty f) = false

-- The blocks and the least gap lie in the span, and nothing is at fault in them.
unfoldable pub blocks_right : Bool → List ℕ → Bool
blocks_right last r = blocks_fit last r && (is_sound (test_key r) && is_sound (test_data r))

-- Nothing is at fault in the sector in position i of which r follows the count's opening.
unfoldable pub sector_right : Home → ℕ → Settled → Bool → List ℕ → Bool
sector_right h i x last r = count_fits r && (count_closed r && (count_fields_right h i x r && blocks_right last r))
