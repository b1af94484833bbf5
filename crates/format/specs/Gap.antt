-- The gap after a data block: its bytes are free when reading, but where DL = 0 the first three may be the block's.
use Rattle.std.specs.Prelude.{ℕ, ◌+◌, ◌&&◌, List, length, eqb}
use Rattle.base.specs.Pick.{pick}
use Rattle.format.specs.Layout.{closing_length, empty_block}
use Rattle.format.specs.Opening.{starts_with}
use Rattle.format.specs.Count.{data_length}
use Rattle.format.specs.Block.{data_offset, empty_closing}

-- How many bytes its data block takes from z, where xs goes from the end of a count's opening to the end of the block and z follows: three where DL = 0, the block has seven bytes in xs
-- and z starts with FF FF CC; else none.
unfoldable pub taken_from : List ℕ → List ℕ → ℕ
taken_from xs z =
    pick (eqb (data_length xs) 0 && (eqb (length xs) (data_offset xs + empty_block) && starts_with empty_closing z)) closing_length 0
