-- `data_in` meets its contract.
use native.Mathlib.Omega.{arith}
use Rattle.crc.specs.Check.{digits}
use Rattle.crc.specs.Division.{value}
use Rattle.pattern.specs.Pattern.{data_cells, data_in}
use Rattle.pattern.proofs.data_in.Goals as goal

pub returns : goal.returns
unfolding data_in data_cells digits value
returns c =
    let high = c.data_half.ensures in
    let low = c.data_half-2.ensures in
    omega (arith, high.0, low.0)
