-- `data_half` meets its contract.
use native.Mathlib.Omega.{arith}
use Rattle.crc.specs.Check.{digits}
use Rattle.crc.specs.Division.{value}
use Rattle.pattern.specs.Pattern.{data_cells}
use Rattle.pattern.proofs.data_half.Goals as goal

pub returns : goal.returns
unfolding data_cells digits value
returns c = (omega arith, omega arith)
