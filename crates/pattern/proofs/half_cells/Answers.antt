-- `half_cells` meets its contract.
use native.Mathlib.Omega.{arith}
use Rattle.crc.specs.Check.{digits}
use Rattle.crc.specs.Division.{value}
use Rattle.pattern.specs.Pattern.{alternating}
use Rattle.pattern.proofs.half_cells.Goals as goal

pub returns : goal.returns
unfolding alternating digits value
returns c = record { value = omega arith; upper_bound = omega arith }
