-- `judge_data` meets its contract: the test picks the answer, whose place is where the data block opens.
use mathlib.Core.Path.{ap₂}
use Prim.Native.Nat.{ℕ, ◌+◌}
use Rattle.std.proofs.Common.{rules}
use Rattle.format.specs.Blocks.{the_data}
use Rattle.format.specs.Sector.{opening_length}
use Rattle.sector.proofs.BlocksJudged.{part_told}
use Rattle.sector.proofs.blocks.judge_data.Goals as goal

pub returns : goal.returns
returns c =
    let a = c.args in
    part_told the_data (a.p + opening_length a.first) a.r.now _ _ (λ f e k. search rules) c.test_data.result c.map_err.result
    (ap₂ (λ (n k : ℕ). a.p + n + k) c.opening_length.ensures.value c.data_offset.ensures.value)
    c.test_data.ensures
    c.map_err.ensures.cases
