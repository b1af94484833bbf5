-- `judge_key` meets its contract: the test picks the answer, whose place is where the key opens.
use mathlib.Core.Path.{ap}
use Prim.Native.Nat.{ℕ, ◌+◌}
use Rattle.std.proofs.Common.{rules}
use Rattle.format.specs.Blocks.{the_key}
use Rattle.format.specs.Sector.{opening_length}
use Rattle.sector.proofs.BlocksJudged.{part_told}
use Rattle.sector.proofs.blocks.judge_key.Goals as goal

pub returns : goal.returns
returns c =
    let a = c.args in
    part_told the_key (a.p + opening_length a.first) a.r.now _ _ (λ f e k. search rules) c.test_key.result c.map_err.result
    (ap (λ (n : ℕ). a.p + n + 23) c.opening_length.ensures.value)
    c.test_key.ensures
    c.map_err.ensures.cases
