-- `part_in` meets its contract: the part lies behind the opening of the block asked for.
use mathlib.Core.Path.{ap, ap₂, ◌∙◌}
use Prim.Native.Nat.{ℕ, ◌+◌}
use native.Mathlib.Omega.{arith}
use Rattle.format.specs.Blocks.{part_at}
use Rattle.format.proofs.Sector.BlockEnd.{offset_lt}
use Rattle.sector.proofs.MeasuredLemmas.{key_length_in, data_length_in, data_offset_in}
use Rattle.reader.proofs.finding.part_in.Goals as goal

pub overflow_add-q-in-TheData : goal.overflow_add-q-in-TheData
overflow_add-q-in-TheData c =
    let r = c.args.r.now in
    omega (arith, data_offset_in _ r c.measured_in-blocks.ensures, offset_lt r (omega (arith, c.type_inv.r 6)))

pub overflow_add-q-in-TheData-2 : goal.overflow_add-q-in-TheData-2
overflow_add-q-in-TheData-2 c =
    let r = c.args.r.now in
    omega (arith, data_offset_in _ r c.measured_in-blocks.ensures, offset_lt r (omega (arith, c.type_inv.r 6)))

pub returns-in-TheKey : goal.returns-in-TheKey
returns-in-TheKey c =
    let a = c.args in
    rw c.in-TheKey.is (c.part_at.ensures ∙ ap (part_at (a.q + 23 + 6)) (key_length_in _ a.r.now c.measured_in-blocks.ensures))

pub returns-in-TheData : goal.returns-in-TheData
returns-in-TheData c =
    let a = c.args in
    let e = c.measured_in-blocks.ensures in
    rw c.in-TheData.is
    (c.part_at-in-TheData.ensures ∙ ap₂ (λ (o n : ℕ). part_at (a.q + o + 6) n) (data_offset_in _ a.r.now e) (data_length_in _ a.r.now e))
