-- `sector_in` meets its contract: KL and DL are bytes, so that no sum is too large.
use mathlib.Core.Path.{◌≡◌, refl, ap}
use Prim.Native.Nat.{ℕ, ◌+◌}
use native.Mathlib.Omega.{arith}
use lib.Dec.{eqb}
use Rattle.base.specs.Pick.{pick}
use Rattle.format.specs.Block.{key_offset}
use Rattle.format.proofs.Sector.BlockEnd.{offset_lt, end_lt}
use Rattle.sector.proofs.MeasuredLemmas.{key_length_in, data_length_in, data_offset_in, end_in_lem}
use Rattle.sectors.proofs.Rest.{key_place_none, key_place_some, fields_made}
use Rattle.sectors.proofs.sector_in.Goals as goal
use Rattle.sectors.proofs.sector_in.Goals.{then-key_length-eq0, else-key_length-eq0}

pub overflow_add-end : goal.overflow_add-end
overflow_add-end c =
    let g = c.type_inv.r in
    let r = c.args.r.now in
    omega (arith, end_in_lem _ r c.measured_in-blocks.ensures, end_lt r (omega (arith, g 6)) (omega (arith, g 7)) (omega (arith, g 8)))

pub overflow_add-result : goal.overflow_add-result
overflow_add-result c =
    let r = c.args.r.now in
    omega (arith, data_offset_in _ r c.measured_in-blocks.ensures, offset_lt r (omega (arith, c.type_inv.r 6)))

pub overflow_add-result-2 : goal.overflow_add-result-2
overflow_add-result-2 c =
    let r = c.args.r.now in
    omega (arith, data_offset_in _ r c.measured_in-blocks.ensures, offset_lt r (omega (arith, c.type_inv.r 6)))

pub returns : goal.returns
returns c =
    let a = c.args in
    let e = c.measured_in-blocks.ensures in
    let k = c.measured_in-blocks.result.key_length in
    let v = c.if-key_length-eq0.key_place in
    let w : v ≡ pick (eqb k 0) 0 (a.q + key_offset + 6) =
    elim c.if-key_length-eq0.branch [ then-key_length-eq0 w ↦ key_place_none k a.q v w.if-key_length-eq0.true w.key_place-is | else-key_length-eq0 w ↦ key_place_some k a.q v w.if-key_length-eq0.false w.key_place-is ] in
    fields_made a.q a.next a.last a.r.now _
    c.byte_at.ensures
    c.byte_at-2.ensures
    (key_length_in _ a.r.now e)
    (data_length_in _ a.r.now e)
    w
    (ap (λ (z : ℕ). a.q + z + 6) (data_offset_in _ a.r.now e))
    (ap (λ (z : ℕ). a.q + z) (end_in_lem _ a.r.now e))
    refl
    refl
    c.address_in.ensures
