-- `write_cells` meets its contract: at each turn the cell bytes of the bytes passed are written.
use mathlib.Core.Path.{◌≡◌, sym, ap, ◌∙◌}
use Prim.Native.Nat.{ℕ, ◌+◌, ◌*◌}
use native.Mathlib.Omega.{arith}
use lib.ListN.{set}
use Rattle.bitcells.specs.ToCells.{written_cells}
use Rattle.bitcells.proofs.Each.{length_written, get_d_first, get_d_second}
use Rattle.base.proofs.Filled.{filled, filled_more, filled_all}
use Rattle.bitcells.proofs.writing.write_cells.Goals as goal

pub loop-i-preserved : goal.loop-i-preserved
loop-i-preserved c =
    let a = c.args in
    let t = a.track.now in
    let m = a.marks.now in
    let old = a.bit_cells.now in
    let l = c.loop-i in
    let all = written_cells t m in
    let n = length_written t m in
    let u = c.first_cells in
    let w = c.second_cells in
    let one : set l.bit_cells (2 * l.i) u.result ≡ filled all (2 * l.i + 1) old =
    filled_more all old l.bit_cells (2 * l.i) u.result 0 (omega arith) (omega arith) l.invariant (u.ensures ∙ sym (get_d_first t m l.i (omega arith) (omega arith))) in
    let two = filled_more all old (set l.bit_cells (2 * l.i) u.result) (2 * l.i + 1) w.result 0 (omega arith) (omega arith) one (w.ensures ∙ sym (get_d_second t m l.i (omega arith) (omega arith))) in
    let k : 2 * l.i + 1 + 1 ≡ 2 * (l.i + 1) = omega arith in
    two ∙ ap (λ (z : ℕ). filled all z old) k

pub returns : goal.returns
returns c =
    let a = c.args in
    let l = c.loop-i in
    filled_all (written_cells a.track.now a.marks.now) a.bit_cells.now l.bit_cells (2 * l.i)
    (omega (arith, length_written a.track.now a.marks.now)) (omega arith) l.invariant
