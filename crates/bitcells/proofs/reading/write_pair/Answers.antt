-- `write_pair` meets its contract: at each turn the bytes and marks passed are written.
use mathlib.Core.Path.{◌∙◌}
use native.Mathlib.Omega.{arith}
use Rattle.pattern.specs.Pattern.{data_in, mark_in}
use Rattle.bitcells.specs.Each.{each_pattern}
use Rattle.bitcells.proofs.Each.{length_pattern}
use Rattle.bitcells.proofs.Blocks.{pair_is}
use Rattle.base.proofs.Filled.{filled_more, filled_all}
use Rattle.bitcells.proofs.reading.write_pair.Goals as goal

pub loop-i-preserved : goal.loop-i-preserved
loop-i-preserved c =
    let a = c.args in
    let x = a.bit_cells.now in
    let ps = c.as_chunks.result.0.now in
    let l = c.loop-i in (
      filled_more (each_pattern data_in x) a.track.now l.track l.i c.data_in.result 0
          (omega (arith, length_pattern data_in x)) (omega arith) l.invariant.0 (c.data_in.ensures ∙ pair_is data_in x ps l.i 0 c.as_chunks.ensures.front (omega arith)),
      filled_more (each_pattern mark_in x) a.marks.now l.marks l.i c.mark_in.result 0
          (omega (arith, length_pattern mark_in x)) (omega arith) l.invariant.1 (c.mark_in.ensures ∙ pair_is mark_in x ps l.i 0 c.as_chunks.ensures.front (omega arith)),
    )

pub returns : goal.returns
returns c =
    let a = c.args in
    let x = a.bit_cells.now in
    let l = c.loop-i in record {
      bytes = filled_all (each_pattern data_in x) a.track.now l.track l.i (omega (arith, length_pattern data_in x)) (omega arith) l.invariant.0;
      marks = filled_all (each_pattern mark_in x) a.marks.now l.marks l.i (omega (arith, length_pattern mark_in x)) (omega arith) l.invariant.1;
    }
