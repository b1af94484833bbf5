-- `judge_cells` meets its contract: the first fault is that of what is left.
use mathlib.Core.Path.{sym, ◌∙◌}
use mathlib.Core.Bool.{false}
use native.Mathlib.Omega.{arith}
use Rattle.pattern.specs.Pattern.{legal_pattern}
use Rattle.bitcells.specs.Each.{each_pattern}
use Rattle.bitcells.proofs.Each.{length_pattern}
use Rattle.bitcells.proofs.Blocks.{pair_is}
use Rattle.bitcells.proofs.FirstFault.{pass, stop, end}
use Rattle.bitcells.proofs.reading.judge_cells.Goals as goal

pub returns-then-not-legal_pattern : goal.returns-then-not-legal_pattern
returns-then-not-legal_pattern c =
    let x = c.args.bit_cells.now in
    let l = c.loop-i in
    let h = pair_is legal_pattern x c.as_chunks.result.0.now l.i false c.as_chunks.ensures.front (omega arith) in
    sym (l.invariant ∙ stop c.args.p l.i (each_pattern legal_pattern x) (omega (arith, length_pattern legal_pattern x)) (sym h ∙ sym c.legal_pattern.ensures ∙ c.if-not-legal_pattern.true))

pub loop-i-preserved : goal.loop-i-preserved
loop-i-preserved c =
    let x = c.args.bit_cells.now in
    let l = c.loop-i in
    let h = pair_is legal_pattern x c.as_chunks.result.0.now l.i false c.as_chunks.ensures.front (omega arith) in
    l.invariant ∙ pass c.args.p l.i (each_pattern legal_pattern x) (omega (arith, length_pattern legal_pattern x)) (sym h ∙ sym c.legal_pattern.ensures ∙ c.if-not-legal_pattern.false)

pub returns : goal.returns
returns c =
    let x = c.args.bit_cells.now in
    sym (c.loop-i.invariant ∙ end c.args.p c.loop-i.i (each_pattern legal_pattern x) (omega (arith, length_pattern legal_pattern x)))
