-- `judge_patterns` meets its contract: the first fault is that of what is left.
use mathlib.Core.Path.{sym, ◌∙◌}
use Prim.Native.Nat.{◌*◌, ◌/◌, ◌<◌}
use native.Mathlib.Omega.{arith}
use mathlib.Core.List.{[]}
use lib.ListN.{length, get_or}
use Rattle.std.proofs.lemmas.Result.{err_from_is_err_and}
use Rattle.bitcells.proofs.Blocks.{cells_pass, cells_stop, block_bytes, clocked_legal}
use Rattle.bitcells.proofs.reading.judge_patterns.Goals as goal
use Rattle.bitcells.proofs.reading.judge_patterns.Goals.{then-not-all_equal+in_ok-judge_cells, else-not-all_equal}

pub returns-in_err-judge_cells : goal.returns-in_err-judge_cells
returns-in_err-judge_cells c =
    let x = c.args.bit_cells.now in
    let l = c.loop-k in
    let p = err_from_is_err_and c.from_residual.result c.from_residual.ensures.1 in
    let h : l.k < length x / 32 = omega (arith, c.as_chunks.ensures.front_len) in
    rw (p.1, p.2) (sym (l.invariant ∙ cells_stop x c.as_chunks.result.0.now l.k c.as_chunks.ensures.front h _ (sym c.in_err-judge_cells.ensures)))

pub loop-k-preserved : goal.loop-k-preserved
loop-k-preserved c =
    let x = c.args.bit_cells.now in
    let bs = c.as_chunks.result.0.now in
    let l = c.loop-k in
    let h : l.k < length x / 32 = omega (arith, c.as_chunks.ensures.front_len) in
    let pass = cells_pass x bs l.k c.as_chunks.ensures.front h in
    elim c.if-not-all_equal.branch [
      | then-not-all_equal+in_ok-judge_cells w ↦ l.invariant ∙ pass (sym w.in_ok-judge_cells.ensures)
      | else-not-all_equal w ↦
          let bytes = block_bytes x bs l.k c.as_chunks.ensures.front h (λ i. omega (arith, c.type_inv.bit_cells i)) in
          l.invariant ∙ pass (clocked_legal (16 * l.k) (get_or bs l.k []) bytes (sym w.if-not-all_equal.ensures))
    ]
