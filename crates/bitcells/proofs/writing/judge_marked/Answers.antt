-- `judge_marked` meets its contract: the first fault is that of what is left.
use mathlib.Core.Path.{sym, ap, ◌∙◌}
use Prim.Native.Nat.{ℕ, ◌*◌, ◌/◌, ◌<◌}
use native.Mathlib.Omega.{arith}
use mathlib.Core.List.{List, []}
use lib.ListN.{length, get_or, take, drop}
use Rattle.std.proofs.lemmas.Result.{err_from_is_err_and}
use Rattle.base.proofs.Lists.{cut_is}
use Rattle.pattern.specs.Pattern.{recordable}
use Rattle.bitcells.specs.Each.{each_byte, judge_each}
use Rattle.bitcells.proofs.Blocks.{bytes_pass, bytes_stop, block_bytes, unmarked_recordable}
use Rattle.bitcells.proofs.writing.judge_marked.Goals as goal
use Rattle.bitcells.proofs.writing.judge_marked.Goals.{then-not-all_equal+in_ok-judge_bytes, else-not-all_equal}

pub returns-in_err-judge_bytes : goal.returns-in_err-judge_bytes
returns-in_err-judge_bytes c =
    let t = c.args.track.now in
    let m = c.args.marks.now in
    let bs = c.as_chunks.result.0.now in
    let l = c.loop-k in
    let p = err_from_is_err_and c.from_residual.result c.from_residual.ensures.1 in
    let h : l.k < length m / 32 = omega (arith, c.as_chunks.ensures.front_len) in
    let j = ap (λ (z : List ℕ). judge_each (32 * l.k) (each_byte recordable z (get_or bs l.k []))) (sym (cut_is (32 * l.k) 32 t)) in
    rw (p.1, p.2) (sym (l.invariant ∙ bytes_stop t m bs l.k c.requires c.as_chunks.ensures.front h _ (j ∙ sym c.in_err-judge_bytes.ensures)))

pub loop-k-preserved : goal.loop-k-preserved
loop-k-preserved c =
    let t = c.args.track.now in
    let m = c.args.marks.now in
    let bs = c.as_chunks.result.0.now in
    let l = c.loop-k in
    let h : l.k < length m / 32 = omega (arith, c.as_chunks.ensures.front_len) in
    let j = ap (λ (z : List ℕ). judge_each (32 * l.k) (each_byte recordable z (get_or bs l.k []))) (sym (cut_is (32 * l.k) 32 t)) in
    let pass = bytes_pass t m bs l.k c.requires c.as_chunks.ensures.front h in
    elim c.if-not-all_equal.branch [
      | then-not-all_equal+in_ok-judge_bytes w ↦ l.invariant ∙ pass (j ∙ sym w.in_ok-judge_bytes.ensures)
      | else-not-all_equal w ↦
          let bytes = block_bytes m bs l.k c.as_chunks.ensures.front h (λ i. omega (arith, c.type_inv.marks i)) in
          l.invariant ∙ pass (unmarked_recordable (32 * l.k) (take 32 (drop (32 * l.k) t)) (get_or bs l.k []) bytes (sym w.if-not-all_equal.ensures))
    ]
