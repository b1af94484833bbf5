-- `put_table` meets its contract: the entries of the tracks passed lie over the front.
use mathlib.Core.Path.{◌≡◌, refl, sym, ap, ◌∙◌}
use Prim.Native.Nat.{ℕ, ◌*◌}
use native.Mathlib.Omega.{arith}
use lib.ListN.{length}
use Rattle.base.specs.Laid.{laid_over}
use Rattle.base.specs.Indexed.{sum_to, join_to}
use Rattle.base.proofs.Indexed.{sum_const}
use Rattle.base.proofs.Filling.{fill_more}
use Rattle.cylinder.specs.Cylinder.{length_of}
use Rattle.cylinder.specs.File.{offset_of, entry, table}
use Rattle.cylinder.proofs.Sound.{offset_next}
use Rattle.cylinder.proofs.Sizes.{length_entry}
use Rattle.cylinder_writer.proofs.put_table.Goals as goal

pub loop-k-init : goal.loop-k-init
unfolding laid_over offset_of sum_to join_to
loop-k-init c = (omega arith, omega arith, refl)

pub loop-k-preserved : goal.loop-k-preserved
unfolding entry
loop-k-preserved c =
    let a = c.args in
    let ls = a.lengths.items.now in
    let l = c.loop-k in
    let q = rw l.invariant.0 at c.put_entry.ensures in
    let x = fill_more (entry (length ls) (length_of ls)) (λ j. 6) l.k (l.k * 6) a.out.now l.out c.put_entry.new.out (sym (sum_const 6 l.k)) (λ j b. length_entry (length ls) (length_of ls) j)
    (omega arith) l.invariant.2 q in
    (omega (arith, offset_next (length ls) (length_of ls) l.k), omega arith, x.1)

pub returns : goal.returns
unfolding table
returns c =
    let a = c.args in
    let ls = a.lengths.items.now in
    let l = c.loop-k in
    let n : l.k ≡ length ls = omega arith in
    l.invariant.2 ∙ ap (λ (i : ℕ). laid_over (join_to (entry (length ls) (length_of ls)) i) a.out.now) n
