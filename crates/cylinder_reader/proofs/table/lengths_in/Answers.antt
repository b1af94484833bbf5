-- `lengths_in` meets its contract: the Ls of the tracks passed are written.
use Rattle.std.proofs.Common.{◌≡◌, take, refl, ap, ◌∙◌, arith, length-set}
use lib.Seq.{take_at}
use Rattle.base.specs.Indexed.{join_to, list_to}
use Rattle.base.specs.Laid.{laid_over}
use Rattle.base.proofs.Indexed.{length_list}
use Rattle.base.proofs.Filling.{list_store}
use Rattle.cylinder.specs.Reading.{length_in}
use Rattle.cylinder_reader.specs.Reading.{lengths_in}
use Rattle.cylinder_reader.proofs.table.lengths_in.Goals as goal

pub loop-k-init : goal.loop-k-init
unfolding join_to laid_over
loop-k-init c = (refl, refl)

pub loop-k-preserved : goal.loop-k-preserved
loop-k-preserved c =
    let l = c.loop-k in
    (length-set l.lengths l.k c.length_in.result ∙ l.invariant.0, list_store (length_in c.args.file.now) l.k c.length_in.result _ l.lengths (omega arith) l.invariant.1 c.length_in.ensures)

pub returns : goal.returns
unfolding lengths_in laid_over
returns c =
    let l = c.loop-k in
    let n = c.args.n in
    let f = c.args.file.now in
    let e : l.k ≡ n = omega arith in
    let i = rw e at l.invariant.1 in
    ap (take n) i ∙ take_at (list_to (length_in f) n) _ n (length_list (length_in f) n) ∙ rw c.requires.n_value
