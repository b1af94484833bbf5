-- `put_bits` meets its contract: at each turn the bits passed are written.
use Rattle.std.proofs.Common.{◌≡◌, length, refl, sym, ◌∙◌, arith}
use lib.ListN.{drop_of_length-le}
use mathlib.Core.List.{append-nil}
use Rattle.base.specs.Indexed.{join_to, list_to}
use Rattle.base.specs.Laid.{laid_over}
use Rattle.base.proofs.Indexed.{length_list}
use Rattle.base.proofs.Filling.{list_store}
use Rattle.cylinder.specs.Packed.{bit_of}
use Rattle.cylinder_reader.proofs.unpacking.put_bits.Goals as goal

pub loop-k-init : goal.loop-k-init
unfolding laid_over join_to
loop-k-init c = refl

pub loop-k-preserved : goal.loop-k-preserved
loop-k-preserved c =
    let l = c.loop-k in
    list_store (bit_of c.args.x) l.k c.bit_of.result c.args.out.now l.out (omega arith) l.invariant c.bit_of.ensures

pub returns : goal.returns
unfolding laid_over
returns c =
    let l = c.loop-k in
    let old = c.args.out.now in
    let xs = list_to (bit_of c.args.x) (length old) in
    let e : l.k ≡ length old = omega arith in
    let n : length old ≡ length xs = sym (length_list (bit_of c.args.x) (length old)) in
    rw e at l.invariant ∙ rw (drop_of_length-le old {i = length xs} (omega arith), append-nil xs)
