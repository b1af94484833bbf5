-- `spare_clear` meets its contract: at each turn no bit passed is set.
use Rattle.std.proofs.Common.{◌∙◌, arith}
use Rattle.cylinder_reader.proofs.Marks.{spares_none, spares_pass, spares_fail}
use Rattle.cylinder_reader.proofs.unpacking.spare_clear.Goals as goal

pub returns-then-used-eq0 : goal.returns-then-used-eq0
returns-then-used-eq0 c = spares_none c.args.bytes.now c.args.l c.if-used-eq0.true

pub returns-then-bit_of-ne0 : goal.returns-then-bit_of-ne0
returns-then-bit_of-ne0 c =
    let l = c.loop-k in
    spares_fail c.args.bytes.now c.args.l l.k c.if-used-eq0.false (omega arith) (omega arith) (λ e. c.if-bit_of-ne0.true (c.bit_of.ensures ∙ e))

pub returns : goal.returns
returns c = spares_pass c.args.bytes.now c.args.l c.if-used-eq0.false (λ k h g. c.loop-k.invariant k h (omega arith))
