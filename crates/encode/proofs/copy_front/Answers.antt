-- `copy_front` meets its contract.
use mathlib.Core.Path.{◌∙◌}
use lib.ListN.{take}
use Rattle.base.proofs.Laid.{laid_front}
use Rattle.encode.proofs.copy_front.Goals as goal

pub returns-clause-bytes : goal.returns-clause-bytes
returns-clause-bytes c =
    let a = c.args in
    let one = c.put_bytes in
    one.ensures.bytes ∙ laid_front (take a.n a.old.now) a.new.now
