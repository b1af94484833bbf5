-- `write_head` meets its contract: each refusal before anything is written.
use mathlib.Core.Path.{sym}
use native.Mathlib.Omega.{arith}
use Rattle.base.proofs.Laid.{laid_as}
use Rattle.encode.proofs.Sectors.{head_bytes, head_marks}
use Rattle.encode.proofs.write_head.Goals as goal

pub returns-clause-bytes : goal.returns-clause-bytes
returns-clause-bytes c =
    let a = c.args in
    laid_as _ _ a.track.now _ (sym (head_bytes a.flag a.cylinder a.head (omega arith) (omega arith) (omega arith))) c.put_head.ensures

pub returns-clause-marks : goal.returns-clause-marks
returns-clause-marks c =
    let a = c.args in
    laid_as _ _ a.marks.now _ (sym (head_marks a.flag a.cylinder a.head (omega arith) (omega arith) (omega arith))) c.put_run.ensures.bytes
