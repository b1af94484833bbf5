-- `first_opens_at` meets its contract: the place by home, then the opening.
use mathlib.Core.Path.{sym, ◌∙◌}
use native.Mathlib.Omega.{arith}
use Rattle.format.specs.Candidate.{first_opens_at}
use Rattle.reader.proofs.CandidateParts.{first_elsewhere, first_here}
use Rattle.reader.proofs.candidate.first_opens_at.Goals as goal
use Rattle.reader.proofs.candidate.first_opens_at.Goals.{then-p-lt-HOME_TO_COUNT-via-then-p-lt-HOME_TO_COUNT, then-p-lt-HOME_TO_COUNT-via-else-p-lt-HOME_TO_COUNT+then-p-h}

pub returns-then-p-lt-HOME_TO_COUNT : goal.returns-then-p-lt-HOME_TO_COUNT
returns-then-p-lt-HOME_TO_COUNT c =
    rw c.in-Some.is
    (sym (first_elsewhere _ _ _
    (λ q. elim c.then-p-lt-HOME_TO_COUNT.branch [ then-p-lt-HOME_TO_COUNT-via-then-p-lt-HOME_TO_COUNT w ↦ omega arith | then-p-lt-HOME_TO_COUNT-via-else-p-lt-HOME_TO_COUNT+then-p-h w ↦ w.if-p-h.true (omega arith) ])))

pub returns-else-p-h : goal.returns-else-p-h
returns-else-p-h c = rw c.in-Some.is (c.opens_plain.ensures ∙ sym (first_here _ _ _ (omega arith)))

pub returns-in-None : goal.returns-in-None
unfolding first_opens_at
returns-in-None c = rw c.in-None.is
