-- `next_candidate` meets its contract: the first candidate is the first of what is left.
use mathlib.Core.Path.{◌≡◌}
use Prim.Native.Nat.{◌-◌}
use lib.ListN.{length}
use Rattle.format.specs.Lent.{cells}
use Rattle.search.specs.Place.{judged_place}
use Rattle.reader.proofs.CandidateNext.{candidates_at}
use Rattle.reader.proofs.candidate.next_candidate.Given as goal

-- What holds at each turn: no candidate stands before p.
abbrev pub invariant-loop-p : goal.invariant-loop-p
invariant-loop-p l = (l.n ≡ length (cells l.track l.marks)) × (candidates_at (judged_place l.home) l.from (cells l.track l.marks) ≡ candidates_at (judged_place l.home) l.p (cells l.track l.marks))

-- What falls with each turn: the number of cells left.
abbrev pub decreases-loop-p : goal.decreases-loop-p
decreases-loop-p l = l.n - l.p
