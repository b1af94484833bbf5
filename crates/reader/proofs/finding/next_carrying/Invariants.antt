-- `next_carrying` meets its contract: what carries S is what carries it of what is left.
use mathlib.Core.Path.{◌≡◌}
use Prim.Native.Nat.{◌-◌}
use lib.ListN.{length}
use Rattle.format.specs.Lent.{cells}
use Rattle.format.specs.Find.{carrying}
use Rattle.search.specs.Place.{judged_place}
use Rattle.reader.proofs.CandidateNext.{candidates_at}
use Rattle.reader.proofs.finding.next_carrying.Given as goal

-- What holds at each turn: no candidate before p carries s.
abbrev pub invariant-loop-x : goal.invariant-loop-x
invariant-loop-x l = carrying l.s (candidates_at (judged_place l.home) l.from (cells l.track l.marks)) ≡ carrying l.s (candidates_at (judged_place l.home) l.p (cells l.track l.marks))

-- What falls with each turn: the number of cells left.
abbrev pub decreases-loop-x : goal.decreases-loop-x
decreases-loop-x l = length (cells l.track l.marks) - l.p
