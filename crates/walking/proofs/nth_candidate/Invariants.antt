-- `nth_candidate`: the reader is the one that so many steps of a new reader have left.
use Rattle.std.proofs.Common.{◌≡◌}
use Rattle.format.specs.Lent.{lent_for_reading}
use Rattle.walking.proofs.Visits.{reached}
use Rattle.walking.proofs.nth_candidate.Given as goal

abbrev pub invariant-loop : goal.invariant-loop
invariant-loop l = record {
  track : l.walk.track.now ≡ l.track;
  marks : l.walk.marks.now ≡ l.marks;
  at : l.walk.at ≡ reached l.counter 0 l.track l.marks;
  lent : l.walk.lent ≡ lent_for_reading l.track l.marks;
}
