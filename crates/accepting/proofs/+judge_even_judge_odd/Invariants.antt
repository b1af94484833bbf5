-- What falls with each call: the length of what is left.
use Rattle.std.proofs.Common.{length}
use Rattle.accepting.proofs.+judge_even_judge_odd.Given as goal

abbrev pub decreases-judge_even : goal.decreases-judge_even
decreases-judge_even l = length l.track.now

abbrev pub decreases-judge_odd : goal.decreases-judge_odd
decreases-judge_odd l = length l.track.now
