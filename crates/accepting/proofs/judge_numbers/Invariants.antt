-- `judge_numbers` meets its contract: the answer is that of the sectors left and of the numbers whose flags are set.
use Rattle.std.proofs.Common.{◌≡◌}
use Rattle.accepting.proofs.AcceptTable.{flagged_from}
use Rattle.accepting.proofs.judge_numbers.Given as goal

-- What holds at each turn: the numbers passed so far decide what those that are left give.
abbrev pub invariant-loop-i : goal.invariant-loop-i
invariant-loop-i l =
    flagged_from l.track l.marks l.starts l.initial.seen 0 ≡ flagged_from l.track l.marks l.starts l.seen l.i
