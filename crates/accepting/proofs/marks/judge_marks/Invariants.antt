-- `judge_marks` meets its contract: what is left behind each opening decides, and the table has the openings passed.
use Rattle.std.proofs.Common.{◌≡◌, ◌-◌, ◌*◌, ◌≤◌, ◌++◌, length, take, drop}
use Rattle.format.specs.Lent.{cells}
use Rattle.format.specs.Accept.{judge_marks}
use Rattle.accepting.specs.Starts.{starts_in, most_openings}
use Rattle.accepting.proofs.marks.judge_marks.Given as goal

-- What holds at each turn: no mark before place q is stray, and the first k places of the table are those of the openings before q.
abbrev pub invariant-loop-q : goal.invariant-loop-q
invariant-loop-q l =
    record {
      within : l.q ≤ l.n;
      few : l.k * 8 ≤ l.q;
      size : length l.starts ≡ most_openings;
      judged : judge_marks l.e 0 0 (cells l.track l.marks) ≡ judge_marks l.e 0 l.q (drop l.q (cells l.track l.marks));
      listed : starts_in 0 (cells l.track l.marks) ≡ take l.k l.starts ++ starts_in l.q (drop l.q (cells l.track l.marks));
    }

-- What falls with each turn: the number of cells left.
abbrev pub decreases-loop-q : goal.decreases-loop-q
decreases-loop-q l = l.n - l.q
