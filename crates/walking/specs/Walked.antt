-- A reader of Walk: what its step gives, the reader after it, and what a new reader gives at each of its steps.
use Rattle.std.specs.Prelude.{ℕ, Bool, List, map, get_or}
use Rattle.std.specs.Borrow.{Bor}
use Rattle.format.specs.Answer.{lent_wrong, sector_missing}
use Rattle.format.specs.Judged.{Judged, good, refused, require}
use Rattle.format.specs.Lent.{lent_for_reading, cells}
use Rattle.format.specs.Candidate.{candidates}
use Rattle.format.specs.Walk.{Visited, visited, next_from, place_after}
use Rattle.walking.specs.declared.Walk.{Walk}

-- The step from place p on of a pair that was judged: 1 where it is lent out of rule, then the first candidate there or later.
unfoldable pub judged_step : Bool → ℕ → List ℕ → List ℕ → Judged Visited
judged_step lent p t m = require lent lent_wrong (next_from p (candidates (cells t m)))

-- The reader over a track and its marks that has come to place p: whether they are lent within the rule is judged once.
abbrev pub reader_at : Bor (List ℕ) → Bor (List ℕ) → ℕ → Walk
reader_at t m p = record { track = t; marks = m; at = p; lent = lent_for_reading t.now m.now }

-- What the step of a reader gives, by the place that it has come to.
abbrev pub step_of : Walk → Judged Visited
step_of w = judged_step w.lent w.at w.track.now w.marks.now

-- The reader after its step: the same track and marks, judged alike, and the place that it has come to by it.
abbrev pub after_step : Walk → Walk
after_step w = record { track = w.track; marks = w.marks; at = place_after w.at (step_of w); lent = w.lent }

-- The candidate that has n candidates to its left; 12 with none left, over a pair that gives 1 always 1.
unfoldable pub visit_of : ℕ → List ℕ → List ℕ → Judged Visited
visit_of n t m = require (lent_for_reading t m) lent_wrong (get_or (map (λ x. good (visited x)) (candidates (cells t m))) n (refused sector_missing))
