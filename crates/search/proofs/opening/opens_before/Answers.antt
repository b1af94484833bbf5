-- `opens_before` meets its contract: the place is early, or the opening decides.
use mathlib.Core.Path.{sym, ◌∙◌}
use native.Mathlib.Omega.{arith}
use Rattle.search.proofs.Openings.{before_early, before_place}
use Rattle.search.proofs.opening.opens_before.Goals as goal

pub returns-then-at-lt5 : goal.returns-then-at-lt5
returns-then-at-lt5 c = let a = c.args in sym (before_early a.q a.at _ (omega arith))

pub returns-then-at-q : goal.returns-then-at-q
returns-then-at-q c = let a = c.args in sym (before_early a.q a.at _ (omega arith))

pub returns : goal.returns
returns c = let a = c.args in c.opens_marked.ensures ∙ sym (before_place a.q a.at _ (omega arith))
