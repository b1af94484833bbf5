-- `judge_fields` meets its contract: the two tests in turn.
use Rattle.std.proofs.Common.{sym, ap, ◌∙◌}
use Rattle.format.specs.Home.{Home, judge_home_of}
use Rattle.accepting.proofs.AcceptHome.{place_of}
use Rattle.accepting.proofs.home.judge_fields.Goals as goal

pub returns-then-not-closed_after-clause-result_value : goal.returns-then-not-closed_after-clause-result_value
unfolding judge_home_of
returns-then-not-closed_after-clause-result_value c = rw (sym c.closed_after.ensures ∙ c.if-not-closed_after.true)

pub returns-then-not-home_fields_right-clause-result_value : goal.returns-then-not-home_fields_right-clause-result_value
unfolding judge_home_of
returns-then-not-home_fields_right-clause-result_value c =
    rw (sym c.closed_after.ensures ∙ c.if-not-closed_after.false, ← c.home_of-h.ensures, sym c.home_fields_right.ensures ∙ c.if-not-home_fields_right.true)

pub returns-clause-result_value : goal.returns-clause-result_value
unfolding judge_home_of
returns-clause-result_value c =
    rw (sym c.closed_after.ensures ∙ c.if-not-closed_after.false, ← c.home_of-h.ensures, sym c.home_fields_right.ensures ∙ c.if-not-home_fields_right.false)

pub returns-clause-home_starts_at : goal.returns-clause-home_starts_at
returns-clause-home_starts_at c = ap (λ (x : Home). x.place) c.home_of-h.ensures ∙ place_of _ _
