-- `pair_agrees` meets its contract: the flag, then each track named by the other.
use mathlib.Core.Path.{sym, ◌∙◌}
use Rattle.format.specs.Lent.{cells}
use Rattle.sector.specs.As.{as_home}
use Rattle.reader.proofs.FindPair.{agrees_flag, agrees_other, agrees_named}
use Rattle.reader.proofs.pair.pair_agrees.Goals as goal

pub returns-then-g-ne1 : goal.returns-then-g-ne1
returns-then-g-ne1 c =
    let a = c.args in
    sym (agrees_flag (as_home a.h) (cells a.track.now a.marks.now) (as_home a.g) (cells a.second.now a.second_marks.now) c.if-g-ne1.true)

pub returns-then-names : goal.returns-then-names
returns-then-names c =
    let a = c.args in
    c.names-then-names.ensures ∙ sym (agrees_named (as_home a.h) (cells a.track.now a.marks.now) (as_home a.g) (cells a.second.now a.second_marks.now) c.if-g-ne1.false (sym c.names.ensures ∙ c.if-names.true))

pub returns-else-names : goal.returns-else-names
returns-else-names c =
    let a = c.args in
    c.if-names.false
    ∙ sym (agrees_other (as_home a.h) (cells a.track.now a.marks.now) (as_home a.g) (cells a.second.now a.second_marks.now) c.if-g-ne1.false (sym c.names.ensures ∙ c.if-names.false))
