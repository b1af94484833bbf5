-- `step_at` meets its contract: the number stands among the bytes that follow the opening in the span.
use mathlib.Core.Path.{refl, ap, ◌∙◌}
use mathlib.Core.List.{[]}
use native.Mathlib.Omega.{arith}
use Rattle.format.specs.Lent.{cells}
use Rattle.format.specs.Sector.{opening_length}
use Rattle.sectors.specs.SectorAt.{opens_first}
use Rattle.sectors.proofs.Rest.{opening_least, span_within, rest_none, rest_bytes, step_here, step_past}
use Rattle.sectors.proofs.steps.step_at.Goals as goal

pub returns-then-p-gt-LONGEST : goal.returns-then-p-gt-LONGEST
returns-then-p-gt-LONGEST c = let a = c.args in step_past a.p (cells a.track.now a.marks.now) c.if-p-gt-LONGEST.true

pub overflow_add-next : goal.overflow_add-next
overflow_add-next c =
    let a = c.args in
    let s = c.span_at-span.ensures in
    let w = c.opening_length-o.ensures.value ∙ ap opening_length c.opens_first.ensures in
    omega (arith, span_within a.track.now a.marks.now a.p _ _ w s.length_value)

pub returns-then-n-o : goal.returns-then-n-o
returns-then-n-o c =
    let a = c.args in
    let s = c.span_at-span.ensures in
    let w = c.opening_length-o.ensures.value ∙ ap opening_length c.opens_first.ensures in
    step_here a.track.now a.marks.now a.p _ _ w s.length_value (omega arith) []
    (rest_none a.track.now a.marks.now a.p _ _ w s.length_value c.if-n-o.true)
    _ refl refl s.last_value

pub slice_bounds-byte_at-end : goal.slice_bounds-byte_at-end
slice_bounds-byte_at-end c =
    let a = c.args in
    let s = c.span_at-span.ensures in
    let w = c.opening_length-o.ensures.value ∙ ap opening_length c.opens_first.ensures in
    omega (arith, span_within a.track.now a.marks.now a.p _ _ w s.length_value, opening_least (opens_first a.p))

pub returns : goal.returns
returns c =
    let a = c.args in
    let s = c.span_at-span.ensures in
    let w = c.opening_length-o.ensures.value ∙ ap opening_length c.opens_first.ensures in
    step_here a.track.now a.marks.now a.p _ _ w s.length_value (omega arith) _
    (rest_bytes a.track.now a.marks.now a.p _ _ w s.length_value)
    _ c.byte_at.ensures refl s.last_value
