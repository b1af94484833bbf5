-- `sector_at` meets its contract: what follows the opening in the span is bytes of the track.
use mathlib.Core.Path.{refl, ap, ◌∙◌}
use native.Mathlib.Omega.{arith}
use Rattle.format.specs.Sector.{opening_length}
use Rattle.sectors.proofs.Rest.{span_within, rest_got, sector_here}
use Rattle.sectors.proofs.sector_at.Goals as goal

pub overflow_add-next : goal.overflow_add-next
overflow_add-next c =
    let a = c.args in
    let w = c.opening_length-o.ensures.value ∙ ap opening_length c.opens_first.ensures in
    omega (arith, span_within a.track.now a.marks.now a.p _ _ w c.span_at-span.ensures.length_value)

pub returns : goal.returns
returns c =
    let a = c.args in
    let s = c.span_at-span.ensures in
    let w = c.opening_length-o.ensures.value ∙ ap opening_length c.opens_first.ensures in
    c.sector_in.ensures
    ∙ sector_here a.track.now a.marks.now a.p _ _ w s.length_value (omega arith) _ s.last_value _
    (ap (λ z. z.now) c.unwrap_or-rest.ensures ∙ rest_got a.track.now a.marks.now a.p _ _ w s.length_value c.get.result _ refl c.get.ensures.lookup)
