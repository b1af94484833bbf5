-- `passing_at` meets its contract: the span says how many bytes follow the opening, and they are the track's.
use mathlib.Core.Path.{refl, sym, ◌∙◌}
use native.Mathlib.Omega.{arith}
use Rattle.reader.proofs.CandidateParts.{span_inside, passing_yes, passing_open, passing_short}
use Rattle.reader.proofs.candidate.passing_at.Goals as goal

pub returns-in_err-size : goal.returns-in_err-size
returns-in_err-size c =
    let a = c.args in
    let o = c.opening_length-o in
    let s = c.span_at-span in
    rw c.from_residual.ensures (sym (passing_short a.track.now a.marks.now a.first s.result.last a.p o.result s.result.length _ o.ensures.value s.ensures.length_value s.ensures.last_value refl (omega (arith, c.in_err-size.ensures))))

pub returns-then-size-lt-COUNT_TAIL : goal.returns-then-size-lt-COUNT_TAIL
returns-then-size-lt-COUNT_TAIL c =
    let a = c.args in
    let o = c.opening_length-o in
    let s = c.span_at-span in
    sym (passing_short a.track.now a.marks.now a.first s.result.last a.p o.result s.result.length _ o.ensures.value s.ensures.length_value s.ensures.last_value c.in_ok-size.ensures.1 (omega arith))

pub overflow_add-from : goal.overflow_add-from
overflow_add-from c =
    let a = c.args in
    omega (arith, c.in_ok-size.ensures, span_inside a.track.now a.marks.now a.p c.opening_length-o.result _ c.span_at-span.ensures.length_value (omega (arith, c.in_ok-size.ensures)))

pub overflow_add-from-2 : goal.overflow_add-from-2
overflow_add-from-2 c =
    let a = c.args in
    omega (arith, c.in_ok-size.ensures, span_inside a.track.now a.marks.now a.p c.opening_length-o.result _ c.span_at-span.ensures.length_value (omega (arith, c.in_ok-size.ensures)))

pub slice_bounds-count_closed-end : goal.slice_bounds-count_closed-end
slice_bounds-count_closed-end c =
    let a = c.args in
    omega (arith, c.in_ok-size.ensures, span_inside a.track.now a.marks.now a.p c.opening_length-o.result _ c.span_at-span.ensures.length_value (omega (arith, c.in_ok-size.ensures)))

pub returns-then-not-count_closed : goal.returns-then-not-count_closed
returns-then-not-count_closed c =
    let a = c.args in
    let o = c.opening_length-o in
    let s = c.span_at-span in
    sym (passing_open a.track.now a.marks.now a.first s.result.last a.p o.result s.result.length _ o.ensures.value s.ensures.length_value s.ensures.last_value c.in_ok-size.ensures.1 (sym c.count_closed.ensures ∙ c.if-not-count_closed.true))

pub returns : goal.returns
returns c =
    let a = c.args in
    let o = c.opening_length-o in
    let s = c.span_at-span in
    sym (passing_yes a.track.now a.marks.now a.first s.result.last a.p o.result s.result.length _ o.ensures.value s.ensures.length_value s.ensures.last_value c.in_ok-size.ensures.1 (omega arith) (sym c.count_closed.ensures ∙ c.if-not-count_closed.false))
