-- `first_rest` meets its contract: what follows the opening in the span is the track's own bytes.
use mathlib.Core.Path.{sym, ◌∙◌}
use Prim.Native.Nat.{◌-◌}
use native.Mathlib.Omega.{arith}
use Rattle.format.proofs.Find.CandidateBytes.{span_rest_bytes}
use Rattle.reader.proofs.pair.first_rest.Goals as goal

pub returns-then-span-lt-PLAIN : goal.returns-then-span-lt-PLAIN
returns-then-span-lt-PLAIN c =
    let a = c.args in
    sym (span_rest_bytes 6 a.p 0 a.track.now a.marks.now (omega (arith, c.span_at-span.ensures.length_value)))

pub returns : goal.returns
returns c =
    let a = c.args in
    let s = c.span_at-span in
    c.rest_of.ensures ∙ sym (span_rest_bytes 6 a.p (s.result.length - 6) a.track.now a.marks.now (omega (arith, s.ensures.length_value)))
