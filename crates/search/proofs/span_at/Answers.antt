-- `span_at` meets its contract: the run of unmarked cells behind the opening says where the span ends.
use mathlib.Core.Path.{◌≡◌, sym, ◌∙◌}
use Prim.Native.Nat.{◌+◌, ◌-◌}
use native.Mathlib.Omega.{arith}
use lib.ListN.{drop, length-drop}
use lib.Seq.{drop-drop}
use Rattle.format.specs.Lent.{cells}
use Rattle.format.specs.Span.{unmarked_run, span_length}
use Rattle.format.proofs.Find.CandidateBytes.{run_le}
use Rattle.search.proofs.Run.{runs_short, runs_on, runs_off, span_last, span_inner, span_le}
use Rattle.search.proofs.span_at.Goals as goal

pub returns-then-left-o : goal.returns-then-left-o
returns-then-left-o c =
    let a = c.args in
    let d = cells a.track.now a.marks.now in
    let g = drop a.p d in
    let l = c.cells_from-left.ensures in
    let n = length-drop a.o g in
    let r = runs_short a.o g (omega arith) in
    let e = l.value ∙ sym (span_last a.o g r) in
    record { length_value = e; last_value = sym r; length_in_bounds = ((λ h. omega (arith, span_le a.o g)), (λ h. omega (arith, span_le a.o g))) }

pub returns-then-run-left : goal.returns-then-run-left
returns-then-run-left c =
    let a = c.args in
    let d = cells a.track.now a.marks.now in
    let g = drop a.p d in
    let l = c.cells_from-left.ensures in
    let n = length-drop a.o g in
    let u : unmarked_run (drop a.o g) ≡ c.unmarked_run-run.result = rw drop-drop (sym c.unmarked_run-run.ensures) in
    let r = runs_on a.o g (omega arith) in
    let e = l.value ∙ sym (span_last a.o g r) in
    record { length_value = e; last_value = sym r; length_in_bounds = ((λ h. omega (arith, span_le a.o g)), (λ h. omega (arith, span_le a.o g))) }

pub overflow_add-o : goal.overflow_add-o
overflow_add-o c =
    let a = c.args in
    let d = cells a.track.now a.marks.now in
    let g = drop a.p d in
    let l = c.cells_from-left.ensures in
    let n = length-drop a.o g in
    let u : unmarked_run (drop a.o g) ≡ c.unmarked_run-run.result = rw drop-drop (sym c.unmarked_run-run.ensures) in
    omega (arith, run_le (drop a.o g))

pub returns-then-o-run-lt5 : goal.returns-then-o-run-lt5
returns-then-o-run-lt5 c =
    let a = c.args in
    let d = cells a.track.now a.marks.now in
    let g = drop a.p d in
    let l = c.cells_from-left.ensures in
    let n = length-drop a.o g in
    let u : unmarked_run (drop a.o g) ≡ c.unmarked_run-run.result = rw drop-drop (sym c.unmarked_run-run.ensures) in
    let r = runs_off a.o g (λ q. c.if-run-left.false (omega arith)) in
    let e : 0 ≡ span_length a.o g = omega (arith, span_inner a.o g r) in
    record { length_value = e; last_value = sym r; length_in_bounds = ((λ h. omega (arith, span_le a.o g)), (λ h. omega (arith, span_le a.o g))) }

pub overflow_add-result : goal.overflow_add-result
overflow_add-result c =
    let a = c.args in
    let d = cells a.track.now a.marks.now in
    let g = drop a.p d in
    let l = c.cells_from-left.ensures in
    let n = length-drop a.o g in
    let u : unmarked_run (drop a.o g) ≡ c.unmarked_run-run.result = rw drop-drop (sym c.unmarked_run-run.ensures) in
    omega (arith, run_le (drop a.o g))

pub returns : goal.returns
returns c =
    let a = c.args in
    let d = cells a.track.now a.marks.now in
    let g = drop a.p d in
    let l = c.cells_from-left.ensures in
    let n = length-drop a.o g in
    let u : unmarked_run (drop a.o g) ≡ c.unmarked_run-run.result = rw drop-drop (sym c.unmarked_run-run.ensures) in
    let r = runs_off a.o g (λ q. c.if-run-left.false (omega arith)) in
    let e : a.o + c.unmarked_run-run.result - 5 ≡ span_length a.o g = omega (arith, span_inner a.o g r) in
    record { length_value = e; last_value = sym r; length_in_bounds = ((λ h. omega (arith, span_le a.o g)), (λ h. omega (arith, span_le a.o g))) }
