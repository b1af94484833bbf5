-- `next_place` meets its contract: no count opens before the next marked opening, but for sector 0's.
use mathlib.Core.Path.{◌≡◌}
use native.Mathlib.Omega.{arith}
use Rattle.format.specs.Answer.{home_missing}
use Rattle.format.specs.Home.{first_count_place}
use Rattle.format.specs.Lent.{cells}
use Rattle.reader.proofs.CandidatePlaces.{place_nowhere, place_marked, place_first}
use Rattle.reader.proofs.candidate.next_place.Goals as goal
use Rattle.reader.proofs.candidate.next_place.Goals.{else-p-first-via-then-p-first+else-first-q, else-p-first-via-else-p-first}

pub returns-in_default : goal.returns-in_default
returns-in_default c =
    let a = c.args in
    let q = c.next_opening-q in
    rw c.in_default.is (place_nowhere a.p q.result (cells a.track.now a.marks.now) q.ensures home_missing)

pub returns-then-first-q : goal.returns-then-first-q
returns-then-first-q c =
    let a = c.args in
    let q = c.next_opening-q in
    let e : c.saturating_add-first.result ≡ first_count_place c.in-Some.h = omega (arith, c.saturating_add-first.ensures) in
    rw (c.in-Some.is, e) (place_first a.p q.result (cells a.track.now a.marks.now) q.ensures c.in-Some.h (omega arith) (omega arith))

pub returns-else-p-first : goal.returns-else-p-first
returns-else-p-first c =
    let a = c.args in
    let q = c.next_opening-q in
    let e = c.saturating_add-first.ensures in
    rw c.in-Some.is
    (place_marked a.p q.result (cells a.track.now a.marks.now) q.ensures c.in-Some.h
    (λ l u. elim c.else-p-first.branch [ else-p-first-via-then-p-first+else-first-q w ↦ omega arith | else-p-first-via-else-p-first w ↦ omega arith ]))
