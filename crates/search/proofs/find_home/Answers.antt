-- `find_home` meets its contract: home's place is the place found in what is left of the window.
use mathlib.Core.Path.{◌≡◌, refl, sym, ◌∙◌}
use Prim.Native.Nat.{◌+◌}
use native.Mathlib.Nat.{add-zero}
use native.Mathlib.Omega.{arith}
use Rattle.format.specs.Lent.{cells}
use Rattle.format.specs.Home.{find_home}
use Rattle.search.proofs.Home.{plain_short, plain_other, plain_marked, plain_same, home_here, home_later, home_nowhere}
use Rattle.search.proofs.find_home.Goals as goal

pub search-init : goal.search-init
search-init c = c.cell_count-n.ensures.value

pub places-init : goal.places-init
unfolding find_home
places-init c = (omega arith, omega arith, refl)

pub loop-k-init : goal.loop-k-init
loop-k-init c = (refl, omega arith, omega arith, omega arith, c.places.invariant.2, rw add-zero)

pub places-preserved-then-n-place : goal.places-preserved-then-n-place
places-preserved-then-n-place c =
    let a = c.args in
    let x = c.loop-k in
    let d = cells a.track.now a.marks.now in
    (omega arith, omega arith, x.invariant.4 ∙ home_later d c.places.place (omega arith) (x.invariant.5 ∙ plain_short d c.places.place x.k (omega arith) (omega arith)))

pub places-preserved-then-track-place : goal.places-preserved-then-track-place
places-preserved-then-track-place c =
    let a = c.args in
    let x = c.loop-k in
    let d = cells a.track.now a.marks.now in
    (omega arith, omega arith, x.invariant.4 ∙ home_later d c.places.place (omega arith) (x.invariant.5 ∙ plain_other a.track.now a.marks.now c.places.place x.k (omega arith) (omega arith) (omega (arith, c.type_inv.track (c.places.place + x.k))) c.if-track-place.true))

pub places-preserved : goal.places-preserved
places-preserved c =
    let a = c.args in
    let x = c.loop-k in
    let d = cells a.track.now a.marks.now in
    (omega arith, omega arith, x.invariant.4 ∙ home_later d c.places.place (omega arith) (x.invariant.5 ∙ plain_marked a.track.now a.marks.now c.places.place x.k (omega arith) (omega arith) (omega (arith, c.type_inv.track (c.places.place + x.k))) (λ z. omega arith)))

pub loop-k-preserved : goal.loop-k-preserved
loop-k-preserved c =
    let a = c.args in
    let x = c.loop-k in (
      x.invariant.0,
      x.invariant.1,
      x.invariant.2,
      omega arith,
      x.invariant.4,
      x.invariant.5
          ∙ plain_same a.track.now a.marks.now c.places.place x.k (omega arith) (omega arith) (omega (arith, c.type_inv.track (c.places.place + x.k))) c.if-track-place.false (omega arith),
    )

pub returns-after-loop-k : goal.returns-after-loop-k
returns-after-loop-k c =
    let a = c.args in
    let x = c.loop-k in
    let d = cells a.track.now a.marks.now in
    let e : x.k ≡ 6 = omega arith in
    record { result_value = sym (x.invariant.4 ∙ home_here d c.places.place x.invariant.1 (x.invariant.5 ∙ rw e)); in_window = (x.invariant.2, omega arith) }

pub returns-after-places : goal.returns-after-places
returns-after-places c =
    let a = c.args in
    let x = c.places in
    record { result_value = sym (x.invariant.2 ∙ home_nowhere (cells a.track.now a.marks.now) x.place (omega arith)); in_window = tt }
