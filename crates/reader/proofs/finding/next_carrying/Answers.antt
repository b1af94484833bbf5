-- `next_carrying` meets its contract: what carries S is what carries it of what is left.
use mathlib.Core.Path.{◌≡◌, sym, ap, ◌∙◌}
use Prim.Native.Nat.{ℕ, ◌+◌}
use native.Mathlib.Omega.{arith}
use lib.ListN.{length, take, drop, length-take, length-drop}
use Rattle.format.specs.Lent.{cells}
use Rattle.format.specs.Count.{count_number}
use Rattle.format.specs.Find.{carrying}
use Rattle.format.specs.Sector.{opening_length}
use Rattle.search.specs.Place.{judged_place}
use Rattle.format.proofs.Track.Pairs.{length_cells}
use Rattle.reader.specs.Finding.{as_candidate}
use Rattle.reader.proofs.CandidateNext.{candidates_at, candidates_first, none_first}
use Rattle.reader.proofs.CandidateBehind.{candidates_behind}
use Rattle.reader.proofs.FindPart.{carrying_here, carrying_other}
use Rattle.reader.proofs.finding.next_carrying.Goals as goal

pub returns-then-byte_at-s : goal.returns-then-byte_at-s
returns-then-byte_at-s c =
    let a = c.args in
    let l = c.loop-x in
    let h = judged_place a.home in
    let d = cells a.track.now a.marks.now in
    let x = as_candidate a.track.now c.in-Some.x in
    let f = candidates_first h l.p d x c.in-Some.ensures in
    let n : count_number x.rest ≡ a.s = sym (c.byte_at.ensures ∙ ap count_number c.rest_of-rest.ensures) ∙ c.if-byte_at-s.true in
    sym (ap (take 1) (l.invariant ∙ ap (carrying a.s) f.2 ∙ carrying_here a.s x (candidates_at h (x.place + 1) d) n))

pub place_behind-p-requires : goal.place_behind-p-requires
place_behind-p-requires c =
    let a = c.args in
    let l = c.loop-x in
    let t = a.track.now in
    let d = cells t a.marks.now in
    let y = c.in-Some.x in
    let q : ℕ = y.place + opening_length y.first in
    let f = candidates_first (judged_place a.home) l.p d (as_candidate t y) c.in-Some.ensures in
    omega (arith, f.1, length_cells t a.marks.now, ap length c.rest_of-rest.ensures, length-take y.size (drop q t), length-drop q t)

pub loop-x-smaller : goal.loop-x-smaller
loop-x-smaller c =
    let a = c.args in
    let l = c.loop-x in
    let h = judged_place a.home in
    let d = cells a.track.now a.marks.now in
    let x = as_candidate a.track.now c.in-Some.x in
    let e = c.in-Some.ensures in
    let f = candidates_first h l.p d x e in
    let b = candidates_behind a.home l.p d x c.requires e c.place_behind-p.result (length c.rest_of-rest.result.now) (ap length c.rest_of-rest.ensures) c.place_behind-p.ensures in
    omega (arith, f.0, f.1, b.0)

pub loop-x-preserved : goal.loop-x-preserved
loop-x-preserved c =
    let a = c.args in
    let l = c.loop-x in
    let h = judged_place a.home in
    let d = cells a.track.now a.marks.now in
    let x = as_candidate a.track.now c.in-Some.x in
    let e = c.in-Some.ensures in
    let f = candidates_first h l.p d x e in
    let n = c.byte_at.ensures ∙ ap count_number c.rest_of-rest.ensures in
    let b = candidates_behind a.home l.p d x c.requires e c.place_behind-p.result (length c.rest_of-rest.result.now) (ap length c.rest_of-rest.ensures) c.place_behind-p.ensures in
    l.invariant
    ∙ ap (carrying a.s) f.2
    ∙ carrying_other a.s x (candidates_at h (x.place + 1) d) (λ q. c.if-byte_at-s.false (n ∙ q))
    ∙ ap (carrying a.s) b.1

pub returns : goal.returns
unfolding carrying
returns c =
    let a = c.args in
    let l = c.loop-x in
    let h = judged_place a.home in
    let d = cells a.track.now a.marks.now in
    sym (ap (take 1) (l.invariant ∙ ap (carrying a.s) (none_first (candidates_at h l.p d) c.in_default.ensures)))
