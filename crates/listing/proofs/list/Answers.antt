-- `list` meets its contract: each turn stores the next sector's record, and in the end those of all sectors stand in front of what was there.
use Rattle.std.proofs.Common.{◌∙◌, refl, ap, arith, List, ◌++◌, length, drop}
use lib.Seq.{length-take-le}
use Rattle.format.specs.Lent.{cells}
use Rattle.listing.specs.declared.Sector.{Sector}
use Rattle.listing.specs.declared.SectorNext.{SectorNext}
use Rattle.listing.specs.Filling.{as_records, filled}
use Rattle.listing.proofs.Stored.{run_more, run_whole}
use Rattle.listing.proofs.Beginning.{settled, not_settled}
use Rattle.listing.proofs.Listed.{value, next, filled_run}
use Rattle.listing.proofs.list.Goals as goal

pub returns-in_err-count-clause-out_after : goal.returns-in_err-count-clause-out_after
unfolding filled
returns-in_err-count-clause-out_after c =
    let a = c.args in
    rw (not_settled (length a.out.now) a.track.now a.marks.now _ c.in_err-count.ensures.result_value) refl

pub loop-record-preserved : goal.loop-record-preserved
loop-record-preserved c =
    let a = c.args in
    let l = c.loop-record in
    let b = c.in_ok-count.field-0 in
    let e = c.record_at-x.ensures in
    let n = length-take-le b.count a.out.now c.in_ok-count.ensures.count_fits in
    run_more (value (cells a.track.now a.marks.now)) (next (cells a.track.now a.marks.now)) b.count l.at c.record_at-x.result.next l.record-index l.record-items c.record_at-x.result.sector
    (omega arith) (omega arith) (ap (λ (r : SectorNext). r.sector) e) (ap (λ (r : SectorNext). r.next) e)
    ∙ l.invariant

pub returns-clause-out_after : goal.returns-clause-out_after
returns-clause-out_after c =
    let a = c.args in
    let t = a.track.now in
    let m = a.marks.now in
    let l = c.loop-record in
    let b = c.in_ok-count.field-0 in
    let n = length-take-le b.count a.out.now c.in_ok-count.ensures.count_fits in
    let s = settled (length a.out.now) t m b c.in_ok-count.ensures.result_value in
    let w = run_whole (value (cells t m)) (next (cells t m)) b.count l.at b.first l.record-index l.record-items (omega arith) (omega arith) l.invariant in
    ap (λ (r : List Sector). as_records (r ++ drop b.count a.out.now)) w ∙ rw (s.count_is, s.first_is) (filled_run (length a.out.now) t m a.out.now)
