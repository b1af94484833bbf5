-- `begin` meets its contract: the length of the list, then what Accept says, then the number of sectors.
use Rattle.std.proofs.Common.{arith}
use Rattle.std.proofs.lemmas.Result.{err_from_is_err_and}
use Rattle.listing.proofs.Beginning.{begun_short, begun_refused, begun_good, settled}
use Rattle.listing.proofs.Listed.{listing}
use Rattle.listing.proofs.begin.Goals as goal

pub returns-then-n-lt-MOST_SECTORS-clause-result_value : goal.returns-then-n-lt-MOST_SECTORS-clause-result_value
returns-then-n-lt-MOST_SECTORS-clause-result_value c =
    let a = c.args in
    begun_short a.n a.track.now a.marks.now (omega arith)

pub returns-in_err-home-clause-result_value : goal.returns-in_err-home-clause-result_value
returns-in_err-home-clause-result_value c =
    let a = c.args in
    let p = err_from_is_err_and c.from_residual.result c.from_residual.ensures.1 in
    rw (p.1, p.2) (begun_refused a.n a.track.now a.marks.now _ (omega arith) c.in_err-home.ensures.result_value)

pub returns : goal.returns
returns c =
    let a = c.args in
    let e = begun_good a.n a.track.now a.marks.now _ c.sector_count-count.result (omega arith) c.in_ok-home.ensures.result_value c.sector_count-count.ensures in
    let s = settled a.n a.track.now a.marks.now _ e in
    record { result_value = e; count_fits = omega (arith, s.count_is, (listing a.n a.track.now a.marks.now).count_fits_holds) }
