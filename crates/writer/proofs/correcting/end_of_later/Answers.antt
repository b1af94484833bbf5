-- `end_of_later` meets its contract: the end with all sectors is the end with those from place p on.
use native.Mathlib.Omega.{arith}
use Prim.Native.Nat.{◌+◌, ◌*◌, ◌≤◌}
use mathlib.Core.Bool.{false}
use lib.ListN.{length}
use Rattle.format.specs.GapRule.{gap_by}
use Rattle.format.specs.Written.{sector_size}
use Rattle.encode.specs.Gap.{as_rule}
use Rattle.writer.proofs.Farthest.{sum_start, sum_end, sum_onward, sum_lengths, sum_bound, sum_next}
use Rattle.writer.proofs.correcting.end_of_later.Goals as goal
use Rattle.writer.proofs.correcting.end_of_later.Goals.{After-sector_at-x}

pub loop-p-init : goal.loop-p-init
loop-p-init c = let a = c.args in sum_start (as_rule a.rule) a.track.now a.marks.now a.p a.end a.gap c.requires.last_first_count_lt_p

-- The step goes on and not beyond index, KL and DL fit their bytes, and the sum stays small.
known : (c : After-sector_at-x)
    → ((c.loop-p.p + 49 ≤ c.sector_at-x.result.next) × (c.sector_at-x.result.next ≤ length c.args.track.now))
    × ((c.sector_at-x.result.key_length ≤ 255) × (c.sector_at-x.result.data_length ≤ 65535))
    × (c.loop-p.end + c.loop-p.gap + sector_size false c.sector_at-x.result.key_length c.sector_at-x.result.data_length
    + gap_by (as_rule c.args.rule) c.sector_at-x.result.key_length c.sector_at-x.result.data_length ≤ 200000 + 2 * c.sector_at-x.result.next)
known c =
    let a = c.args in
    let o = c.loop-p in
    let rule = as_rule a.rule in (
      sum_onward rule a.track.now a.marks.now a.p a.end a.gap o.p o.end o.gap c.requires.remaining o.invariant c.loop-p-test.true c.sector_at-x.result c.sector_at-x.ensures,
      sum_lengths rule a.track.now a.marks.now a.p a.end a.gap o.p o.end o.gap c.requires.remaining o.invariant c.loop-p-test.true c.sector_at-x.result c.sector_at-x.ensures,
      sum_bound rule a.track.now a.marks.now a.p a.end a.gap o.p o.end o.gap c.requires.remaining o.invariant c.loop-p-test.true c.sector_at-x.result c.sector_at-x.ensures,
    )

pub overflow_cast-kl : goal.overflow_cast-kl
overflow_cast-kl c = omega (arith, known (goal.at.overflow_cast-kl c).After-sector_at-x)

pub overflow_cast-dl : goal.overflow_cast-dl
overflow_cast-dl c = omega (arith, known (goal.at.overflow_cast-dl c).After-sector_at-x)

pub overflow_add-end : goal.overflow_add-end
overflow_add-end c = omega (arith, known (goal.at.overflow_add-end c).After-sector_at-x, c.requires.remaining.length_most)

pub overflow_add-end-in-loop-p : goal.overflow_add-end-in-loop-p
overflow_add-end-in-loop-p c = omega (arith, known (goal.at.overflow_add-end-in-loop-p c).After-sector_at-x, c.sector_size.ensures, c.requires.remaining.length_most)

pub loop-p-smaller : goal.loop-p-smaller
loop-p-smaller c = omega (arith, known (goal.at.loop-p-smaller c).After-sector_at-x)

pub loop-p-preserved : goal.loop-p-preserved
loop-p-preserved c =
    let a = c.args in
    let rule = as_rule a.rule in
    sum_next rule a.track.now a.marks.now a.p a.end a.gap c.loop-p.p c.loop-p.end c.loop-p.gap c.requires.remaining c.loop-p.invariant c.loop-p-test.true
    c.sector_at-x.result c.sector_at-x.ensures c.sector_size.result c.gap_after-gap.result c.sector_size.ensures c.gap_after-gap.ensures

pub returns : goal.returns
returns c =
    let a = c.args in
    let rule = as_rule a.rule in
    sum_end rule a.track.now a.marks.now a.p a.end a.gap c.loop-p.p c.loop-p.end c.loop-p.gap c.requires.remaining c.loop-p.invariant c.loop-p-test.false
