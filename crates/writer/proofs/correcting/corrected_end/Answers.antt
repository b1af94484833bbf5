-- `corrected_end` meets its contract: the block of the corrected sector, and those behind it.
use mathlib.Core.Path.{◌≡◌, ap}
use Prim.Native.Nat.{ℕ, ◌+◌}
use native.Mathlib.Omega.{arith}
use lib.ListN.{length}
use Rattle.format.specs.GapRule.{gap_by}
use Rattle.format.proofs.Written.Gap.{rule_most, wanted_parts}
use Rattle.encode.specs.Gap.{as_rule}
use Rattle.writer.proofs.Filled.{wanted_bounds, size_most}
use Rattle.writer.proofs.Corrected.{later_remaining, later_steps, end_new}
use Rattle.writer.proofs.correcting.corrected_end.Goals as goal

pub end_of_later-requires : goal.end_of_later-requires
end_of_later-requires c =
    let a = c.args in
    let h = wanted_bounds (as_rule a.rule) a.key.now a.body.now c.requires.body_value in
    let right = (wanted_parts (as_rule a.rule) a.key.now a.body.now c.requires.body_value).0 in
    let by : c.gap_after.result ≡ gap_by (as_rule a.rule) (length a.key.now) (length a.body.now) = c.gap_after.ensures in
    let w = later_remaining a.track.now a.marks.now a.q a.x c.requires.read_at in record { remaining = w.0; last_first_count_lt_p = (w.1, omega (arith, h, c.requires.read_at.inside, c.requires.read_at.remaining.length_most, c.sector_size.ensures, by, rule_most (as_rule a.rule) right (length a.key.now) (length a.body.now), size_most c.opens_first-first.result (length a.key.now) (length a.body.now)), right) }

pub returns : goal.returns
returns c =
    let a = c.args in
    let rule = as_rule a.rule in
    let first = c.opens_first-first in
    λ y ys f.
    end_new a.track.now a.marks.now a.q y ys f a.x c.requires.read_at.is_read rule first.result first.ensures a.key.now a.body.now _ _ _
    (ap (λ (n : ℕ). a.q + n) c.sector_size.ensures) c.gap_after.ensures
    (c.end_of_later.ensures ys (later_steps a.track.now a.marks.now a.q y ys f a.x c.requires.read_at.is_read))
