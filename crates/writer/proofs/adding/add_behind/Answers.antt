-- `add_behind` meets its contract: 15 before anything is written, then the new track.
use mathlib.Core.Path.{◌≡◌, refl, sym, ap, ap₂, ◌∙◌}
use Prim.Native.Nat.{ℕ, suc, ◌+◌, ◌-◌, ◌≤◌}
use native.Mathlib.Omega.{arith}
use mathlib.Core.Bool.{true, false}
use mathlib.Core.List.{List, ◌++◌}
use lib.ListN.{length, replicate}
use Rattle.std.proofs.lemmas.Result.{err_from_is_err_and}
use Rattle.format.specs.Lent.{unmarked}
use Rattle.format.specs.Sector.{Sector}
use Rattle.format.proofs.Written.Gap.{rule_most, wanted_parts}
use Rattle.format.specs.Add.{added_flag, added_sector}
use Rattle.format.specs.Accept.{last_of}
use Rattle.encode.specs.Room.{sector_from}
use Rattle.format.proofs.Cells.Opening.{unmarked_below}
use Rattle.encode.specs.Gap.{as_rule}
use Rattle.writer.specs.Filled.{filled_span}
use Rattle.format.proofs.Written.Outcome.{after_refused, after_good}
use Rattle.writer.proofs.Outcome.{room_done, room_short}
use Rattle.writer.proofs.Filled.{wanted_bounds, size_most}
use Rattle.writer.proofs.Corrected.{readable_remaining, readable_lengths, kept_bytes, kept_marks}
use Rattle.writer.proofs.Added.{LastRead, last_read, added_made, add_short, add_done}
use Rattle.writer.proofs.adding.add_behind.Goals as goal
use Rattle.writer.proofs.adding.add_behind.Goals.{After-sector_at-last, After-gap_after}

-- What was read of the last sector.
last_of_track : (c : After-sector_at-last)
    → LastRead (as_rule c.args.rule) c.args.track.now c.args.marks.now c.args.start c.requires.addable.flagged.readable c.args.count c.sector_at-last.result
last_of_track c =
    let a = c.args in
    let z = c.requires.addable in
    last_read (as_rule a.rule) a.track.now a.marks.now a.start z.flagged.readable a.at a.count c.sector_at-last.result z.last_is c.sector_at-last.ensures

-- Where the new sector starts, without an overflow.
start_bound : (c : After-gap_after)
    → LastRead (as_rule c.args.rule) c.args.track.now c.args.marks.now c.args.start c.requires.addable.flagged.readable c.args.count c.sector_at-last.result
    → c.sector_at-last.result.end + c.gap_after.result ≤ 70000
start_bound c v =
    let a = c.args in
    let rule = as_rule a.rule in
    let x = c.sector_at-last.result in
    let right = (wanted_parts rule a.key.now a.body.now c.requires.b7_bound.1).0 in
    omega (arith, c.gap_after.ensures, rule_most rule right x.key_length x.data_length, v.key_fits, v.data_fits, v.end_inside, (readable_remaining a.track.now a.marks.now a.start c.requires.addable.flagged.readable).length_most)

pub overflow_cast-kl : goal.overflow_cast-kl
overflow_cast-kl c = omega (arith, (last_of_track (goal.at.overflow_cast-kl c).After-sector_at-last).key_fits)

pub overflow_cast-dl : goal.overflow_cast-dl
overflow_cast-dl c = omega (arith, (last_of_track (goal.at.overflow_cast-dl c).After-sector_at-last).data_fits)

pub overflow_add-to : goal.overflow_add-to
overflow_add-to c = omega (arith, start_bound (goal.at.overflow_add-to c).After-gap_after (last_of_track (goal.at.overflow_add-to c).After-sector_at-last))

pub overflow_add-to-2 : goal.overflow_add-to-2
overflow_add-to-2 c =
    let a = c.args in
    let h = wanted_bounds (as_rule a.rule) a.key.now a.body.now c.requires.b7_bound.1 in
    omega (arith, h, start_bound (goal.at.overflow_add-to-2 c).After-gap_after (last_of_track (goal.at.overflow_add-to-2 c).After-sector_at-last), c.sector_size-n.ensures, size_most false (length a.key.now) (length a.body.now))

pub judge_room-requires : goal.judge_room-requires
judge_room-requires c = let a = c.args in omega (arith, readable_lengths a.track.now a.marks.now a.start c.requires.addable.flagged.readable)

pub overflow_cast-i : goal.overflow_cast-i
overflow_cast-i c = omega (arith, (last_of_track (goal.at.overflow_cast-i c).After-sector_at-last).position_fits)

pub write_added-requires-clause-marks_len : goal.write_added-requires-clause-marks_len
write_added-requires-clause-marks_len c =
    let a = c.args in
    ((readable_lengths a.track.now a.marks.now a.start c.requires.addable.flagged.readable).1, c.requires.out_len.0, c.requires.out_len.1)

pub returns : goal.returns
returns c =
    let a = c.args in
    let rule = as_rule a.rule in
    let t = a.track.now in
    let m = a.marks.now in
    let r = c.requires.addable.flagged.readable in
    let last = c.sector_at-last in
    let v = last_of_track (goal.at.returns c).After-sector_at-last in
    let u = readable_remaining t m a.start r in
    let k = readable_lengths t m a.start r in
    let gap = c.gap_after in
    let size = c.sector_size-n in
    let end = last.result.end in
    let to = end + gap.result in
    let room = room_done (to + size.result) (length t) c.in_ok-judge_room.ensures in
    let h = r.accepted.home in
    let wrote = c.write_added in
    let flag = c.added_flag in
    let made : sector_from false flag.result last.result.address.cylinder last.result.address.head a.s a.key.now a.body.now
    ≡ added_sector h (suc (0 + length v.xs)) (last_of v.x v.xs) a.b7 a.s a.key.now a.body.now =
    added_made rule t m a.start r a.count last.result v h flag.result a.b7 a.s a.key.now a.body.now
    (flag.ensures ∙ ap (λ (n : ℕ). added_flag n a.count a.b7) c.requires.addable.flagged.flag_is) in
    let W : ℕ → Sector → List ℕ = λ l n. replicate (to - end) 0xFF ++ filled_span (l - to) n in
    let same = ap₂ W (sym u.cells_length) made in
    let bytes : unmarked t ≡ true = unmarked_below t (λ i. omega (arith, c.type_inv.track i)) in
    after_good _ _ _ a.out.now a.out_marks.now wrote.new.out wrote.new.out_marks
    (add_done rule t m a.start r a.b7 a.s a.key.now a.body.now c.requires.b7_bound.0 c.requires.b7_bound.1 c.requires.addable.absent v.x v.xs v.all end to
    v.end_is (ap (λ (n : ℕ). end + n) (gap.ensures ∙ v.gap_is)) (omega (arith, v.end_inside, u.cells_length))
    (omega (arith, room, size.ensures, u.cells_length)))
    refl
    (kept_bytes end t m _ _ wrote.new.out k.1 bytes same wrote.ensures.bytes)
    (kept_marks end t m _ _ wrote.new.out_marks k.1 bytes same wrote.ensures.marks)

pub returns-in_err-judge_room : goal.returns-in_err-judge_room
returns-in_err-judge_room c =
    let a = c.args in
    let rule = as_rule a.rule in
    let t = a.track.now in
    let m = a.marks.now in
    let r = c.requires.addable.flagged.readable in
    let last = c.sector_at-last in
    let v = last_of_track (goal.at.returns-in_err-judge_room c).After-sector_at-last in
    let u = readable_remaining t m a.start r in
    let gap = c.gap_after in
    let size = c.sector_size-n in
    let end = last.result.end in
    let to = end + gap.result in
    let room = room_short _ (to + size.result) (length t) c.in_err-judge_room.ensures in
    let p = err_from_is_err_and c.from_residual.result c.from_residual.ensures.1 in
    rw (p.1, p.2) (after_refused _ _ _ a.out.now a.out_marks.now
    (add_short rule t m a.start r a.b7 a.s a.key.now a.body.now c.requires.b7_bound.0 c.requires.b7_bound.1 c.requires.addable.absent v.x v.xs v.all end to
    v.end_is (ap (λ (n : ℕ). end + n) (gap.ensures ∙ v.gap_is)) (omega (arith, v.end_inside, u.cells_length))
    (omega (arith, room.0, size.ensures, u.cells_length)))
    room.1)
