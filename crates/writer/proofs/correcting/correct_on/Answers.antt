-- `correct_on` meets its contract: 14, 12 and 15 before anything is written, then the new track.
use mathlib.Core.Path.{◌≡◌, refl, sym, ap, ◌∙◌}
use Prim.Native.Nat.{ℕ}
use native.Mathlib.Omega.{arith}
use mathlib.Core.Bool.{true}
use mathlib.Core.List.{List, ◌++◌}
use lib.ListN.{length, take}
use Rattle.std.proofs.lemmas.Result.{err_from_is_err_and}
use Rattle.format.specs.Lent.{cells, unmarked}
use Rattle.format.specs.Accept.{from_number}
use Rattle.format.proofs.Cells.Opening.{unmarked_below}
use Rattle.sectors.specs.From.{SectorsFrom}
use Rattle.encode.specs.Gap.{as_rule}
use Rattle.writer.specs.Remaining.{ReadAt, corrected_end, corrected_cells}
use Rattle.format.proofs.Written.Outcome.{after_refused, after_good}
use Rattle.format.proofs.Track.Pairs.{pair_of}
use Rattle.writer.proofs.Outcome.{room_done, room_short}
use Rattle.writer.proofs.Corrected.{readable_steps, readable_remaining, readable_lengths, found_read, found_at, found_none, kept_bytes, kept_marks, correct_wanted, correct_missing, correct_short, correct_done}
use Rattle.writer.proofs.correcting.correct_on.Goals as goal
use Rattle.writer.proofs.correcting.correct_on.Goals.{After-place_of-sought, Else-track-sought}

-- The sectors from the place found on.
found_steps : (c : After-place_of-sought)
    → SectorsFrom c.args.track.now c.args.marks.now c.place_of-sought.result.place (from_number c.args.s c.requires.readable.accepted.sectors)
found_steps c =
    let a = c.args in
    let r = c.requires.readable in
    c.place_of-sought.ensures.sectors_from r.accepted.sectors (readable_steps a.track.now a.marks.now a.start r)

-- Where a sector carries S, what was read of it.
found_there : (c : Else-track-sought) → ReadAt c.args.track.now c.args.marks.now c.place_of-sought.result.place c.place_of-sought.result.sector
found_there c =
    let a = c.args in
    let found = c.place_of-sought in
    found_read a.track.now a.marks.now a.start a.s c.requires.readable found.result.place found.result.sector
    (found.ensures.sectors_from c.requires.readable.accepted.sectors (readable_steps a.track.now a.marks.now a.start c.requires.readable)) c.if-track-sought.false found.ensures.sector_value

pub returns-then-not-wanted_right : goal.returns-then-not-wanted_right
returns-then-not-wanted_right c =
    let a = c.args in
    let rule = as_rule a.rule in
    after_refused _ _ _ a.out.now a.out_marks.now
    (correct_wanted rule a.track.now a.marks.now a.start c.requires.readable a.s a.key.now a.body.now (sym c.wanted_right.ensures ∙ c.if-not-wanted_right.true))
    refl

pub returns-then-track-sought : goal.returns-then-track-sought
returns-then-track-sought c =
    let a = c.args in
    let rule = as_rule a.rule in
    let t = a.track.now in
    let m = a.marks.now in
    let r = c.requires.readable in
    after_refused _ _ _ a.out.now a.out_marks.now
    (correct_missing rule t m a.start r a.s a.key.now a.body.now (sym c.wanted_right.ensures ∙ c.if-not-wanted_right.false)
    (found_none t m a.start c.place_of-sought.result.place a.s r (found_steps (goal.at.returns-then-track-sought c).After-place_of-sought) c.if-track-sought.true))
    refl

pub corrected_end-end-requires : goal.corrected_end-end-requires
corrected_end-end-requires c =
    record { read_at = found_there (goal.at.corrected_end-end-requires c).Else-track-sought; body_value = sym c.wanted_right.ensures ∙ c.if-not-wanted_right.false }

pub judge_room-requires : goal.judge_room-requires
judge_room-requires c = let a = c.args in omega (arith, readable_lengths a.track.now a.marks.now a.start c.requires.readable)

pub write_corrected-requires : goal.write_corrected-requires
write_corrected-requires c =
    let a = c.args in
    let k = readable_lengths a.track.now a.marks.now a.start c.requires.readable in
    let end = c.corrected_end-end in
    let fits = room_done end.result (length a.track.now) c.in_ok-judge_room.ensures in record {
      read_at = found_there (goal.at.write_corrected-requires c).Else-track-sought;
      ys_in_bounds = λ y ys f. omega (arith, end.ensures y ys f, fits);
      body_value = sym c.wanted_right.ensures ∙ c.if-not-wanted_right.false;
      marks_len = (k.1, c.requires.out_len.0, c.requires.out_len.1);
    }

pub returns : goal.returns
returns c =
    let a = c.args in
    let rule = as_rule a.rule in
    let t = a.track.now in
    let m = a.marks.now in
    let r = c.requires.readable in
    let u = readable_remaining t m a.start r in
    let q = c.place_of-sought.result.place in
    let k = readable_lengths t m a.start r in
    let wrote = c.write_corrected in
    let z = found_at t m a.start q a.s r (found_steps (goal.at.returns c).After-place_of-sought) c.if-track-sought.false in
    let ended = c.corrected_end-end in
    let end : ended.result ≡ corrected_end rule q a.key.now a.body.now z.sector z.later = ended.ensures z.sector z.later z.steps in
    let fits = room_done ended.result (length t) c.in_ok-judge_room.ensures in
    let W : ℕ → List ℕ = λ l. corrected_cells rule l q a.key.now a.body.now z.sector z.later in
    let bytes : unmarked t ≡ true = unmarked_below t (λ i. omega (arith, c.type_inv.track i)) in
    after_good _ _ (pair_of (take q (cells t m) ++ W (length (cells t m)))) a.out.now a.out_marks.now wrote.new.out wrote.new.out_marks
    (correct_done rule t m a.start r a.s a.key.now a.body.now (sym c.wanted_right.ensures ∙ c.if-not-wanted_right.false)
    z.sector z.later z.split q z.place_is (omega (arith, c.if-track-sought.false, u.cells_length)) (omega (arith, fits, end, u.cells_length)))
    refl
    (kept_bytes q t m (W (length t)) (W (length (cells t m))) wrote.new.out k.1 bytes (ap W (sym u.cells_length)) (wrote.ensures.bytes z.sector z.later z.steps))
    (kept_marks q t m (W (length t)) (W (length (cells t m))) wrote.new.out_marks k.1 bytes (ap W (sym u.cells_length)) (wrote.ensures.marks z.sector z.later z.steps))

pub returns-in_err-judge_room : goal.returns-in_err-judge_room
returns-in_err-judge_room c =
    let a = c.args in
    let rule = as_rule a.rule in
    let t = a.track.now in
    let m = a.marks.now in
    let r = c.requires.readable in
    let u = readable_remaining t m a.start r in
    let q = c.place_of-sought.result.place in
    let z = found_at t m a.start q a.s r (found_steps (goal.at.returns-in_err-judge_room c).After-place_of-sought) c.if-track-sought.false in
    let ended = c.corrected_end-end in
    let end : ended.result ≡ corrected_end rule q a.key.now a.body.now z.sector z.later = ended.ensures z.sector z.later z.steps in
    let fits = room_short _ ended.result (length t) c.in_err-judge_room.ensures in
    let p = err_from_is_err_and c.from_residual.result c.from_residual.ensures.1 in
    rw (p.1, p.2) (after_refused _ _ _ a.out.now a.out_marks.now
    (correct_short rule t m a.start r a.s a.key.now a.body.now (sym c.wanted_right.ensures ∙ c.if-not-wanted_right.false)
    z.sector z.later z.split q z.place_is (omega (arith, c.if-track-sought.false, u.cells_length)) (omega (arith, fits.0, end, u.cells_length)))
    fits.1)
