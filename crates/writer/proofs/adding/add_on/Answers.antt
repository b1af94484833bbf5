-- `add_on` meets its contract: 14 and 13 before anything is written, then Add behind the last sector.
use mathlib.Core.Path.{refl, sym, ◌∙◌}
use mathlib.Core.List.{◌∷◌}
use native.Mathlib.Omega.{arith}
use Rattle.format.proofs.Written.Outcome.{after_refused}
use Rattle.format.proofs.Track.Pairs.{length_cells}
use Rattle.sectors.proofs.From.{steps_end}
use Rattle.encode.specs.Gap.{as_rule}
use Rattle.writer.proofs.Corrected.{readable_steps, found_at, found_none}
use Rattle.writer.proofs.Added.{add_overflow, add_wanted, add_repeated}
use Rattle.writer.proofs.adding.add_on.Goals as goal
use Rattle.writer.proofs.adding.add_on.Goals.{then-b7-gt1-via-then-b7-gt1, then-b7-gt1-via-else-b7-gt1+then-not-wanted_right}

pub returns-then-b7-gt1 : goal.returns-then-b7-gt1
returns-then-b7-gt1 c =
    let a = c.args in
    let rule = as_rule a.rule in
    let t = a.track.now in
    let m = a.marks.now in
    let r = c.requires.readable_flag.readable in
    elim c.then-b7-gt1.branch [
      | then-b7-gt1-via-then-b7-gt1 w ↦
          after_refused _ _ _ a.out.now a.out_marks.now (add_overflow rule t m a.start r a.b7 a.s a.key.now a.body.now w.if-b7-gt1.true) refl
      | then-b7-gt1-via-else-b7-gt1+then-not-wanted_right w ↦
          after_refused _ _ _ a.out.now a.out_marks.now
          (add_wanted rule t m a.start r a.b7 a.s a.key.now a.body.now w.if-b7-gt1.false (sym w.wanted_right.ensures ∙ w.if-not-wanted_right.true)) refl
    ]

pub returns-then-found-track : goal.returns-then-found-track
returns-then-found-track c =
    let a = c.args in
    let rule = as_rule a.rule in
    let t = a.track.now in
    let m = a.marks.now in
    let r = c.requires.readable_flag.readable in
    let found = c.search_from-found in
    let q = found.result.place in
    let z = found_at t m a.start q a.s r (found.ensures.sectors_from r.accepted.sectors (readable_steps t m a.start r)) c.if-found-track.true in
    after_refused _ _ _ a.out.now a.out_marks.now
    (add_repeated rule t m a.start r a.b7 a.s a.key.now a.body.now c.if-b7-gt1.false (sym c.wanted_right.ensures ∙ c.if-not-wanted_right.false) z.sector z.later q z.split z.place_is)
    refl

pub add_behind-requires-clause-addable : goal.add_behind-requires-clause-addable
add_behind-requires-clause-addable c =
    let a = c.args in
    let t = a.track.now in
    let m = a.marks.now in
    let r = c.requires.readable_flag.readable in
    let found = c.search_from-found in
    let q = found.result.place in record {
      flagged = c.requires.readable_flag;
      absent = found_none t m a.start q a.s r (found.ensures.sectors_from r.accepted.sectors (readable_steps t m a.start r)) c.if-found-track.false;
      last_is = λ x xs f. found.ensures.sectors_from_2 x xs f (steps_end t m q _ (found.ensures.sectors_from (x ∷ xs) f) (omega (arith, length_cells t m, c.if-found-track.false)));
    }
