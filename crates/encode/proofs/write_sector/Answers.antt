-- `write_sector` meets its contract: each refusal before anything is written.
use mathlib.Core.Path.{◌≡◌, refl, sym, ◌∙◌}
use native.Mathlib.Omega.{arith}
use lib.ListN.{length}
use Rattle.format.specs.Lent.{marks_of}
use Rattle.format.specs.Sector.{Sector}
use Rattle.format.specs.Written.{written_sector}
use Rattle.format.proofs.Sector.Valid.{FitsCount}
use Rattle.encode.specs.Room.{as_sector}
use Rattle.base.proofs.Laid.{laid_as}
use Rattle.encode.proofs.Room.{first_short, second_short}
use Rattle.format.proofs.Sector.ReadBack.{length_written}
use Rattle.encode.proofs.Sectors.{sector_marks, content_bounds, content_unfit, sector_unfit, sector_fits_lem}
use Rattle.encode.proofs.write_sector.Goals as goal

pub returns-then-not-content_right : goal.returns-then-not-content_right
returns-then-not-content_right c =
    let a = c.args in
    record { answer = sym (content_unfit (as_sector a.x) (length a.track.now) (length a.marks.now) (sym c.content_right.ensures ∙ c.if-not-content_right.true)); bytes = refl; marks = refl }

pub returns-then-track-n : goal.returns-then-track-n
returns-then-track-n c =
    let a = c.args in
    let S : Sector = as_sector a.x in
    let n = c.sector_size-n in
    record { answer = sym (sector_unfit S (length a.track.now) (length a.marks.now) n.result (n.ensures ∙ sym (length_written S)) (first_short _ _ _ c.if-track-n.true)); bytes = refl; marks = refl }

pub returns-then-marks-n : goal.returns-then-marks-n
returns-then-marks-n c =
    let a = c.args in
    let S : Sector = as_sector a.x in
    let n = c.sector_size-n in
    record { answer = sym (sector_unfit S (length a.track.now) (length a.marks.now) n.result (n.ensures ∙ sym (length_written S)) (second_short _ _ _ c.if-marks-n.true)); bytes = refl; marks = refl }

pub returns : goal.returns
returns c =
    let a = c.args in
    let e = sym c.content_right.ensures ∙ c.if-not-content_right.false in
    let h = content_bounds a.x.key.now a.x.body.now e in
    let n = c.sector_size-n in
    let one = c.put_sector in
    let two = c.put_marks in
    let S : Sector = as_sector a.x in
    let f : FitsCount S = record {
      flag_fits = omega arith;
      cylinder_fits = omega arith;
      head_fits = omega arith;
      number_fits = omega arith;
      key_fits = omega arith;
      data_fits = omega arith;
    } in
    let q : n.result ≡ length (written_sector S) = n.ensures ∙ sym (length_written S) in record { answer = sym (sector_fits_lem S (length a.track.now) (length a.marks.now) n.result q e (omega arith) (omega arith)); bytes = one.ensures.bytes; marks = laid_as _ (marks_of (written_sector S)) a.marks.now _ (sym (sector_marks S n.result q f one.ensures.unmarked.0 one.ensures.unmarked.1)) two.ensures }
