-- `write_blank` meets its contract: home, and sector 0 with the gap to index behind it.
use mathlib.Core.Path.{◌≡◌, ◌∙◌}
use Prim.Native.Nat.{◌+◌, ◌≤◌}
use mathlib.Core.Bool.{true}
use native.Mathlib.Omega.{arith}
use lib.ListN.{length}
use Rattle.format.specs.Sector.{Sector}
use Rattle.format.specs.Written.{written_sector}
use Rattle.encode.specs.Room.{as_sector}
use Rattle.sector.specs.As.{as_address}
use Rattle.format.specs.Layout.{head_length}
use Rattle.encode.proofs.Room.{both_fit_lem}
use Rattle.format.proofs.Sector.ReadBack.{length_written}
use Rattle.writer.proofs.Filled.{wrote_over}
use Rattle.writer.proofs.Blanked.{blank_bytes, blank_marks}
use Rattle.writer.proofs.blanking.write_blank.Goals as goal

pub returns : goal.returns
returns c =
    let a = c.args in
    let one = c.write_head in
    let two = c.put_span in
    let S : Sector = as_sector a.x in
    let T1 = one.new.track in
    let M1 = one.new.marks in
    let size = length_written S in
    let wrote : one.result ≡ true = one.ensures.answer ∙ both_fit_lem head_length (length a.track.now) (length a.marks.now) (omega (arith, c.requires)) (omega (arith, c.requires)) in
    let long_t : length T1 ≡ length a.track.now = one.auto.track in
    let long_m : length M1 ≡ length a.track.now = one.auto.marks ∙ c.requires.marks_len in
    let room : 55 + length (written_sector S) ≤ length a.track.now = omega (arith, c.requires, size) in record {
      bytes = blank_bytes a.x.flag (as_address a.own) S (length a.track.now) (length T1) long_t room a.track.now T1 two.new.track long_t
          (wrote_over one.result _ _ _ wrote one.ensures.bytes) two.ensures.bytes;
      marks = blank_marks a.x.flag (as_address a.own) S (length a.track.now) (length T1) long_t room a.marks.now M1 two.new.marks long_m
          (wrote_over one.result _ _ _ wrote one.ensures.marks) two.ensures.marks;
    }
