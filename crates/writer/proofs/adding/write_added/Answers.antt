-- `write_added` meets its contract: the kept front, the gap, the new sector, and the gap to index.
use mathlib.Core.Path.{◌≡◌, ◌∙◌}
use Prim.Native.Nat.{◌+◌, ◌≤◌}
use native.Mathlib.Omega.{arith}
use mathlib.Core.Bool.{true}
use lib.ListN.{length, take}
use lib.Seq.{length-take-le}
use Rattle.format.specs.Sector.{Sector}
use Rattle.format.specs.Written.{written_sector}
use Rattle.encode.specs.Room.{as_sector}
use Rattle.encode.proofs.Room.{gap_fits_lem}
use Rattle.format.proofs.Sector.ReadBack.{length_written}
use Rattle.writer.proofs.Filled.{wrote_at}
use Rattle.writer.proofs.Added.{added_bytes, added_marks}
use Rattle.writer.proofs.adding.write_added.Goals as goal

pub returns : goal.returns
returns c =
    let a = c.args in
    let long = c.requires.marks_len in
    let one = c.copy_kept in
    let two = c.fill_gap in
    let three = c.put_span in
    let t = a.track.now in
    let m = a.marks.now in
    let S : Sector = as_sector a.x in
    let T1 = one.new.out in
    let M1 = one.new.out_marks in
    let long_t : length T1 ≡ length t = one.auto.out ∙ long.1 in
    let long_m : length M1 ≡ length t = one.auto.out_marks ∙ long.2 in
    let size = length_written S in
    let low : a.end ≤ length t = omega (arith, c.requires.end_le_to) in
    let room : a.to + length (written_sector S) ≤ length t = omega (arith, c.requires.end_le_to, size) in
    let filled : two.result ≡ true = two.ensures.answer ∙ gap_fits_lem a.end a.to (length T1) (length M1) c.requires.end_le_to.0 (omega (arith, c.requires.end_le_to, long_t)) (omega (arith, c.requires.end_le_to, long_m)) in record {
      bytes = added_bytes a.end a.to (length t) S c.requires.end_le_to.0 room (take a.end t) a.out.now T1 two.new.track three.new.track (length-take-le a.end t low)
          one.ensures.bytes long_t (two.auto.track ∙ long_t) (wrote_at two.result _ _ _ _ filled two.ensures.bytes) three.ensures.bytes;
      marks = added_marks a.end a.to (length t) S c.requires.end_le_to.0 room (take a.end m) a.out_marks.now M1 two.new.marks three.new.marks
          (length-take-le a.end m (omega (arith, low, long))) one.ensures.marks long_m (two.auto.marks ∙ long_m) (wrote_at two.result _ _ _ _ filled two.ensures.marks) three.ensures.marks;
    }
