-- `put_span` meets its contract: the sector, and the gap right behind it.
use mathlib.Core.Path.{◌≡◌, sym, ap, ◌∙◌}
use Prim.Native.Nat.{ℕ, ◌+◌, ◌-◌}
use mathlib.Core.Bool.{true}
use mathlib.Core.List.{List}
use borrow.Rule.Slice.PartMut.{put_mid}
use native.Mathlib.Omega.{arith}
use lib.ListN.{length}
use Rattle.format.specs.Lent.{bytes_of, marks_of}
use Rattle.format.specs.Sector.{Sector}
use Rattle.format.specs.Written.{written_sector}
use Rattle.format.proofs.Track.Pairs.{length_bytes, length_marks}
use Rattle.base.specs.Laid.{laid_at}
use Rattle.encode.specs.Room.{as_sector}
use Rattle.base.proofs.Laid.{length_laid}
use Rattle.encode.proofs.Room.{gap_fits_lem}
use Rattle.format.proofs.Sector.ReadBack.{length_written}
use Rattle.encode.proofs.Sectors.{content_within, sector_fits_lem}
use Rattle.writer.proofs.Filled.{wrote_at, wrote_back, span_bytes, span_marks}
use Rattle.base.proofs.Lists.{part_all_length}
use Rattle.writer.proofs.put_span.Goals as goal

pub returns : goal.returns
returns c =
    let a = c.args in
    let one = c.write_sector in
    let two = c.fill_gap in
    let S : Sector = as_sector a.x in
    let n = c.sector_size-n.result in
    let size : n ≡ length (written_sector S) = c.sector_size-n.ensures ∙ sym (length_written S) in
    let T = a.track.now in
    let M = a.marks.now in
    let wrote : one.result ≡ true = one.ensures.answer ∙ sector_fits_lem S _ _ n size (content_within a.x.key.now a.x.body.now c.requires.key_len_bound) (omega (arith, c.requires, part_all_length a.p T)) (omega (arith, c.requires, part_all_length a.p M)) in
    let T1 : List ℕ = put_mid a.p (length T - a.p) T one.new.track in
    let M1 : List ℕ = put_mid a.p (length M - a.p) M one.new.marks in
    let laid_t : T1 ≡ laid_at a.p (bytes_of (written_sector S)) T = wrote_back one.result a.p (bytes_of (written_sector S)) T one.new.track wrote one.ensures.bytes in
    let laid_m : M1 ≡ laid_at a.p (marks_of (written_sector S)) M = wrote_back one.result a.p (marks_of (written_sector S)) M one.new.marks wrote one.ensures.marks in
    let long_t : length T1 ≡ length T = ap length laid_t ∙ length_laid a.p (bytes_of (written_sector S)) T (omega (arith, c.requires, size, length_bytes (written_sector S), c.sector_size-n.ensures)) in
    let long_m : length M1 ≡ length M = ap length laid_m ∙ length_laid a.p (marks_of (written_sector S)) M (omega (arith, c.requires, size, length_marks (written_sector S), c.sector_size-n.ensures)) in
    let filled : two.result ≡ true = two.ensures.answer ∙ gap_fits_lem (a.p + n) a.to (length T1) (length M1) (omega (arith, c.requires, c.sector_size-n.ensures)) (omega (arith, c.requires, long_t)) (omega (arith, c.requires, long_m)) in record { bytes = span_bytes a.p a.to n S size T T1 two.new.track (omega (arith, c.requires)) laid_t (wrote_at two.result _ _ _ _ filled two.ensures.bytes); marks = span_marks a.p a.to n S size M M1 two.new.marks (omega (arith, c.requires)) laid_m (wrote_at two.result _ _ _ _ filled two.ensures.marks) }
