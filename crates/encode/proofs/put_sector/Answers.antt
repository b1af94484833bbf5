-- `put_sector` meets its contract: the four parts, each behind the one before.
use mathlib.Core.Path.{◌≡◌}
use mathlib.Core.List.{◌++◌}
use Prim.Native.Nat.{◌+◌}
use native.Mathlib.Omega.{arith}
use lib.ListN.{length, length-append}
use Rattle.format.specs.Lent.{bytes_of}
use Rattle.format.specs.Sector.{Sector}
use Rattle.format.specs.Written.{inner_gap, written_key, written_data, written_sector}
use Rattle.format.proofs.Cells.Field.{length_key}
use Rattle.format.proofs.Sector.Valid.{FitsCount}
use Rattle.encode.specs.Room.{as_sector}
use Rattle.encode.specs.Bytes.{count_bytes}
use Rattle.base.proofs.Laid.{laid_as, laid_next}
use Rattle.encode.proofs.Sectors.{count_length_lem, sector_bytes}
use Rattle.encode.proofs.put_sector.Goals as goal

pub returns-clause-bytes : goal.returns-clause-bytes
returns-clause-bytes c =
    let a = c.args in
    let one = c.put_count-p in
    let two = c.put_key-p in
    let three = c.put_gap-p in
    let four = c.put_data in
    let k = a.x.key.now in
    let d = a.x.body.now in
    let old = a.t.now in
    let S : Sector = as_sector a.x in
    let f : FitsCount S = record {
      flag_fits = omega (arith, c);
      cylinder_fits = omega (arith, c);
      head_fits = omega (arith, c);
      number_fits = omega (arith, c);
      key_fits = omega (arith, c);
      data_fits = omega (arith, c);
    } in
    let p : one.result ≡ 0 + length (count_bytes S) = omega (arith, count_length_lem S, one.ensures.place) in
    let q : two.result ≡ 0 + length (count_bytes S ++ written_key k) = omega (arith, length-append (count_bytes S) (written_key k), length_key k, two.ensures.place) in
    let r : three.result ≡ 0 + length ((count_bytes S ++ written_key k) ++ inner_gap) = omega (arith, length-append (count_bytes S ++ written_key k) inner_gap, three.ensures.place) in
    let m : _ = laid_next 0 _ (count_bytes S) (written_key k) old _ _ (omega arith) p one.ensures.bytes two.ensures.bytes in
    let n : _ = laid_next 0 _ (count_bytes S ++ written_key k) inner_gap old _ _ (omega arith) q m three.ensures.bytes in
    laid_as (((count_bytes S ++ written_key k) ++ inner_gap) ++ written_data d) (bytes_of (written_sector S)) old four.new.t (sector_bytes S f two.ensures.unmarked four.ensures.unmarked)
    (laid_next 0 _ ((count_bytes S ++ written_key k) ++ inner_gap) (written_data d) old _ _ (omega arith) r n four.ensures.bytes)
