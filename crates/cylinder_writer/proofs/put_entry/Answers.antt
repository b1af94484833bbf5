-- `put_entry` meets its contract.
use Rattle.std.proofs.Common.{◌≡◌, ◌/◌, ◌%◌, arith}
use Rattle.std.proofs.lemmas.List.{drop-drop}
use Rattle.base.specs.Laid.{laid_over}
use Rattle.cylinder.specs.File.{two_bytes, four_bytes}
use Rattle.cylinder_writer.proofs.put_entry.Goals as goal

pub returns : goal.returns
unfolding laid_over two_bytes four_bytes
returns c =
    let a = c.args in
    let e : a.l / 256 % 256 ≡ a.l / 256 = omega arith in
    let h : a.offset / 16777216 % 256 ≡ a.offset / 16777216 = omega arith in
    rw (c.copy_from_slice.ensures.after, c.to_be_bytes.ensures, c.copy_from_slice-2.ensures.after, c.to_be_bytes-2.ensures, e, h, drop-drop 4 2 a.out.now)
