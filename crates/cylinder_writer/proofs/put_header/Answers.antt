-- `put_header` meets its contract.
use Rattle.std.proofs.Common.{◌≡◌, ◌/◌, ◌%◌, arith}
use Rattle.base.specs.Laid.{laid_over}
use Rattle.cylinder.specs.File.{two_bytes, header}
use Rattle.cylinder_writer.proofs.put_header.Goals as goal

pub returns : goal.returns
unfolding laid_over two_bytes header
returns c =
    let n = c.args.n in
    let e : n / 256 % 256 ≡ n / 256 = omega arith in
    rw (c.copy_from_slice.ensures.after, c.to_be_bytes.ensures, e)
