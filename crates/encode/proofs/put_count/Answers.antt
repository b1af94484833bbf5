-- `put_count` meets its contract.
use mathlib.Core.Path.{◌≡◌, ap, ◌∙◌}
use Prim.Native.Nat.{ℕ, ◌+◌}
use native.Mathlib.Omega.{arith}
use mathlib.Core.List.{List, ◌++◌}
use lib.ListN.{length}
use Rattle.format.specs.Lent.{bytes_of}
use Rattle.format.specs.Opening.{closing}
use Rattle.format.specs.Sector.{Sector}
use Rattle.format.specs.Written.{count_info, count_opening}
use Rattle.encode.specs.Room.{as_sector}
use Rattle.encode.specs.Bytes.{count_bytes}
use Rattle.base.specs.Laid.{laid_at}
use Rattle.base.proofs.Laid.{laid_next}
use Rattle.encode.proofs.Closing.{count_stored}
use Rattle.encode.proofs.Openings.{length_opening}
use Rattle.encode.proofs.put_count.Goals as goal

pub returns-clause-bytes : goal.returns-clause-bytes
unfolding count_bytes
returns-clause-bytes c =
    let a = c.args in
    let one = c.put_opening-p in
    let two = c.put_field in
    let S : Sector = as_sector a.x in
    let e : one.result ≡ 0 + length (bytes_of (count_opening a.x.first)) = omega (arith, length_opening a.x.first, one.ensures.place) in
    laid_next 0 _ (bytes_of (count_opening a.x.first)) (count_info S ++ closing (count_info S)) a.t.now _ _ (omega arith) e one.ensures.bytes
    (two.ensures.bytes ∙ ap (λ (l : List ℕ). laid_at one.result (l ++ closing l) one.new.t)
    (count_stored S c.to_be_bytes.result c.to_be_bytes-2.result c.to_be_bytes-3.result (omega arith) c.to_be_bytes.ensures (omega arith) c.to_be_bytes-2.ensures (omega arith) c.to_be_bytes-3.ensures))
