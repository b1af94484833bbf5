-- `put_head` meets its contract: the three parts, each behind the one before.
use mathlib.Core.Path.{◌≡◌, ap, ◌∙◌}
use mathlib.Core.List.{List, ◌∷◌, ◌++◌, append_assoc}
use Prim.Native.Nat.{ℕ, ◌+◌}
use native.Mathlib.Omega.{arith}
use lib.ListN.{length, replicate, length-append}
use Rattle.format.specs.Address.{address_bytes}
use Rattle.format.specs.Written.{home_gap, written_block}
use Rattle.format.specs.Blank.{written_head}
use Rattle.format.proofs.Cells.Field.{length_block}
use Rattle.base.specs.Laid.{laid_at}
use Rattle.encode.specs.Room.{address_of}
use Rattle.base.proofs.Laid.{laid_next}
use Rattle.encode.proofs.Closing.{address_stored}
use Rattle.encode.proofs.put_head.Goals as goal

pub returns : goal.returns
unfolding written_head address_bytes
returns c =
    let a = c.args in
    let one = c.put_run-p in
    let two = c.put_block-p in
    let three = c.put_run in
    let old = a.t.now in
    let info : List ℕ = a.flag ∷ address_bytes (address_of a.cylinder a.head) in
    let front : List ℕ = replicate 30 0x00 in
    let q : two.result ≡ 0 + length (front ++ written_block info) = omega (arith, length-append front (written_block info), length_block info, one.ensures.place, two.ensures.place) in
    let m : _ = laid_next 0 _ front (written_block info) old _ _ (omega arith) one.ensures.place one.ensures.bytes
    (two.ensures.bytes ∙ ap (λ (l : List ℕ). laid_at one.result (written_block (a.flag ∷ l)) one.new.t)
    (address_stored (address_of a.cylinder a.head) c.to_be_bytes.result c.to_be_bytes-2.result (omega arith) c.to_be_bytes.ensures (omega arith) c.to_be_bytes-2.ensures)) in
    laid_next 0 _ (front ++ written_block info) home_gap old _ _ (omega arith) q m three.ensures.bytes
    ∙ ap (λ (l : List ℕ). laid_at 0 l old) (append_assoc front (written_block info) home_gap)
