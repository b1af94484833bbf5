-- `pack` meets its contract: at each turn the bytes passed are written, then that of the marks that are left.
use Rattle.std.proofs.Common.{◌≡◌, ◌/◌, ◌*◌, ◌+◌, length, refl, sym, ◌∙◌, arith}
use Rattle.base.specs.Indexed.{join_to}
use Rattle.base.specs.Laid.{laid_over}
use Rattle.base.proofs.Filling.{list_store}
use borrow.Author.Tests.{eqb-true, eqb-false}
use Rattle.cylinder.specs.Packed.{packed_size, octet_at, packed}
use Rattle.cylinder_writer.proofs.Octets.{octet_chunk, octet_rest}
use Rattle.cylinder_writer.proofs.packing.pack.Goals as goal

pub loop-i-init : goal.loop-i-init
unfolding laid_over join_to
loop-i-init c = refl

pub loop-i-preserved : goal.loop-i-preserved
loop-i-preserved c =
    let a = c.args in
    let l = c.loop-i in
    let m = a.marks.now in
    let e = rw c.as_chunks.ensures.front at c.octet_of.ensures in
    list_store (λ j. octet_at m (j * 8)) l.i c.octet_of.result a.out.now l.out (omega arith) l.invariant (e ∙ octet_chunk m l.i (omega (arith, c.as_chunks.ensures.front_len)))

pub returns-then-not-is_empty : goal.returns-then-not-is_empty
unfolding packed
returns-then-not-is_empty c =
    let a = c.args in
    let l = c.loop-i in
    let m = a.marks.now in
    let k = c.as_chunks.ensures in
    let n = length c.as_chunks.result.0.now in
    let o = c.octet_of-then-not-is_empty in
    let i : l.i ≡ n = omega arith in
    let some = eqb-false (length c.as_chunks.result.1.now) 0 (sym c.is_empty.ensures ∙ c.if-not-is_empty.true) in
    let b = rw (c.copy_from_slice.ensures.after, k.back) at o.ensures in
    let e : o.result ≡ octet_at m (n * 8) = b ∙ octet_rest m (length m / 8 * 8) _ ∙ rw k.front_len in
    let w = list_store (λ j. octet_at m (j * 8)) n o.result a.out.now l.out (omega (arith, k.front_len)) (rw i at l.invariant) e in
    let z : n + 1 ≡ packed_size (length m) = omega (arith, k.front_len, k.back_len) in
    w ∙ rw z

pub returns-else-not-is_empty : goal.returns-else-not-is_empty
unfolding packed
returns-else-not-is_empty c =
    let a = c.args in
    let l = c.loop-i in
    let k = c.as_chunks.ensures in
    let none = eqb-true (length c.as_chunks.result.1.now) 0 (sym c.is_empty.ensures ∙ c.if-not-is_empty.false) in
    let e : l.i ≡ packed_size (length a.marks.now) = omega (arith, k.front_len, k.back_len) in
    l.invariant ∙ rw e
