-- `unpack` meets its contract: at each turn the marks of the bytes passed are written, then those of the last byte.
use Rattle.std.proofs.Common.{◌≡◌, ℕ, ◌+◌, ◌-◌, ◌*◌, ◌/◌, ◌%◌, ◌≤◌, List, length, get_or, take, drop, refl, sym, ap, ◌∙◌, arith}
use Rattle.base.specs.Indexed.{join_to, list_to}
use Rattle.base.specs.Laid.{laid_over, laid_at}
use Rattle.base.proofs.Lists.{cut_length, part_length}
use Rattle.base.proofs.Indexed.{length_list}
use Rattle.cylinder.specs.Packed.{bit_of, unpacked}
use Rattle.cylinder_layout.proofs.Part.{part_laid}
use Rattle.cylinder_reader.proofs.Marks.{bits_laid}
use Rattle.cylinder_reader.proofs.unpacking.unpack.Goals as goal

pub loop-i-init : goal.loop-i-init
unfolding laid_over unpacked join_to
loop-i-init c = refl

pub loop-i-preserved : goal.loop-i-preserved
loop-i-preserved c =
    let a = c.args in
    let l = c.loop-i in
    let p = l.i * 8 in
    let x = get_or a.bytes.now l.i 0 in
    let n : p + 8 - p ≡ 8 = omega arith in
    let m : length (take (p + 8 - p) (drop p l.out)) ≡ 8 = cut_length p 8 l.out (omega arith) in
    let e : c.put_bits.new.out ≡ list_to (bit_of x) 8 = c.put_bits.ensures ∙ rw m in
    let z : p + 8 ≡ (l.i + 1) * 8 = omega arith in
    let g = part_laid p (p + 8 - p) l.out c.put_bits.new.out (ap length e ∙ length_list (bit_of x) 8 ∙ sym n) ∙ ap (λ (xs : List ℕ). laid_at p xs l.out) e in
    bits_laid a.bytes.now l.i 8 a.out.now l.out _ (omega arith) l.invariant g ∙ rw z

pub returns-then-l-ne0 : goal.returns-then-l-ne0
returns-then-l-ne0 c =
    let a = c.args in
    let l = c.loop-i in
    let w = a.l / 8 in
    let r = a.l % 8 in
    let put = c.put_bits-then-l-ne0 in
    let x = get_or a.bytes.now w 0 in
    let i : l.i ≡ w = omega arith in
    let z : w * 8 + r ≡ a.l = omega arith in
    let n : a.l - w * 8 ≡ r = omega arith in
    let h : r ≤ 8 = omega arith in
    let m : length (take (a.l - w * 8) (drop (w * 8) l.out)) ≡ r = rw n (part_length (w * 8) r l.out (omega arith)) in
    let e : put.new.out ≡ list_to (bit_of x) r = put.ensures ∙ rw m in
    let g = part_laid (w * 8) (a.l - w * 8) l.out put.new.out (ap length e ∙ length_list (bit_of x) r ∙ sym n) ∙ ap (λ (xs : List ℕ). laid_at (w * 8) xs l.out) e in
    bits_laid a.bytes.now w r a.out.now l.out _ h (rw i at l.invariant) g ∙ rw z
