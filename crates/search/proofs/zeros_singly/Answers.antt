-- `zeros_singly` meets its contract: the zeros are those passed and those from place i on.
use native.Mathlib.Omega.{arith}
use native.Mathlib.Numerals.{add-one}
use Rattle.search.proofs.Zero.{zeros_on, zeros_off, zeros_none}
use Rattle.search.proofs.zeros_singly.Goals as goal

pub loop-i-init : goal.loop-i-init
loop-i-init c = omega arith

pub returns-then-byte-ne0 : goal.returns-then-byte-ne0
returns-then-byte-ne0 c =
    let s = c.args.bytes.now in
    let l = c.loop-i in
    omega (arith, l.invariant, zeros_off s l.i (omega arith) c.if-byte-ne0.true)

pub loop-i-preserved : goal.loop-i-preserved
loop-i-preserved c =
    let s = c.args.bytes.now in
    let l = c.loop-i in
    rw (add-one l.i) (omega (arith, l.invariant, zeros_on s l.i (omega arith) c.if-byte-ne0.false))

pub returns : goal.returns
returns c =
    let s = c.args.bytes.now in
    let l = c.loop-i in
    omega (arith, l.invariant, zeros_none s l.i (omega arith))
