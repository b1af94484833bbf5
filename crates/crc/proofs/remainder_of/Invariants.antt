-- `remainder_of` meets its contract: at each turn the two halves are those of the remainder of the bytes behind the pairs that are left.
use Rattle.std.proofs.Common.{◌≡◌, ◌+◌, ◌*◌, ◌/◌, ◌%◌, ◌≤◌, length, drop}
use Rattle.std.specs.Iterator.Adapters.{rev_source}
use Rattle.std.specs.Simd.{first_chunks}
use Rattle.std.specs.Slice.Iter.{iter_rest}
use Rattle.crc.specs.Check.{coefficients, remainder}
use Rattle.crc.proofs.remainder_of.Given as goal

-- What holds at each turn: the pairs that are left are the first ones, and the halves are those of the remainder of the bytes behind them.
abbrev pub invariant-loop-h : goal.invariant-loop-h
invariant-loop-h l =
    let left = iter_rest (rev_source l.h-iterator) in
    (length left ≤ length l.bytes / 2) × (left ≡ first_chunks 2 (length left) (drop (length l.bytes % 2) l.bytes))
    × (l.high * 256 + l.low ≡ remainder 0 (coefficients (drop (length l.bytes % 2 + length left * 2) l.bytes)))
