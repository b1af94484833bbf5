-- `remainder_wide` meets its contract: at each turn the lanes of the words are the remainder of the bytes passed.
use Rattle.std.proofs.Common.{◌≡◌, ◌+◌, ◌*◌, ◌%◌, length, take}
use Rattle.crc.specs.Check.{coefficients, remainder}
use Rattle.crc.specs.Word.{lanes}
use Rattle.crc.proofs.wide.remainder_wide.Given as goal

-- What holds at each turn: the lanes are the remainder of the bytes in front and of the words passed.
abbrev pub invariant-loop-word : goal.invariant-loop-word
invariant-loop-word l = lanes 4 l.sum ≡ remainder 0 (coefficients (take (length l.bytes % 8 + l.word-index * 8) l.bytes))
