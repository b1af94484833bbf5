-- The answer of a call: its number, its second number and its place, with one name for each row of the table.
use Rattle.std.specs.Prelude.{ℕ, Result, Ok, Err}
use Rattle.format.specs.Layout.{home_first}
use Rattle.format.specs.Fault.{Fault, fault_number, as_fault}
use Rattle.format.specs.declared.Answer.{Answer as AnswerCode}
use Rattle.format.specs.declared.Refusal.{Refusal}
use Rattle.format.specs.declared.Refusal.TheVariants.{LentWrong, HomeMissing, HomeCheckWrong, HomeFieldsWrong, MarkStray, FirstCountMissing, CountCheckWrong, CountFieldsWrong, SpanTooShort, KeyWrong, DataWrong, SectorMissing, SectorRepeated, WantedWrong, RoomMissing, PairWrong, PatternWrong, HeaderWrong, OffsetWrong, FileLengthWrong, SpareBitsSet, BufferTooShort}

-- An answer: the number of its row in the table, the second number, and the place that it speaks of, in bytes after index.
pub record Answer : Type 0 where
  pub number : ℕ
  -- The second number: what is wrong with the block of answers 10 and 11; 0 with all others.
  pub fault : ℕ
  pub place : ℕ

-- The answer with number n and place p, of which the second number is 0.
abbrev pub answer_at : ℕ → ℕ → Answer
answer_at n p = record { number = n; fault = 0; place = p }

-- The answer with number n for a block at p in which f is at fault.
abbrev pub fault_at : ℕ → Fault → ℕ → Answer
fault_at n f p = record { number = n; fault = fault_number f; place = p }

-- The answer that the numbers of the code stand for.
abbrev pub as_numbers : AnswerCode → Answer
as_numbers a = record { number = a.number; fault = a.fault; place = a.place }

-- 0: done.
abbrev pub done : Answer
done = answer_at 0 0

-- 1: L, another lent length, a mark or the length of a list, or an L in the table of a cylinder's file is out of rule.
abbrev pub lent_wrong : Answer
lent_wrong = answer_at 1 0

-- 2: home opens nowhere in its window, which starts at 23.
abbrev pub home_missing : Answer
home_missing = answer_at 2 home_first

-- 3: the check or the closing byte of home at p is wrong.
abbrev pub home_check_wrong : ℕ → Answer
home_check_wrong p = answer_at 3 p

-- 4: flag, C or H of home at p is out of rule.
abbrev pub home_fields_wrong : ℕ → Answer
home_fields_wrong p = answer_at 4 p

-- 5: the mark at p belongs to no whole opening, or to one that starts too early, before the end of sector 0's count.
abbrev pub mark_stray : ℕ → Answer
mark_stray p = answer_at 5 p

-- 6: sector 0's count does not open at its place p.
abbrev pub first_count_missing : ℕ → Answer
first_count_missing p = answer_at 6 p

-- 7: the check or the closing byte of the count at p is wrong.
abbrev pub count_check_wrong : ℕ → Answer
count_check_wrong p = answer_at 7 p

-- 8: flag, C or H of the count at p is out of rule.
abbrev pub count_fields_wrong : ℕ → Answer
count_fields_wrong p = answer_at 8 p

-- 9: the count at p does not fit its span, or its blocks and the least gap do not.
abbrev pub span_too_short : ℕ → Answer
span_too_short p = answer_at 9 p

-- 10: opening, check or closing byte of the key at p is wrong.
abbrev pub key_wrong : Fault → ℕ → Answer
key_wrong f p = fault_at 10 f p

-- 11: the same of the data block at p, or it is not 00 where DL = 0.
abbrev pub data_wrong : Fault → ℕ → Answer
data_wrong f p = fault_at 11 f p

-- 12: there is no candidate with this S; or a walk has come to its end.
abbrev pub sector_missing : Answer
sector_missing = answer_at 12 0

-- 13: the count at p repeats the S of an earlier one; of Add, it carries the S of the new one.
abbrev pub sector_repeated : ℕ → Answer
sector_repeated p = answer_at 13 p

-- 14: a wanted field is out of rule.
abbrev pub wanted_wrong : Answer
wanted_wrong = answer_at 14 0

-- 15: fewer than 13 bytes would be left behind the last block.
abbrev pub room_missing : Answer
room_missing = answer_at 15 0

-- 16: the pair does not agree, or its first track has flag 11.
abbrev pub pair_wrong : Answer
pair_wrong = answer_at 16 0

-- 17: the bit cells of the byte at p are no legal pattern, or its mark stands on another value than FF.
abbrev pub pattern_wrong : ℕ → Answer
pattern_wrong p = answer_at 17 p

-- 18: the number of tracks is not 1 to 10, or the zero field of a cylinder's file is not zero.
abbrev pub header_wrong : Answer
header_wrong = answer_at 18 0

-- 19: an offset in the table of a cylinder's file is not where the track has to start.
abbrev pub offset_wrong : Answer
offset_wrong = answer_at 19 0

-- 20: a cylinder's file ends within its header or its table, or has another length than its table gives.
abbrev pub file_length_wrong : Answer
file_length_wrong = answer_at 20 0

-- 21: a spare bit behind the marks of a track is set in a cylinder's file.
abbrev pub spare_bits_set : Answer
spare_bits_set = answer_at 21 0

-- 24: a slice or list lent for writing is too short.
abbrev pub buffer_too_short : Answer
buffer_too_short = answer_at 24 0

-- The answer that a refusal of the code stands for.
abbrev pub as_refusal : Refusal → Answer
as_refusal LentWrong = lent_wrong
as_refusal HomeMissing = home_missing
as_refusal (HomeCheckWrong p) = home_check_wrong p
as_refusal (HomeFieldsWrong p) = home_fields_wrong p
as_refusal (MarkStray p) = mark_stray p
as_refusal (FirstCountMissing p) = first_count_missing p
as_refusal (CountCheckWrong p) = count_check_wrong p
as_refusal (CountFieldsWrong p) = count_fields_wrong p
as_refusal (SpanTooShort p) = span_too_short p
as_refusal (KeyWrong f p) = key_wrong (as_fault f) p
as_refusal (DataWrong f p) = data_wrong (as_fault f) p
as_refusal SectorMissing = sector_missing
as_refusal (SectorRepeated p) = sector_repeated p
as_refusal WantedWrong = wanted_wrong
as_refusal RoomMissing = room_missing
as_refusal PairWrong = pair_wrong
as_refusal (PatternWrong p) = pattern_wrong p
as_refusal HeaderWrong = header_wrong
as_refusal OffsetWrong = offset_wrong
as_refusal FileLengthWrong = file_length_wrong
as_refusal SpareBitsSet = spare_bits_set
as_refusal BufferTooShort = buffer_too_short

-- The answer of an outcome of the code: 0 where it is done, else that of its refusal.
abbrev pub as_answer : {A : Type 0} → Result A Refusal → Answer
as_answer (Ok x) = done
as_answer (Err e) = as_refusal e

-- The number that an outcome of the code hands back, 0 where it refuses.
abbrev pub given : Result ℕ Refusal → ℕ
given (Ok n) = n
given (Err e) = 0
