-- The results of the calls from C: fields packed into one number of 64 bits.
use Rattle.std.specs.Prelude.{ℕ, ◌+◌, ◌*◌, ◌%◌, List, length, Result, Ok, Err}
use Rattle.format.specs.Answer.{Answer, as_numbers}
use Rattle.format.specs.Judged.{Judged, good, refused, answer_of}
use Rattle.format.specs.Blocks.{Wanted, Part}
use Rattle.format.specs.Listing.{Listed}
use Rattle.format.specs.Walk.{Visited}
use Rattle.format.specs.declared.Answer.{Answer as AnswerCode}
use Rattle.reader.specs.Finding.{as_visited}
use Rattle.reader.specs.declared.walk.Visited.{Visited as VisitedCode}
use Rattle.format.specs.Written.{After}
use Rattle.format.specs.PairFind.{Paired, of_first, pair_find}
use Rattle.listing.specs.Filling.{records_of}
use Rattle.cylinder.specs.Cylinder.{Cylinder, track_count}
use Rattle.cylinder.specs.Writing.{file_bytes}
use Rattle.cylinder.specs.Reading.{cylinder_read}

-- An answer: bits 0 to 7 number, 8 and 9 second number, 16 to 31 place.
unfoldable pub packed_answer : Answer → ℕ
packed_answer a = a.number + a.fault % 4 * 256 + a.place % 65536 * 65536

-- What stands after a call that writes a pair: its packed answer, and what the lent track and marks hold.
pub record PackedAfter : Type 0 where
  pub result : ℕ
  pub track : List ℕ
  pub marks : List ℕ

-- These three.
abbrev pub packed_after : ℕ → List ℕ → List ℕ → PackedAfter
packed_after r t m = record { result = r; track = t; marks = m }

-- The same with the answer packed.
abbrev pub packed : After → PackedAfter
packed x = packed_after (packed_answer x.answer) x.track x.marks

-- An answer with a number of sectors in bits 32 to 47.
unfoldable pub packed_count : Answer → ℕ → ℕ
packed_count a n = packed_answer a + n % 65536 * 0x100000000

-- List: its answer and the number of sectors, 0 where it refuses.
abbrev pub packed_listing : Judged (List Listed) → ℕ
packed_listing j = packed_count (answer_of j) (length (records_of j))

-- An answer with a number in bits 32 to 63.
unfoldable pub packed_number : Answer → ℕ → ℕ
packed_number a n = packed_answer a + n % 0x100000000 * 0x100000000

-- Reading a cylinder's file: its answer and the number of tracks, 0 where it refuses.
abbrev pub packed_reading : Judged Cylinder → ℕ
packed_reading j = packed_number (answer_of j) (track_count (cylinder_read j))

-- Writing one: its answer and the length of the file, 0 where it refuses.
abbrev pub packed_writing : Judged (List ℕ) → ℕ
packed_writing j = packed_number (answer_of j) (length (file_bytes j))

-- The start of a part in bits 32 to 47 and its size in bits 48 to 63.
unfoldable pub packed_bounds : Part → ℕ
packed_bounds x = x.start % 65536 * 0x100000000 + x.size % 65536 * 0x1000000000000

-- A part that is found, or its refusal.
unfoldable pub packed_part : Judged Part → ℕ
packed_part (good x) = packed_bounds x
packed_part (refused a) = packed_answer a

-- The same of two tracks: bit 15 is 1 where it speaks of the second.
unfoldable pub packed_paired : Paired → ℕ
packed_paired p = p.which * 32768 + packed_part p.outcome

-- A candidate: bits 8 to 15 flag, 16 to 31 place, 32 to 39 S, 40 to 47 KL, 48 to 63 DL.
unfoldable pub packed_visited : Visited → ℕ
packed_visited v =
    v.flag * 256
    + v.place % 65536 * 65536
    + v.number * 0x100000000
    + v.key_length % 256 * 0x10000000000
    + v.data_length % 65536 * 0x1000000000000

-- What a step gives as the code packs it: the candidate, or the numbers of an answer, which may be any three.
abbrev pub numbered_visit : Result VisitedCode AnswerCode → Judged Visited
numbered_visit (Ok v) = good (as_visited v)
numbered_visit (Err a) = refused (as_numbers a)

-- A step: the candidate that it comes to, or the number of its refusal alone.
unfoldable pub packed_visit : Judged Visited → ℕ
packed_visit (good v) = packed_visited v
packed_visit (refused a) = a.number

-- Pair find of the part that is asked for, where t, m is the first pair and u, v the second; a refusal of what is asked for speaks of the first.
unfoldable pub pair_find_by : ℕ → Judged Wanted → List ℕ → List ℕ → List ℕ → List ℕ → Paired
pair_find_by s (good w) t m u v = pair_find s w t m u v
pair_find_by s (refused a) t m u v = of_first (refused a)
