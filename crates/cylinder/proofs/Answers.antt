-- Each answer of writing and reading is given exactly where the text says.
use mathlib.Core.Path.{◌≡◌, subst}
use mathlib.Core.Logic.{◌⊎◌, inl, inr, ⊎_elim, ◌↔◌}
use Prim.Native.Nat.{ℕ, ◌≤◌, ◌<◌}
use mathlib.Core.List.{List}
use lib.ListN.{length}
use lib.Dec.{leb, eqb}
use Rattle.format.specs.Answer.{Answer, done, lent_wrong, header_wrong, offset_wrong, file_length_wrong, spare_bits_set, buffer_too_short}
use Rattle.format.specs.Judged.{Judged, good, require, then, answer_of}
use Rattle.cylinder.specs.Cylinder.{Cylinder, track_count, lengths_right}
use Rattle.cylinder.specs.File.{header_length, table_end, cylinder_file}
use Rattle.cylinder.specs.Writing.{write_cylinder}
use Rattle.cylinder.specs.Reading.{track_count_in, length_in, offset_due, offsets_right, spares_clear, judge_file, cylinder_in, Room, room_for, read_cylinder}
use Rattle.cylinder.specs.Answers.{WrongTrackCount, WrongLent, ShortBuffer, Writable, WriteMeans, CutHeader, WrongHeader, CutTable, WholeTable, WrongLength, WrongOffset, RightOffsets, WrongEnd, WrongSpare, ShortRoom, Readable, ReadMeans}
use Rattle.cylinder.proofs.Decides.{Decides, decides_le, decides_eq, decides_count, decides_lengths, decides_lent, decides_header, decides_offsets, decides_clear, decides_room, decided, row}

module _ (c : Cylinder) (room : ℕ) where
  -- The test of the buffer decides whether it takes the file.
  decides_buffer : Decides (leb (length (cylinder_file c)) room) (length (cylinder_file c) ≤ room) (room < length (cylinder_file c))
  decides_buffer = decides_le (length (cylinder_file c)) room

  -- Every answer of writing says what the text gives for it.
  write_means : WriteMeans c room (answer_of (write_cylinder c room)).number
  unfolding write_cylinder
  write_means =
      let m : Judged (List ℕ) → Type 0 = λ j. WriteMeans c room (answer_of j).number in
      decided m (decides_count (track_count c)) header_wrong _ (λ q. q)
      (λ n. decided m (decides_lent c) lent_wrong _ (λ q. (n, q))
      (λ l. decided m decides_buffer buffer_too_short (good (cylinder_file c)) (λ q. ((n, l), q))
      (λ b. ((n, l), b))))

  -- An answer of writing says what the text gives for its number.
  write_says : (a : Answer) → answer_of (write_cylinder c room) ≡ a → WriteMeans c room a.number
  write_says a e = subst (λ (x : Answer). WriteMeans c room x.number) e write_means

  -- Writing gives 18 exactly where the number of tracks is not 1 to 10.
  pub write_18 : (answer_of (write_cylinder c room) ≡ header_wrong) ↔ WrongTrackCount c
  unfolding write_cylinder
  write_18 = (write_says header_wrong, λ q. rw ((decides_count (track_count c)).failed q))

  -- Writing gives 1 exactly where the number of tracks is right, and an L, the length of a slice or a mark is out of rule.
  pub write_1 : (answer_of (write_cylinder c room) ≡ lent_wrong) ↔ WrongLent c
  unfolding write_cylinder
  write_1 = (write_says lent_wrong, λ q. rw ((decides_count (track_count c)).passed q.0, (decides_lent c).failed q.1))

  -- Writing gives 24 exactly where all that is lent is right and the buffer is shorter than the file.
  pub write_24 : (answer_of (write_cylinder c room) ≡ buffer_too_short) ↔ ShortBuffer c room
  unfolding write_cylinder
  write_24 = (write_says buffer_too_short, λ q. rw ((decides_count (track_count c)).passed q.0.0, (decides_lent c).passed q.0.1, decides_buffer.failed q.1))

  -- Writing gives 0 exactly where all that is lent is right and the buffer takes the file.
  pub write_0 : (answer_of (write_cylinder c room) ≡ done) ↔ Writable c room
  unfolding write_cylinder
  write_0 = (write_says done, λ q. rw ((decides_count (track_count c)).passed q.0.0, (decides_lent c).passed q.0.1, decides_buffer.passed q.1))

  -- Writing gives any number exactly where the text gives it, and never a number that the text does not give.
  pub write_exactly : (n : ℕ) → ((answer_of (write_cylinder c room)).number ≡ n) ↔ WriteMeans c room n
  write_exactly n =
      let j : Judged (List ℕ) = write_cylinder c room in (
        λ e. subst (WriteMeans c room) e write_means,
        row j n done write_0.1 (row j n lent_wrong write_1.1 (row j n header_wrong write_18.1 (row j n buffer_too_short write_24.1 (λ z. absurd z)))),
      )

module _ (f : List ℕ) (r : Room) where
  -- The first test of the length decides whether the header is whole.
  decides_head : Decides (leb header_length (length f)) (header_length ≤ length f) (length f < header_length)
  decides_head = decides_le header_length (length f)

  -- The second test of the length decides whether the table is whole.
  decides_table : Decides (leb (table_end (track_count_in f)) (length f)) (table_end (track_count_in f) ≤ length f) (length f < table_end (track_count_in f))
  decides_table = decides_le (table_end (track_count_in f)) (length f)

  -- The third test of the length decides whether it is the one that is due.
  decides_end : Decides (eqb (length f) (offset_due f (track_count_in f))) (length f ≡ offset_due f (track_count_in f)) (length f ≡ offset_due f (track_count_in f) → ⊥)
  decides_end = decides_eq (length f) (offset_due f (track_count_in f))

  -- Every answer of reading says what the text gives for it.
  read_means : ReadMeans f r (answer_of (read_cylinder f r)).number
  unfolding read_cylinder judge_file
  read_means =
      let k : Unit {0} → Judged Cylinder = λ _. require (room_for f r) buffer_too_short (good (cylinder_in f)) in
      let m : Judged (Unit {0}) → Type 0 = λ j. ReadMeans f r (answer_of (then j k)).number in
      decided m decides_head file_length_wrong _ (λ q. inl q)
      (λ h. decided m (decides_header f) header_wrong _ (λ q. (h, q))
      (λ n. decided m decides_table file_length_wrong _ (λ q. inr (inl ((h, n), q)))
      (λ t. decided m (decides_lengths (length_in f) (track_count_in f)) lent_wrong _ (λ q. (((h, n), t), q))
      (λ l. decided m (decides_offsets f) offset_wrong _ (λ q. ((((h, n), t), l), q))
      (λ o. decided m decides_end file_length_wrong _ (λ q. inr (inr (((((h, n), t), l), o), q)))
      (λ e. decided m (decides_clear f) spare_bits_set _ (λ q. ((((((h, n), t), l), o), e), q))
      (λ s. decided (λ (j : Judged Cylinder). ReadMeans f r (answer_of j).number) (decides_room f r) buffer_too_short (good (cylinder_in f)) (λ q. (((((((h, n), t), l), o), e), s), q))
      (λ b. (((((((h, n), t), l), o), e), s), b)))))))))

  -- An answer of reading says what the text gives for its number.
  read_says : (a : Answer) → answer_of (read_cylinder f r) ≡ a → ReadMeans f r a.number
  read_says a e = subst (λ (x : Answer). ReadMeans f r x.number) e read_means

  -- Reading gives 18 exactly where the header is whole, and the number of tracks is not 1 to 10 or the zero field not zero.
  pub read_18 : (answer_of (read_cylinder f r) ≡ header_wrong) ↔ WrongHeader f
  unfolding read_cylinder judge_file
  read_18 = (read_says header_wrong, λ q. rw (decides_head.passed q.0, (decides_header f).failed q.1))

  -- A file whose table is whole is judged by its Ls and what follows them alone.
  table_judged : WholeTable f → judge_file f
      ≡ require (lengths_right (length_in f) (track_count_in f)) lent_wrong
      (require (offsets_right f) offset_wrong
      (require (eqb (length f) (offset_due f (track_count_in f))) file_length_wrong
      (require (spares_clear f) spare_bits_set
      (good tt))))
  unfolding judge_file
  table_judged q = rw (decides_head.passed q.0.0, (decides_header f).passed q.0.1, decides_table.passed q.1)

  -- Reading gives 1 exactly where the table is whole, and an L in it is out of range.
  pub read_1 : (answer_of (read_cylinder f r) ≡ lent_wrong) ↔ WrongLength f
  unfolding read_cylinder
  read_1 = (read_says lent_wrong, λ q. rw (table_judged q.0, (decides_lengths (length_in f) (track_count_in f)).failed q.1))

  -- Reading gives 19 exactly where the Ls are right, and an offset is not the one that is due.
  pub read_19 : (answer_of (read_cylinder f r) ≡ offset_wrong) ↔ WrongOffset f
  unfolding read_cylinder
  read_19 = (read_says offset_wrong, λ q. rw (table_judged q.0.0, (decides_lengths (length_in f) (track_count_in f)).passed q.0.1, (decides_offsets f).failed q.1))

  -- A file whose offsets are right is judged by its length and its spare bits alone.
  offsets_judged : RightOffsets f → judge_file f ≡ require (eqb (length f) (offset_due f (track_count_in f))) file_length_wrong (require (spares_clear f) spare_bits_set (good tt))
  offsets_judged q = rw (table_judged q.0.0, (decides_lengths (length_in f) (track_count_in f)).passed q.0.1, (decides_offsets f).passed q.1)

  -- A file of another length than is due is answered by 20.
  wrong_end : WrongEnd f → answer_of (read_cylinder f r) ≡ file_length_wrong
  unfolding read_cylinder
  wrong_end q = rw (offsets_judged q.0, decides_end.failed q.1)

  -- Reading gives 20 exactly where the file ends within its header, or, with all before it right, within its table or elsewhere than the table gives.
  pub read_20 : (answer_of (read_cylinder f r) ≡ file_length_wrong) ↔ (CutHeader f ⊎ (CutTable f ⊎ WrongEnd f))
  unfolding read_cylinder judge_file
  read_20 = (
    read_says file_length_wrong,
    ⊎_elim
        (λ q. rw (decides_head.failed q))
        (⊎_elim
        (λ q. rw (decides_head.passed q.0.0, (decides_header f).passed q.0.1, decides_table.failed q.1))
        wrong_end),
  )

  -- Reading gives 21 exactly where the length of the file is right, and a spare bit is set.
  pub read_21 : (answer_of (read_cylinder f r) ≡ spare_bits_set) ↔ WrongSpare f
  unfolding read_cylinder
  read_21 = (read_says spare_bits_set, λ q. rw (offsets_judged q.0.0, decides_end.passed q.0.1, (decides_clear f).failed q.1))

  -- Reading gives 24 exactly where the file is right, and one of the three that are lent for writing is too short.
  pub read_24 : (answer_of (read_cylinder f r) ≡ buffer_too_short) ↔ ShortRoom f r
  unfolding read_cylinder
  read_24 = (read_says buffer_too_short, λ q. rw (offsets_judged q.0.0.0, decides_end.passed q.0.0.1, (decides_clear f).passed q.0.1, (decides_room f r).failed q.1))

  -- Reading gives 0 exactly where the file is right, and each of the three that are lent for writing is long enough.
  pub read_0 : (answer_of (read_cylinder f r) ≡ done) ↔ Readable f r
  unfolding read_cylinder
  read_0 = (read_says done, λ q. rw (offsets_judged q.0.0.0, decides_end.passed q.0.0.1, (decides_clear f).passed q.0.1, (decides_room f r).passed q.1))

  -- Reading gives any number exactly where the text gives it, and never a number that the text does not give.
  pub read_exactly : (n : ℕ) → ((answer_of (read_cylinder f r)).number ≡ n) ↔ ReadMeans f r n
  read_exactly n =
      let j : Judged Cylinder = read_cylinder f r in (
        λ e. subst (ReadMeans f r) e read_means,
        row j n done read_0.1 (row j n lent_wrong read_1.1 (row j n header_wrong read_18.1 (row j n offset_wrong read_19.1
            (row j n file_length_wrong read_20.1 (row j n spare_bits_set read_21.1 (row j n buffer_too_short read_24.1 (λ z. absurd z))))))),
      )
