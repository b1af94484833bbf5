-- What is known of a file that reading does not refuse by itself.
use mathlib.Core.Path.{◌≡◌}
use Prim.Native.Nat.{ℕ, ◌+◌, ◌≤◌, ◌<◌}
use native.Mathlib.Omega.{arith}
use mathlib.Core.Bool.{true}
use mathlib.Core.List.{List}
use lib.ListN.{length}
use lib.Dec.{leb, eqb}
use borrow.Author.Tests.{leb-true, le-leb, eqb-true, eq-eqb}
use Rattle.base.specs.Indexed.{sum_to}
use Rattle.base.proofs.Indexed.{sum_next, sum_within}
use Rattle.format.specs.Answer.{lent_wrong, header_wrong, offset_wrong, file_length_wrong, spare_bits_set}
use Rattle.format.specs.Judged.{good}
use Rattle.format.proofs.Base.Judged.{require_good}
use Rattle.cylinder.specs.Cylinder.{lengths_right}
use Rattle.cylinder.specs.Packed.{packed_size}
use Rattle.cylinder.specs.File.{header_length, table_end, stored_size, offset_of}
use Rattle.cylinder.specs.Reading.{track_count_in, length_in, offset_due, header_right, offsets_right, spares_clear, judge_file}
use Rattle.cylinder.proofs.Decides.{decides_header}

-- Every test of reading holds of the file.
pub record SoundFile (f : List ℕ) : Type 0 where
  pub header_there : header_length ≤ length f
  pub header_right_holds : header_right f ≡ true
  pub table_there : table_end (track_count_in f) ≤ length f
  pub lengths_right_holds : lengths_right (length_in f) (track_count_in f) ≡ true
  pub offsets_right_holds : offsets_right f ≡ true
  pub length_due : length f ≡ offset_due f (track_count_in f)
  pub spares_clear_holds : spares_clear f ≡ true

-- Of a file that is not refused each test holds,
pub file_sound : (f : List ℕ) → judge_file f ≡ good tt → SoundFile f
unfolding judge_file
file_sound f e =
    let a = require_good (leb header_length (length f)) file_length_wrong _ tt e in
    let b = require_good (header_right f) header_wrong _ tt a.1 in
    let c = require_good (leb (table_end (track_count_in f)) (length f)) file_length_wrong _ tt b.1 in
    let d = require_good (lengths_right (length_in f) (track_count_in f)) lent_wrong _ tt c.1 in
    let o = require_good (offsets_right f) offset_wrong _ tt d.1 in
    let l = require_good (eqb (length f) (offset_due f (track_count_in f))) file_length_wrong _ tt o.1 in
    let s = require_good (spares_clear f) spare_bits_set _ tt l.1 in
    record {
      header_there = leb-true _ _ a.0;
      header_right_holds = b.0;
      table_there = leb-true _ _ c.0;
      lengths_right_holds = d.0;
      offsets_right_holds = o.0;
      length_due = eqb-true _ _ l.0;
      spares_clear_holds = s.0;
    }

-- and a file of which each holds is not refused.
pub sound_file : (f : List ℕ) → SoundFile f → judge_file f ≡ good tt
unfolding judge_file
sound_file f s =
    rw (le-leb _ _ s.header_there, s.header_right_holds, le-leb _ _ s.table_there, s.lengths_right_holds, s.offsets_right_holds, eq-eqb _ _ s.length_due, s.spares_clear_holds)

-- One to ten tracks are named by a right header.
pub header_count : (f : List ℕ) → header_right f ≡ true → (1 ≤ track_count_in f) × (track_count_in f ≤ 10)
header_count f e = ((decides_header f).pass e).0

-- Each track is due right behind the one before it.
pub offset_next : (n : ℕ) (l : ℕ → ℕ) (k : ℕ) → offset_of n l (k + 1) ≡ offset_of n l k + l k + packed_size (l k)
unfolding offset_of
offset_next n l k = omega (arith, sum_next (λ j. stored_size (l j)) k)

-- The first track of a file is due right behind the table,
pub due_first : (f : List ℕ) → offset_due f 0 ≡ table_end (track_count_in f)
unfolding offset_due offset_of sum_to
due_first f = omega arith

-- each next one right behind the one before it,
pub due_next : (f : List ℕ) (k : ℕ) → offset_due f (k + 1) ≡ offset_due f k + length_in f k + packed_size (length_in f k)
unfolding offset_due
due_next f k = offset_next (track_count_in f) (length_in f) k

-- and none reaches behind where a later one is due,
pub due_within : (f : List ℕ) (n k : ℕ) → k < n → offset_due f k + length_in f k + packed_size (length_in f k) ≤ offset_due f n
unfolding offset_due offset_of
due_within f n k h = omega (arith, sum_within (λ j. stored_size (length_in f j)) k n h)

-- so that each track of a sound file lies in it, and its packed marks do.
pub piece_within : (f : List ℕ) → SoundFile f → (k : ℕ) → k < track_count_in f → offset_due f k + length_in f k + packed_size (length_in f k) ≤ length f
piece_within f s k h = omega (arith, s.length_due, due_within f (track_count_in f) k h)
