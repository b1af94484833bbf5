-- What C takes out of the bits of a result is what the definitions give: no field is cut, and none runs into another.
use mathlib.Core.Path.{◌≡◌, refl, sym, ◌∙◌, subst}
use Prim.Native.Nat.{ℕ, ◌+◌, ◌*◌, ◌/◌, ◌%◌, ◌≤◌}
use native.Mathlib.Omega.{arith}
use mathlib.Core.List.{List}
use lib.ListN.{length}
use Rattle.format.specs.Answer.{Answer, done, wanted_wrong}
use Rattle.format.specs.Judged.{Judged, good, refused, answer_of}
use Rattle.format.specs.Address.{Address}
use Rattle.format.specs.Accept.{accept}
use Rattle.format.specs.Listing.{list}
use Rattle.format.specs.GapRule.{GapRule}
use Rattle.format.specs.Blank.{blank}
use Rattle.format.specs.Add.{add}
use Rattle.format.specs.Correct.{correct}
use Rattle.format.specs.Find.{find}
use Rattle.format.specs.Blocks.{Wanted, Part}
use Rattle.format.specs.Walk.{Visited, step}
use Rattle.format.specs.PairFind.{of_first, pair_find}
use Rattle.station.specs.Packed.{packed_answer, packed_count, packed_listing, packed_number, packed_reading, packed_writing, packed_bounds, packed_part, packed_paired, packed_visited, packed_visit}
use Rattle.format.specs.BlockFault.{SecondRight}
use Rattle.format.proofs.Faults.SecondNumber.{OutcomeRight, second_most, accept_second, list_second, find_second, pair_second, blank_second, add_second, correct_second}
use Rattle.listing.specs.Filling.{records_of}
use Rattle.listing.proofs.Listed.{listing}
use Rattle.cylinder.specs.Cylinder.{Cylinder, track_count}
use Rattle.cylinder.specs.Writing.{write_cylinder, file_bytes}
use Rattle.cylinder.specs.Reading.{Room, read_cylinder, cylinder_read}
use Rattle.cylinder.proofs.Places.{PlaceZero, read_places, write_places}
use Rattle.cylinder.proofs.Bounds.{read_most, write_most}
use Rattle.station.proofs.Places.{Row, accept_within, list_within, blank_within, add_within, correct_within}
use Rattle.station.proofs.Fields.{Inside, Fits, find_inside, pair_inside, step_fits}

-- Bits 0 to 7.
abbrev pub number_in : ℕ → ℕ
number_in r = r % 256

-- Bits 8 and 9.
abbrev pub fault_in : ℕ → ℕ
fault_in r = r / 0x100 % 4

-- Bit 15.
abbrev pub which_in : ℕ → ℕ
which_in r = r / 0x8000 % 2

-- Bits 16 to 31.
abbrev pub place_in : ℕ → ℕ
place_in r = r / 0x10000 % 65536

-- Bits 32 to 47.
abbrev pub start_in : ℕ → ℕ
start_in r = r / 0x100000000 % 65536

-- Bits 48 to 63.
abbrev pub size_in : ℕ → ℕ
size_in r = r / 0x1000000000000 % 65536

-- The bits of r tell the answer a: its number, its second number and its place.
abbrev pub TellsAnswer : ℕ → Answer → Type 0
TellsAnswer r a = (number_in r ≡ a.number) × (fault_in r ≡ a.fault) × (place_in r ≡ a.place)

-- A row of the table, with the second number that goes with its number.
answer_read : (a : Answer) → Row a → SecondRight a → TellsAnswer (packed_answer a) a
unfolding packed_answer
answer_read a l s = let k = second_most a s in (omega arith, omega arith, omega arith)

-- Accept's answer.
pub accept_read : (t m : List ℕ) → TellsAnswer (packed_answer (answer_of (accept t m))) (answer_of (accept t m))
accept_read t m = answer_read (answer_of (accept t m)) (accept_within t m) (accept_second t m)

-- Bits 32 to 47 of List's result.
abbrev pub count_in : ℕ → ℕ
count_in r = start_in r

count_read : (a : Answer) (n : ℕ) → Row a → SecondRight a → n ≤ 67 → TellsAnswer (packed_count a n) a × (count_in (packed_count a n) ≡ n)
unfolding packed_count packed_answer
count_read a n l s k = let f = second_most a s in ((omega arith, omega arith, omega arith), omega arith)

-- List's answer, and the number of sectors.
pub list_read : (n : ℕ) (t m : List ℕ)
    → TellsAnswer (packed_listing (list n t m)) (answer_of (list n t m)) × (count_in (packed_listing (list n t m)) ≡ length (records_of (list n t m)))
list_read n t m = count_read (answer_of (list n t m)) (length (records_of (list n t m))) (list_within n t m) (list_second n t m) (listing n t m).count_most

-- Bits 32 to 63 of a result of the calls on a cylinder's file.
abbrev pub given_in : ℕ → ℕ
given_in r = r / 0x100000000

-- Of a number b of at most 24 with n above its 32 bits, bits 0 to 31 tell b alone, and the bits above them n.
number_below : (b n : ℕ) → b ≤ 24 → let r = b + n * 0x100000000 in (number_in r ≡ b) × (fault_in r ≡ 0) × (place_in r ≡ 0) × (given_in r ≡ n)
number_below b n h = (omega arith, omega arith, omega arith, omega arith)

-- The bits of an answer at place 0 with a number n of 32 bits tell both.
given_read : (a : Answer) (n : ℕ) → PlaceZero a → n ≤ 0xFFFFFFFF → TellsAnswer (packed_number a n) a × (given_in (packed_number a n) ≡ n)
unfolding packed_number packed_answer
given_read a n s k =
    let m : n % 0x100000000 ≡ n = omega arith in
    let e : a.number + a.fault % 4 * 256 + a.place % 65536 * 65536 ≡ a.number = omega (arith, s.1, s.2) in
    let b = number_below a.number n s.0 in
    rw (m, e) ((b.0, b.1 ∙ sym s.1, b.2 ∙ sym s.2), b.3)

-- The answer of reading a cylinder's file, and the number of its tracks.
pub cylinder_read_read : (f : List ℕ) (r : Room) → let j = read_cylinder f r in TellsAnswer (packed_reading j) (answer_of j) × (given_in (packed_reading j) ≡ track_count (cylinder_read j))
cylinder_read_read f r = given_read _ _ (read_places f r) (omega (arith, read_most f r))

-- The answer of writing one, and its length.
pub cylinder_write_read : (c : Cylinder) (room : ℕ) → let j = write_cylinder c room in TellsAnswer (packed_writing j) (answer_of j) × (given_in (packed_writing j) ≡ length (file_bytes j))
cylinder_write_read c room = given_read _ _ (write_places c room) (omega (arith, write_most c room))

-- The bits of Blank's result tell its answer.
pub blank_read : (l k : ℕ) (own : Address) (flag : ℕ) (partner : Address) (s : ℕ) (key body : List ℕ) → let a = answer_of (blank l k own flag partner s key body) in TellsAnswer (packed_answer a) a
blank_read l k own flag partner s key body =
    let n = blank_second l k own flag partner s key body in
    answer_read _ (blank_within l k own flag partner s key body) (rw n.0 n.1)

-- Whatever the rule of the gap.
module _ (rule : GapRule) where
  -- The bits of Add's result tell its answer.
  pub add_read : (t m : List ℕ) (l k b7 s : ℕ) (key body : List ℕ) → let a = answer_of (add rule t m l k b7 s key body) in TellsAnswer (packed_answer a) a
  add_read t m l k b7 s key body = answer_read _ (add_within rule t m l k b7 s key body) (add_second rule t m l k b7 s key body)

  -- The bits of Correct's result tell its answer.
  pub correct_read : (t m : List ℕ) (l k s : ℕ) (key body : List ℕ) → let a = answer_of (correct rule t m l k s key body) in TellsAnswer (packed_answer a) a
  correct_read t m l k s key body = answer_read _ (correct_within rule t m l k s key body) (correct_second rule t m l k s key body)

-- The bits of r tell the outcome j and nothing else.
abbrev pub Tells : ℕ → Judged Part → Type 0
Tells r (good x) = TellsAnswer r done × (start_in r ≡ x.start) × (size_in r ≡ x.size)
Tells r (refused a) = TellsAnswer r a × (start_in r ≡ 0) × (size_in r ≡ 0)

-- What stands above the low 48 bits.
size_above : (q n : ℕ) → q ≤ 0xFFFFFFFFFFFF → n ≤ 4002 → size_in (q + n * 0x1000000000000) ≡ n
size_above q n k l = omega arith

-- The size of a part that is found, with the track in bit 15.
size_read : (x : Part) → x.start + x.size ≤ 4002 → (b : ℕ) → b ≤ 1 → size_in (b * 32768 + packed_bounds x) ≡ x.size
unfolding packed_bounds
size_read x l b k =
    let q : ℕ = b * 32768 + x.start % 65536 * 0x100000000 in
    let e : q + x.size * 0x1000000000000 ≡ b * 32768 + packed_bounds x = omega arith in
    subst (λ (r : ℕ). size_in r ≡ x.size) e (size_above q x.size (omega arith) (omega arith))

-- A result of 32 bits has no size.
size_none : (r : ℕ) → r ≤ 0xFFFFFFFF → size_in r ≡ 0
size_none r l = omega arith

-- An outcome with the track in bit 15.
part_read : (j : Judged Part) → Inside j → OutcomeRight j → (b : ℕ) → b ≤ 1 → (which_in (b * 32768 + packed_part j) ≡ b) × Tells (b * 32768 + packed_part j) j
unfolding packed_part packed_bounds packed_answer
part_read (good x) l s b k = (omega arith, ((omega arith, omega arith, omega arith), omega arith, size_read x l b k))
part_read (refused a) l s b k =
    let n = second_most a s in
    (omega arith, ((omega arith, omega arith, omega arith), omega arith, size_none (b * 32768 + (a.number + a.fault % 4 * 256 + a.place % 65536 * 65536)) (omega arith)))

-- Pair find's track, and its part or refusal.
pub pair_read : (s : ℕ) (w : Wanted) (t m u v : List ℕ)
    → (which_in (packed_paired (pair_find s w t m u v)) ≡ (pair_find s w t m u v).which) × Tells (packed_paired (pair_find s w t m u v)) (pair_find s w t m u v).outcome
unfolding packed_paired
pair_read s w t m u v =
    let i = pair_inside s w t m u v in
    part_read (pair_find s w t m u v).outcome i.1 (pair_second s w t m u v) (pair_find s w t m u v).which i.0

-- Find's part or refusal.
pub find_read : (s : ℕ) (w : Wanted) (t m : List ℕ) → Tells (packed_part (find s w t m)) (find s w t m)
find_read s w t m =
    let r : ℕ = packed_part (find s w t m) in
    let e : 0 * 32768 + r ≡ r = omega arith in
    subst (λ (n : ℕ). Tells n (find s w t m)) e (part_read (find s w t m) (find_inside s w t m) (find_second s w t m) 0 (omega arith)).1

-- The bits of r tell what a step comes to: 8 to 15 flag, 16 to 31 place, 32 to 39 S, 40 to 47 KL, 48 to 63 DL.
abbrev pub TellsStep : ℕ → Judged Visited → Type 0
TellsStep r (good v) =
    (number_in r ≡ 0)
    × (r / 0x100 % 256 ≡ v.flag)
    × (place_in r ≡ v.place)
    × (r / 0x100000000 % 256 ≡ v.number)
    × (r / 0x10000000000 % 256 ≡ v.key_length)
    × (size_in r ≡ v.data_length)
TellsStep r (refused a) = (r ≡ a.number) × (a.number ≤ 16) × (a.place ≡ 0)

-- What a step comes to, where each field fits its bits.
visit_read : (j : Judged Visited) → Fits j → TellsStep (packed_visit j) j
unfolding packed_visit packed_visited
visit_read (good v) l = (omega arith, omega arith, omega arith, omega arith, omega arith, omega arith)
visit_read (refused a) l = (refl, l.0, l.1)

-- Walk's candidate or refusal.
pub step_read : (p : ℕ) (t m : List ℕ) → TellsStep (packed_visit (step p t m)) (step p t m)
step_read p t m = visit_read (step p t m) (step_fits p t m)

-- A part that is neither key nor data gives 14 at place 0, and of two tracks it speaks of the first.
pub other_read : (packed_part (refused wanted_wrong) ≡ 14) × (packed_paired (of_first (refused wanted_wrong)) ≡ 14)
unfolding packed_part packed_paired packed_answer
other_read = (refl, refl)
