-- What a test decides: the fact that stands where it holds, and the one that stands where it fails.
use mathlib.Core.Path.{◌≡◌, sym, ap, ◌∙◌}
use mathlib.Core.Logic.{◌⊎◌, inl, inr, ⊎_elim}
use Prim.Native.Nat.{ℕ, zero, suc, ◌+◌, ◌-◌, ◌*◌, ◌≤◌, ◌<◌}
use native.Mathlib.Omega.{arith}
use mathlib.Core.Bool.{Bool, true, false, ◌&&◌}
use mathlib.Core.List.{List, [], ◌∷◌}
use lib.ListN.{length}
use lib.Dec.{leb, ltb, eqb}
use borrow.Author.Tests.{leb-true, leb-false, eqb-true, eqb-false, ltb-false}
use Rattle.base.specs.Indexed.{sum_to, all_to}
use Rattle.base.specs.Pick.{pick}
use Rattle.base.proofs.Tests.{cases, false-true, and_both, and_make, and_right}
use Rattle.base.proofs.Indexed.{all_holds}
use Rattle.format.specs.Answer.{Answer}
use Rattle.format.specs.Judged.{Judged, refused, require, answer_of}
use Rattle.format.specs.Layout.{shortest_track, longest_track}
use Rattle.format.specs.Lent.{length_right, marks_legal}
use Rattle.format.proofs.Base.Marks.{mark_at_lem}
use Rattle.cylinder.specs.Cylinder.{Cylinder, track_count, length_of, start_of, track_count_right, lengths_right, cylinder_lent}
use Rattle.cylinder.specs.Packed.{packed_size, mark_at, spare_clear}
use Rattle.cylinder.specs.Reading.{track_count_in, zero_field, length_in, offset_in, offset_due, packed_in, header_right, offsets_right, spares_clear, Room, room_for}
use Rattle.cylinder.specs.Answers.{OneToTen, NotOneToTen, LengthsAllowed, LengthForbidden, MarksBinary, MarkOther, SparesZero, SpareSet}

-- The test b holds exactly where P does, and fails exactly where Q does.
pub record Decides (b : Bool) (P Q : Type 0) : Type 0 where
  pub pass : b ≡ true → P
  pub fail : b ≡ false → Q
  pub passed : P → b ≡ true
  pub failed : Q → b ≡ false

-- A test that shows P or Q, which exclude each other, decides them.
decides_by : {b : Bool} {P Q : Type 0} → (b ≡ true → P) → (b ≡ false → Q) → (P → Q → ⊥) → Decides b P Q
decides_by {b} p q e =
    record {
      pass = p;
      fail = q;
      passed = λ x. cases b (λ h. h) (λ h. absurd (e x (q h)));
      failed = λ y. cases b (λ h. absurd (e (p h) y)) (λ h. h);
    }

-- The test of order decides which of two numbers is no more than the other.
pub decides_le : (a b : ℕ) → Decides (leb a b) (a ≤ b) (b < a)
decides_le a b = decides_by (leb-true a b) (leb-false a b) (λ x y. omega arith)

-- The test of equality decides whether two numbers are the same.
pub decides_eq : (a b : ℕ) → Decides (eqb a b) (a ≡ b) (a ≡ b → ⊥)
decides_eq a b = decides_by (eqb-true a b) (eqb-false a b) (λ x y. y x)

-- Two tests together tell both facts where they hold, and one of the other two where not.
pub decides_and : {a b : Bool} {P Q R S : Type 0} → Decides a P Q → Decides b R S → Decides (a && b) (P × R) (Q ⊎ S)
decides_and {a} {b} s t =
    record {
      pass = λ e. let h = and_both a b e in (s.pass h.0, t.pass h.1);
      fail = λ e. cases a (λ h. inr (t.fail (rw h at e))) (λ h. inl (s.fail h));
      passed = λ x. and_make (s.passed x.0) (t.passed x.1);
      failed = λ y. ⊎_elim (λ q. rw (s.failed q)) (λ r. and_right a (t.failed r)) y;
    }

-- Where not all of the first n tests hold one of them fails.
one_failed : (p : ℕ → Bool) (n : ℕ) → all_to p n ≡ false → (k : ℕ) × (k < n) × (p k ≡ false)
unfolding all_to
one_failed p zero e = false-true (sym e)
one_failed p (suc n) e =
    cases (all_to p n)
    (λ h. (n, omega arith, rw h at e))
    (λ h. let q = one_failed p n h in (q.0, omega (arith, q.1), q.2))

-- The first n tests together tell the fact of each where they hold, and the other of one of them where not.
pub decides_all : {p : ℕ → Bool} {P Q : ℕ → Type 0} (n : ℕ) → ((k : ℕ) → Decides (p k) (P k) (Q k)) → Decides (all_to p n) ((k : ℕ) → k < n → P k) ((k : ℕ) × (k < n) × Q k)
decides_all {p} n t =
    decides_by
    (λ e k h. (t k).pass (all_holds p n k e h))
    (λ e. let q = one_failed p n e in (q.0, q.1, (t q.0).fail q.2))
    (λ x y. false-true (sym ((t y.0).failed y.2) ∙ (t y.0).passed (x y.0 y.1)))

-- The test of the number of tracks decides whether it is 1 to 10.
pub decides_count : (n : ℕ) → Decides (track_count_right n) (OneToTen n) (NotOneToTen n)
unfolding track_count_right
decides_count n = decides_and (decides_le 1 n) (decides_le n 10)

-- The test of the Ls decides whether all are in range or one is not.
pub decides_lengths : (l : ℕ → ℕ) (n : ℕ) → Decides (lengths_right l n) (LengthsAllowed l n) (LengthForbidden l n)
unfolding lengths_right length_right
decides_lengths l n = decides_all n (λ k. decides_and (decides_le shortest_track (l k)) (decides_le (l k) longest_track))

-- Where marks are not legal one of them is not.
mark_out : (m : List ℕ) → marks_legal m ≡ false → MarkOther m
unfolding marks_legal
mark_out [] e = false-true (sym e)
mark_out (k ∷ m) e =
    cases (ltb k 2)
    (λ h. let q = mark_out m (rw h at e) in (suc q.0, omega (arith, q.1), q.2))
    (λ h. (0, omega arith, ltb-false k 2 h))

-- The test of marks decides whether all are 0 or 1 or one is not.
pub decides_marks : (m : List ℕ) → Decides (marks_legal m) (MarksBinary m) (MarkOther m)
decides_marks m = decides_by (λ e i h. omega (arith, mark_at_lem m e i h)) (mark_out m) (λ x y. omega (arith, x y.0 y.1, y.2))

-- The test of the spare bits of l marks decides whether all are zero or one is not.
pub decides_spares : (l : ℕ) (bs : List ℕ) → Decides (spare_clear l bs) (SparesZero l bs) (SpareSet l bs)
unfolding spare_clear
decides_spares l bs =
    decides_by
    (λ e i h k.
    let q : l + (i - l) ≡ i = omega arith in
    let a = all_holds (λ j. eqb (mark_at bs (l + j)) 0) (packed_size l * 8 - l) (i - l) e (omega arith) in
    ap (mark_at bs) (sym q) ∙ eqb-true (mark_at bs (l + (i - l))) 0 a)
    (λ e. let q = one_failed (λ j. eqb (mark_at bs (l + j)) 0) (packed_size l * 8 - l) e in (l + q.0, omega arith, omega (arith, q.1), eqb-false _ 0 q.2))
    (λ x y. y.3 (x y.0 y.1 y.2))

-- The test of what is lent decides whether all of it is within the rule or a part of it is not.
pub decides_lent : (c : Cylinder) → Decides (cylinder_lent c)
    (LengthsAllowed (length_of c.lengths) (track_count c)
    × ((length c.tracks ≡ start_of c.lengths (track_count c))
    × ((length c.marks ≡ start_of c.lengths (track_count c))
    × MarksBinary c.marks)))
    (LengthForbidden (length_of c.lengths) (track_count c)
    ⊎ ((length c.tracks ≡ start_of c.lengths (track_count c) → ⊥)
    ⊎ ((length c.marks ≡ start_of c.lengths (track_count c) → ⊥)
    ⊎ MarkOther c.marks)))
unfolding cylinder_lent
decides_lent c =
    let n : ℕ = start_of c.lengths (track_count c) in
    decides_and (decides_lengths (length_of c.lengths) (track_count c))
    (decides_and (decides_eq (length c.tracks) n)
    (decides_and (decides_eq (length c.marks) n)
    (decides_marks c.marks)))

-- The test of the header decides whether it is right.
pub decides_header : (f : List ℕ) → Decides (header_right f) (OneToTen (track_count_in f) × (zero_field f ≡ 0)) (NotOneToTen (track_count_in f) ⊎ (zero_field f ≡ 0 → ⊥))
unfolding header_right
decides_header f = decides_and (decides_count (track_count_in f)) (decides_eq (zero_field f) 0)

-- The test of the offsets decides whether all are those that are due or one is not.
pub decides_offsets : (f : List ℕ) → Decides (offsets_right f) ((k : ℕ) → k < track_count_in f → offset_in f k ≡ offset_due f k) ((k : ℕ) × (k < track_count_in f) × (offset_in f k ≡ offset_due f k → ⊥))
unfolding offsets_right
decides_offsets f = decides_all (track_count_in f) (λ k. decides_eq (offset_in f k) (offset_due f k))

-- The test of the spare bits of a file decides whether all are zero or one of a track is not.
pub decides_clear : (f : List ℕ) → Decides (spares_clear f)
    ((k : ℕ) → k < track_count_in f → SparesZero (length_in f k) (packed_in f k))
    ((k : ℕ) × (k < track_count_in f) × SpareSet (length_in f k) (packed_in f k))
unfolding spares_clear
decides_clear f = decides_all (track_count_in f) (λ k. decides_spares (length_in f k) (packed_in f k))

-- The test of what is lent for writing decides whether all three are long enough or one is not.
pub decides_room : (f : List ℕ) (r : Room) → Decides (room_for f r)
    ((sum_to (length_in f) (track_count_in f) ≤ r.tracks) × ((sum_to (length_in f) (track_count_in f) ≤ r.marks) × (track_count_in f ≤ r.lengths)))
    ((r.tracks < sum_to (length_in f) (track_count_in f)) ⊎ ((r.marks < sum_to (length_in f) (track_count_in f)) ⊎ (r.lengths < track_count_in f)))
unfolding room_for
decides_room f r =
    let n : ℕ = sum_to (length_in f) (track_count_in f) in
    decides_and (decides_le n r.tracks) (decides_and (decides_le n r.marks) (decides_le (track_count_in f) r.lengths))

-- What holds of the refusal where the test fails, and of what follows where it holds, holds of the outcome.
pub decided : {A : Type 0} (M : Judged A → Type 0) {b : Bool} {P Q : Type 0} → Decides b P Q → (a : Answer) (j : Judged A) → (Q → M (refused a)) → (P → M j) → M (require b a j)
decided M {b} t a j f g = cases b (λ e. rw e (g (t.pass e))) (λ e. rw e (f (t.fail e)))

-- The answer of j has the number n, if X holds where n is the number of a and Y where it is not, X gives j the answer a, and Y gives its answer the number n.
pub row : {A X Y : Type 0} (j : Judged A) (n : ℕ) (a : Answer) → (X → answer_of j ≡ a) → (Y → (answer_of j).number ≡ n) → pick (eqb n a.number) X Y → (answer_of j).number ≡ n
row j n a f g q =
    cases (eqb n a.number)
    (λ e. ap (λ (b : Answer). b.number) (f (rw e at q)) ∙ sym (eqb-true n a.number e))
    (λ e. g (rw e at q))
