-- The tracks of a cylinder that is lent within the rule are together what is lent, and each with its marks is lent within the rule; and any such tracks make such a cylinder.
use mathlib.Core.Path.{◌≡◌, refl, sym, ap, ◌∙◌}
use Prim.Native.Nat.{ℕ, ◌≤◌, ◌<◌}
use native.Mathlib.Omega.{arith}
use mathlib.Core.Bool.{true}
use mathlib.Core.List.{List, [], append-nil}
use lib.ListN.{length}
use lib.Seq.{take_all}
use borrow.Author.Tests.{eq-eqb}
use Rattle.base.specs.Indexed.{sum_to, join_to, list_to}
use Rattle.base.proofs.Indexed.{sum_same, all_holds, each_holds, length_join, join_same, join_part, join_cut, length_list, get_d_list, list_is}
use Rattle.base.proofs.Tests.{and_make}
use Rattle.format.specs.Lent.{length_right, marks_legal, lent_for_writing, lent_for_reading}
use Rattle.format.proofs.Base.Marks.{mark_at_lem, marks_at}
use Rattle.format.proofs.Track.Pairs.{lent_marks, lent_legal, lent_length}
use Rattle.cylinder.specs.Cylinder.{Cylinder, track_count, length_of, start_of, part_of, track_of, track_marks_of, cylinder_of, TracksAre, lengths_right, cylinder_lent}
use Rattle.cylinder.proofs.Sizes.{cylinder_lent_lem, length_part}
use Rattle.cylinder.proofs.Parts.{join_keeps, part_keeps}

-- All parts of a list that is as long as the Ls together are the list.
parts_are : (ls xs : List ℕ) (n : ℕ) → length xs ≡ start_of ls n → join_to (part_of ls xs) n ≡ xs
unfolding part_of
parts_are ls xs n e = join_cut (length_of ls) xs n ∙ take_all (start_of ls n) xs (omega arith)

-- The part of legal marks that belongs to a track is legal.
pub legal_part : (ls m : List ℕ) (k : ℕ) → marks_legal m ≡ true → marks_legal (part_of ls m k) ≡ true
unfolding part_of
legal_part ls m k e = marks_at (part_of ls m k) (part_keeps (λ (z : ℕ). z < 2) (start_of ls k) (length_of ls k) m (mark_at_lem m e))

-- Cylinders of the same three lists are the same.
pub cylinder_same : {a b : Cylinder} → a.tracks ≡ b.tracks → a.marks ≡ b.marks → a.lengths ≡ b.lengths → a ≡ b
cylinder_same t m l = λ i. record { tracks = t i; marks = m i; lengths = l i }

-- The tracks one behind the other are the lent slice, and so are their marks.
pub joined_tracks : (c : Cylinder) → cylinder_lent c ≡ true → (join_to (track_of c) (track_count c) ≡ c.tracks) × (join_to (track_marks_of c) (track_count c) ≡ c.marks)
joined_tracks c e =
    let r = cylinder_lent_lem c e in
    (parts_are c.lengths c.tracks (track_count c) r.tracks_long, parts_are c.lengths c.marks (track_count c) r.marks_long)

-- Each track and its marks are a pair that is lent for reading within the rule.
pub track_lent : (c : Cylinder) → cylinder_lent c ≡ true → (k : ℕ) → k < track_count c → lent_for_reading (track_of c k) (track_marks_of c k) ≡ true
unfolding lent_for_reading lent_for_writing lengths_right
track_lent c e k h =
    let r = cylinder_lent_lem c e in
    let t = length_part c.lengths c.tracks k (track_count c) r.tracks_long h in
    let m = length_part c.lengths c.marks k (track_count c) r.marks_long h in
    and_make
    (and_make (ap length_right t ∙ all_holds (λ j. length_right (length_of c.lengths j)) (track_count c) k r.lengths_right_holds h) (eq-eqb _ _ (m ∙ sym t)))
    (legal_part c.lengths c.marks k r.marks_legal_holds)

module _ (n : ℕ) (l : ℕ → ℕ) where
  -- In the list of the Ls l of n tracks each is found again,
  pub listed_length : (k : ℕ) → k < n → length_of (list_to l n) k ≡ l k
  listed_length k h = get_d_list l n k 0 h

  -- so that each track starts where the Ls before it end.
  listed_start : (k : ℕ) → k ≤ n → start_of (list_to l n) k ≡ sum_to l k
  listed_start k h = sum_same _ _ k (λ j i. listed_length j (omega arith))

  module _ (x : ℕ → List ℕ) (long : (k : ℕ) → k < n → length (x k) ≡ l k) where
    -- Lists of these Ls are together as long as the sum of the Ls.
    pub length_listed : (k : ℕ) → k ≤ n → length (join_to x k) ≡ sum_to l k
    length_listed k h = length_join x k ∙ sum_same _ _ k (λ j i. long j (omega arith))

    -- All of them are as long as a cylinder of these Ls asks for.
    slice_listed : length (join_to x n) ≡ start_of (list_to l n) n
    slice_listed = length_listed n (omega arith) ∙ sym (listed_start n (omega arith))

    -- Joined, and cut into tracks of these Ls, they are the same lists again.
    pub part_listed : (k : ℕ) → k < n → part_of (list_to l n) (join_to x n) k ≡ x k
    unfolding part_of
    part_listed k h =
        let j = join_part x n k [] h in
        rw (listed_length k h, listed_start k (omega arith)) (rw (append-nil (join_to x n), long k h, length_listed k (omega arith)) at j)

  -- Tracks of these Ls with as many legal marks each make a cylinder that is lent within the rule, where the Ls are in range.
  pub listed_lent : (t m : ℕ → List ℕ) → ((k : ℕ) → k < n → length_right (l k) ≡ true) → ((k : ℕ) → k < n → length (t k) ≡ l k) → ((k : ℕ) → k < n → length (m k) ≡ l k)
      → ((k : ℕ) → k < n → marks_legal (m k) ≡ true) → cylinder_lent (record { tracks = join_to t n; marks = join_to m n; lengths = list_to l n }) ≡ true
  unfolding cylinder_lent lengths_right
  listed_lent t m r long marked legal =
      rw (length_list l n)
      (and_make (each_holds _ n (λ k h. ap length_right (listed_length k h) ∙ r k h))
      (and_make (eq-eqb _ _ (slice_listed t long))
      (and_make (eq-eqb _ _ (slice_listed m marked))
      (marks_at (join_to m n) (join_keeps (λ (z : ℕ). z < 2) m n (λ k h. mark_at_lem (m k) (legal k h)))))))

-- Any n tracks that are lent with their marks for reading within the rule make a cylinder of n tracks that is, and its tracks and marks are these.
pub tracks_cylinder : (n : ℕ) (t m : ℕ → List ℕ) → ((k : ℕ) → k < n → lent_for_reading (t k) (m k) ≡ true)
    → (track_count (cylinder_of n t m) ≡ n)
    × (cylinder_lent (cylinder_of n t m) ≡ true)
    × ((k : ℕ) → k < n → (track_of (cylinder_of n t m) k ≡ t k) × (track_marks_of (cylinder_of n t m) k ≡ m k))
tracks_cylinder n t m e =
    let l : ℕ → ℕ = λ k. length (t k) in
    let long : (k : ℕ) → k < n → length (t k) ≡ l k = λ k h. refl in
    let marked : (k : ℕ) → k < n → length (m k) ≡ l k = λ k h. lent_marks (t k) (m k) (e k h) in (
      length_list l n,
      listed_lent n l t m (λ k h. (lent_length (t k) (m k) (e k h)).1) long marked (λ k h. lent_legal (t k) (m k) (e k h)),
      λ k h. (part_listed n l t long k h, part_listed n l m marked k h),
    )

-- A cylinder that is lent within the rule is the one that its tracks and marks make.
pub lent_tracks : (c : Cylinder) (n : ℕ) (t m : ℕ → List ℕ) → cylinder_lent c ≡ true → TracksAre c n t m → c ≡ cylinder_of n t m
lent_tracks c n t m e h =
    let j = joined_tracks c e in
    let long : (k : ℕ) → k < n → length (t k) ≡ length_of c.lengths k = λ k l.
    ap length (sym (h.1 k l).0) ∙ length_part c.lengths c.tracks k (track_count c) (cylinder_lent_lem c e).tracks_long (omega (arith, h.0)) in
    cylinder_same
    (sym j.0 ∙ ap (join_to (track_of c)) h.0 ∙ join_same _ t n (λ k l. (h.1 k l).0))
    (sym j.1 ∙ ap (join_to (track_marks_of c)) h.0 ∙ join_same _ m n (λ k l. (h.1 k l).1))
    (sym (list_is (λ k. length (t k)) c.lengths n 0 h.0 long))
