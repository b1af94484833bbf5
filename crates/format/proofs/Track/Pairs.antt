-- Cells as a track and its marks, and back.
use mathlib.Core.Path.{◌≡◌, refl, sym, ap, ap₂, ◌∙◌}
use Prim.Native.Nat.{ℕ, zero, suc, ◌+◌, ◌*◌, ◌/◌, ◌%◌, ◌<◌, min}
use native.Mathlib.Omega.{arith}
use mathlib.Core.Bool.{Bool, true, ◌&&◌, ◌||◌}
use mathlib.Core.List.{List, [], ◌∷◌, map}
use lib.ListN.{length, take, drop, length-map}
use lib.Dec.{ltb, leb, eqb}
use borrow.Author.Tests.{ltb-true, lt-ltb, eqb-true, eq-eqb}
use Rattle.format.specs.Answer.{lent_wrong, mark_stray}
use Rattle.format.specs.Judged.{Judged, good}
use Rattle.format.specs.Lent.{length_right, marks_legal, lent_for_writing, lent_for_reading, cells, bytes_of, marks_of, unmarked}
use Rattle.format.specs.Opening.{starts_with, marked_ff, marked_opening, opens}
use Rattle.format.specs.Accept.{judge_marks, Accepted, first_count_end, accept_cells, accept}
use Rattle.format.specs.Written.{Pair, as_pair}
use Rattle.format.proofs.Base.Judged.{good_inj, then_good, require_good}
use Rattle.base.proofs.Tests.{cases, false-true, and_both, and_make}
use Rattle.base.proofs.Lists.{take_map}
use Rattle.format.proofs.Sector.ReadsAs.{accepted_by}

-- Unmarked cells are their bytes.
pub bytes_unmarked : (xs : List ℕ) → unmarked xs ≡ true → bytes_of xs ≡ xs
unfolding bytes_of unmarked
bytes_unmarked [] e = refl
bytes_unmarked (x ∷ xs) e =
    let h = and_both (ltb x 256) (unmarked xs) e in
    ap₂ (λ (z : ℕ) (zs : List ℕ). z ∷ zs) (omega (arith, ltb-true x 256 h.0)) (bytes_unmarked xs h.1)

-- The cells of the bytes and marks of cells are those cells.
pub cells_of : (c : List ℕ) → cells (bytes_of c) (marks_of c) ≡ c
unfolding cells bytes_of marks_of
cells_of [] = refl
cells_of (x ∷ c) = ap₂ (λ (y : ℕ) (d : List ℕ). y ∷ d) (omega arith) (cells_of c)

-- The bytes of the cells of a track are the track.
pub bytes_cells : (t m : List ℕ) → length m ≡ length t → unmarked t ≡ true → bytes_of (cells t m) ≡ t
unfolding cells bytes_of unmarked
bytes_cells [] m e u = refl
bytes_cells (b ∷ t) [] e u = absurd (omega arith)
bytes_cells (b ∷ t) (k ∷ m) e u =
    let h = and_both (ltb b 256) (unmarked t) u in
    ap₂ (λ (x : ℕ) (d : List ℕ). x ∷ d) (omega (arith, ltb-true b 256 h.0)) (bytes_cells t m (omega arith) h.1)

-- The marks of the cells of a track are its marks.
pub marks_cells : (t m : List ℕ) → length m ≡ length t → unmarked t ≡ true → marks_of (cells t m) ≡ m
unfolding cells marks_of unmarked
marks_cells [] [] e u = refl
marks_cells [] (k ∷ m) e u = absurd (omega arith)
marks_cells (b ∷ t) [] e u = absurd (omega arith)
marks_cells (b ∷ t) (k ∷ m) e u =
    let h = and_both (ltb b 256) (unmarked t) u in
    ap₂ (λ (x : ℕ) (d : List ℕ). x ∷ d) (omega (arith, ltb-true b 256 h.0)) (marks_cells t m (omega arith) h.1)

-- There are as many cells as the shorter list has elements.
pub length_cells : (t m : List ℕ) → length (cells t m) ≡ min (length t) (length m)
unfolding cells
length_cells [] m = omega arith
length_cells (b ∷ t) [] = omega arith
length_cells (b ∷ t) (k ∷ m) = omega (arith, length_cells t m)

cells_none : (t : List ℕ) → cells t [] ≡ []
unfolding cells
cells_none [] = refl
cells_none (b ∷ t) = refl

-- The cells from place n on are those of what both lists have from there on.
pub drop_cells : (n : ℕ) (t m : List ℕ) → drop n (cells t m) ≡ cells (drop n t) (drop n m)
unfolding cells
drop_cells zero t m = refl
drop_cells (suc n) [] m = refl
drop_cells (suc n) (b ∷ t) [] = sym (cells_none (drop n t))
drop_cells (suc n) (b ∷ t) (k ∷ m) = drop_cells n t m

-- The first n cells are those of what both lists start with.
pub take_cells : (n : ℕ) (t m : List ℕ) → take n (cells t m) ≡ cells (take n t) (take n m)
unfolding cells
take_cells zero t m = refl
take_cells (suc n) [] m = refl
take_cells (suc n) (b ∷ t) [] = refl
take_cells (suc n) (b ∷ t) (k ∷ m) = ap (λ (c : List ℕ). (b + 256 * k) ∷ c) (take_cells n t m)

-- The bytes are as many as the cells, and so are the marks.
pub length_bytes : (c : List ℕ) → length (bytes_of c) ≡ length c
unfolding bytes_of
length_bytes c = length-map c (λ x. x % 256)

pub length_marks : (c : List ℕ) → length (marks_of c) ≡ length c
unfolding marks_of
length_marks c = length-map c (λ x. x / 256)

-- The bytes of cells are bytes.
pub unmarked_bytes : (c : List ℕ) → unmarked (bytes_of c) ≡ true
unfolding bytes_of unmarked
unmarked_bytes [] = refl
unmarked_bytes (x ∷ c) = and_make (lt-ltb (x % 256) 256 (omega arith)) (unmarked_bytes c)

-- A cell can be recorded: it is an unmarked byte, or FF with its mark.
unfoldable pub cell_recordable : ℕ → Bool
cell_recordable x = ltb x 256 || eqb x marked_ff

-- Every cell can be recorded.
unfoldable pub cells_recordable : List ℕ → Bool
cells_recordable [] = true
cells_recordable (x ∷ c) = cell_recordable x && cells_recordable c

mark_recordable : (x : ℕ) → cell_recordable x ≡ true → x < 512
unfolding cell_recordable
mark_recordable x e =
    cases (ltb x 256)
    (λ b. omega (arith, ltb-true x 256 b))
    (λ b. omega (arith, eqb-true x marked_ff (rw b at e)))

-- The marks of such cells are 0 or 1.
pub legal_recordable : (c : List ℕ) → cells_recordable c ≡ true → marks_legal (marks_of c) ≡ true
unfolding cells_recordable marks_legal marks_of
legal_recordable [] e = refl
legal_recordable (x ∷ c) e =
    let h = and_both (cell_recordable x) (cells_recordable c) e in
    and_make (lt-ltb (x / 256) 2 (omega (arith, mark_recordable x h.0))) (legal_recordable c h.1)

recordable_behind : (o c : List ℕ) → cells_recordable o ≡ true → starts_with o c ≡ true → cells_recordable (drop (length o) c) ≡ true → cells_recordable c ≡ true
unfolding cells_recordable
recordable_behind [] c r e h = h
recordable_behind (x ∷ o) [] r e h = false-true e
recordable_behind (x ∷ o) (y ∷ c) r e h =
    let k = and_both (eqb x y) (starts_with o c) e in
    let l = and_both (cell_recordable x) (cells_recordable o) r in
    and_make (ap cell_recordable (sym (eqb-true x y k.0)) ∙ l.0) (recordable_behind o c l.1 k.1 h)

-- Where no mark is stray, every cell can be recorded.
pub recordable_marks : (e k q : ℕ) (c : List ℕ) → judge_marks e k q c ≡ good tt → cells_recordable (drop k c) ≡ true
unfolding judge_marks opens cell_recordable cells_recordable
recordable_marks e zero q [] h = refl
recordable_marks e (suc k) q [] h = refl
recordable_marks e zero q (x ∷ c) h =
    cases (opens (x ∷ c) && leb e q)
    (λ b.
    let ih : cells_recordable (drop 7 c) ≡ true = recordable_marks e 7 (suc q) c (rw b at h) in
    recordable_behind marked_opening (x ∷ c) refl (and_both (opens (x ∷ c)) (leb e q) b).0 ih)
    (λ b.
    let r = require_good (ltb x 256) (mark_stray q) (judge_marks e 0 (suc q) c) tt (rw b at h) in
    and_make (ap (λ (z : Bool). z || eqb x marked_ff) r.0) (recordable_marks e zero (suc q) c r.1))
recordable_marks e (suc k) q (x ∷ c) h = recordable_marks e k (suc q) c h

-- The bytes and marks of an accepted track of the right length are lent within the rule,
pub lent_pair : (c : List ℕ) (a : Accepted) → length_right (length c) ≡ true → accept_cells c ≡ good a → lent_for_reading (bytes_of c) (marks_of c) ≡ true
unfolding lent_for_reading lent_for_writing
lent_pair c a l e =
    let r : cells_recordable c ≡ true = recordable_marks (first_count_end a.home.place) 0 0 c (accepted_by c a e).marks_judged in
    rw (length_bytes c, length_marks c, l, eq-eqb (length c) (length c) refl, legal_recordable c r)

-- and accepted as the track is.
pub accept_pair : (c : List ℕ) (a : Accepted) → length_right (length c) ≡ true → accept_cells c ≡ good a → accept (bytes_of c) (marks_of c) ≡ good a
unfolding accept
accept_pair c a l e = rw (lent_pair c a l e, cells_of c) e

-- A pair that is accepted is lent within the rule, and its cells are accepted alike.
pub accepted_pair : (t m : List ℕ) (a : Accepted) → accept t m ≡ good a → (lent_for_reading t m ≡ true) × (accept_cells (cells t m) ≡ good a)
unfolding accept
accepted_pair t m a e = require_good (lent_for_reading t m) lent_wrong (accept_cells (cells t m)) a e

-- A pair that is lent within the rule has as many marks as bytes.
pub lent_marks : (t m : List ℕ) → lent_for_reading t m ≡ true → length m ≡ length t
unfolding lent_for_reading lent_for_writing
lent_marks t m e =
    let a = and_both (lent_for_writing (length t) (length m)) (marks_legal m) e in
    eqb-true (length m) (length t) (and_both (length_right (length t)) (eqb (length m) (length t)) a.0).1

-- Its marks are legal.
pub lent_legal : (t m : List ℕ) → lent_for_reading t m ≡ true → marks_legal m ≡ true
unfolding lent_for_reading
lent_legal t m e = (and_both (lent_for_writing (length t) (length m)) (marks_legal m) e).1

-- The cells of a pair that is lent within the rule have its length, which is right.
pub lent_length : (t m : List ℕ) → lent_for_reading t m ≡ true → (length (cells t m) ≡ length t) × (length_right (length t) ≡ true)
unfolding lent_for_reading lent_for_writing
lent_length t m e =
    let w = and_both (length_right (length t) && eqb (length m) (length t)) (marks_legal m) e in
    (omega (arith, length_cells t m, lent_marks t m e), (and_both (length_right (length t)) (eqb (length m) (length t)) w.0).0)

-- Cells as a pair.
abbrev pub pair_of : List ℕ → Pair
pair_of c = record { track = bytes_of c; marks = marks_of c }

-- A pair that is written is that of the cells that were written.
pub written_pair : (j : Judged (List ℕ)) (q : Pair) → as_pair j ≡ good q → (c : List ℕ) × (j ≡ good c) × (pair_of c ≡ q)
unfolding as_pair
written_pair j q e =
    let r = then_good j (λ c. good (pair_of c)) q e in
    (r.0, r.1, good_inj (pair_of r.0) q r.2)

-- Cells that agree up to place n give bytes and marks that do.
pub bytes_copied : (n : ℕ) (e c : List ℕ) → take n e ≡ take n c → take n (bytes_of e) ≡ take n (bytes_of c)
unfolding bytes_of
bytes_copied n e c q = take_map (λ x. x % 256) n e ∙ ap (map (λ x. x % 256)) q ∙ sym (take_map (λ x. x % 256) n c)

pub marks_copied : (n : ℕ) (e c : List ℕ) → take n e ≡ take n c → take n (marks_of e) ≡ take n (marks_of c)
unfolding marks_of
marks_copied n e c q = take_map (λ x. x / 256) n e ∙ ap (map (λ x. x / 256)) q ∙ sym (take_map (λ x. x / 256) n c)
