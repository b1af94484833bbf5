-- What follows a candidate's opening in its span is unmarked, so it is the track's own bytes.
use mathlib.Core.Path.{◌≡◌, refl, sym, ap, ap₂, ◌∙◌}
use Prim.Native.Nat.{ℕ, zero, suc, ◌+◌, ◌-◌, ◌*◌, ◌≤◌}
use native.Mathlib.Nat.{le_of_suc-le-suc}
use native.Mathlib.Omega.{arith}
use mathlib.Core.Bool.{true}
use mathlib.Core.List.{List, [], ◌∷◌, ◌++◌}
use lib.ListN.{length, take, drop, length-take, length-drop, take-append-drop}
use lib.Seq.{take_at, drop-drop}
use lib.Dec.{ltb, eqb}
use borrow.Author.Tests.{ltb-true, eqb-true}
use Rattle.format.specs.Lent.{cells, unmarked}
use Rattle.format.specs.Span.{unmarked_run, runs_to_index, span_length, span_rest}
use Rattle.format.specs.Sector.{opening_length}
use Rattle.format.specs.Candidate.{Candidate, candidates}
use Rattle.base.proofs.Tests.{cases, and_both, and_make}
use Rattle.base.proofs.Lists.{drop_take}
use Rattle.base.specs.Lists.{Member}
use Rattle.format.proofs.Track.Pairs.{drop_cells}
use Rattle.format.proofs.Find.CandidateMeans.{candidate_means}

-- The cells before the next mark are unmarked.
unmarked_run_lem : (n : ℕ) (c : List ℕ) → n ≤ unmarked_run c → unmarked (take n c) ≡ true
unfolding unmarked unmarked_run
unmarked_run_lem zero c l = refl
unmarked_run_lem (suc n) [] l = refl
unmarked_run_lem (suc n) (x ∷ c) l =
    cases (ltb x 256)
    (λ e. and_make e (unmarked_run_lem n c (le_of_suc-le-suc (rw e at l))))
    (λ e. absurd (let z : suc n ≤ 0 = rw e at l in omega arith))

-- A run stops at index at the latest.
pub run_le : (c : List ℕ) → unmarked_run c ≤ length c
unfolding unmarked_run
run_le [] = omega arith
run_le (x ∷ c) = cases (ltb x 256) (λ e. rw e (omega (arith, run_le c))) (λ e. rw e (omega arith))

span_run : (o : ℕ) (c : List ℕ) → span_length o c - o ≤ unmarked_run (drop o c)
unfolding span_length runs_to_index
span_run o c =
    cases (eqb (unmarked_run (drop o c)) (length (drop o c)))
    (λ e. rw e (omega (arith, eqb-true (unmarked_run (drop o c)) (length (drop o c)) e, length-drop o c)))
    (λ e. rw e (omega arith))

-- What follows an opening of o cells in its span is the front of what follows it, and is unmarked.
pub after_front : (o : ℕ) (c : List ℕ) → (z : List ℕ) × (drop o c ≡ span_rest o c ++ z) × (unmarked (span_rest o c) ≡ true)
unfolding span_rest
after_front o c =
    let n : ℕ = span_length o c - o in (
      drop n (drop o c),
      rw (drop_take o (span_length o c) c) (sym (take-append-drop n (drop o c))),
      rw (drop_take o (span_length o c) c) (unmarked_run_lem n (drop o c) (span_run o c)),
    )

-- Unmarked cells at the front are the front of the track.
pub front_bytes : (r z t m : List ℕ) → unmarked r ≡ true → cells t m ≡ r ++ z → t ≡ r ++ drop (length r) t
unfolding cells unmarked
front_bytes [] z t m u e = refl
front_bytes (x ∷ r) z [] m u e = absurd (let w : ◌≡◌ {A = ℕ} 0 1 = cc in omega arith)
front_bytes (x ∷ r) z (b ∷ t) [] u e = absurd (let w : ◌≡◌ {A = ℕ} 0 1 = cc in omega arith)
front_bytes (x ∷ r) z (b ∷ t) (k ∷ m) u e =
    let h = and_both (ltb x 256) (unmarked r) u in
    let p : b + 256 * k ≡ x = cc in
    let q : cells t m ≡ r ++ z = cc in
    ap₂ (λ (y : ℕ) (ys : List ℕ). y ∷ ys) (omega (arith, ltb-true x 256 h.0)) (front_bytes r z t m h.1 q)

-- How many cells follow an opening of o cells in its span.
pub span_rest_length : (o : ℕ) (c : List ℕ) → length (span_rest o c) ≡ span_length o c - o
unfolding span_rest
span_rest_length o c =
    let n : ℕ = span_length o c - o in
    ap length (drop_take o (span_length o c) c) ∙ omega (arith, length-take n (drop o c), span_run o c, run_le (drop o c))

-- What follows an opening of o cells at place p in its span is the front of the track from there on.
pub span_rest_front : (t m : List ℕ) (p o : ℕ) → (z : List ℕ) × (drop (p + o) t ≡ span_rest o (drop p (cells t m)) ++ z)
span_rest_front t m p o =
    let f = after_front o (drop p (cells t m)) in
    let r : List ℕ = span_rest o (drop p (cells t m)) in
    let e : cells (drop (p + o) t) (drop (p + o) m) ≡ r ++ f.0 = sym (drop_cells (p + o) t m) ∙ sym (drop-drop o p (cells t m)) ∙ f.1 in
    (drop (length r) (drop (p + o) t), front_bytes r f.0 (drop (p + o) t) (drop (p + o) m) f.2 e)

-- It is n bytes of the track, where its span has n cells behind its opening.
pub span_rest_bytes : (o p n : ℕ) (t m : List ℕ) → n ≡ span_length o (drop p (cells t m)) - o → span_rest o (drop p (cells t m)) ≡ take n (drop (p + o) t)
span_rest_bytes o p n t m e =
    let r : List ℕ = span_rest o (drop p (cells t m)) in
    let f = span_rest_front t m p o in
    sym (ap (take n) f.1 ∙ take_at r f.0 n (span_rest_length o (drop p (cells t m)) ∙ sym e))

-- The bytes of a candidate are the track's, from the end of its opening on.
pub rest_in_track : (t m : List ℕ) (x : Candidate) → Member x (candidates (cells t m))
    → (z : List ℕ) × (drop (x.place + opening_length x.first) t ≡ x.rest ++ z) × (unmarked x.rest ≡ true)
rest_in_track t m x n =
    let v = candidate_means (cells t m) x n in
    let o : ℕ = opening_length x.first in
    let f = span_rest_front t m x.place o in
    (f.0, f.1 ∙ ap (λ (r : List ℕ). r ++ f.0) (sym v.rest_is), ap unmarked v.rest_is ∙ (after_front o (drop x.place (cells t m))).2)
