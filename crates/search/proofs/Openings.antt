-- Laws of the search for marked openings: which places are passed, and where the first opening stands.
use mathlib.Core.Path.{◌≡◌, refl, sym, ap, ◌∙◌}
use Prim.Native.Nat.{ℕ, zero, suc, ◌+◌, ◌-◌, ◌≤◌, ◌<◌}
use native.Mathlib.Omega.{arith}
use mathlib.Core.Bool.{Bool, true, false, ◌&&◌}
use mathlib.Core.List.{List, [], ◌∷◌}
use lib.Dec.{leb, eqb}
use lib.ListN.{length, drop, length-drop, drop_of_length-le}
use lib.Seq.{drop-drop}
use borrow.Author.Tests.{leb-true, le-leb, lt-leb, eqb-true, eqb-false}
use Rattle.format.specs.Opening.{opens}
use Rattle.format.specs.Span.{unmarked_run, before_opening}
use Rattle.base.proofs.Tests.{cases, and_both}
use Rattle.format.proofs.Find.CandidateBytes.{run_le}
use Rattle.search.proofs.Jump.{no_opening, no_opening_left, run_drop}

-- No opening stands at any of the first n places of c.
abbrev pub Closed : ℕ → List ℕ → Type 0
Closed n c = (i : ℕ) → i < n → opens (drop i c) ≡ false

-- One place on.
pub closed_tail : (n x : ℕ) (c : List ℕ) → Closed (suc n) (x ∷ c) → Closed n c
closed_tail n x c k i h = k (suc i) (omega arith)

and_second : (a b : Bool) → a ≡ true → (a && b) ≡ false → b ≡ false
and_second a b e h = rw e at h

-- An opening at the front has no cells before it,
pub before_here : (c : List ℕ) → opens c ≡ true → length (before_opening c) ≡ 0
unfolding before_opening
before_here [] e = refl
before_here (x ∷ c) e = rw e

-- nor have no cells,
before_end : (q : ℕ) (d : List ℕ) → length d ≤ q → length (before_opening (drop q d)) ≡ 0
unfolding before_opening
before_end q d l = rw (drop_of_length-le d {i = q} l)

before_on : (x : ℕ) (c : List ℕ) → opens (x ∷ c) ≡ false → length (before_opening (x ∷ c)) ≡ suc (length (before_opening c))
unfolding before_opening
before_on x c e = rw e

-- and n places without an opening are passed.
before_past : (n : ℕ) (c : List ℕ) → n ≤ length c → Closed n c → length (before_opening c) ≡ n + length (before_opening (drop n c))
before_past zero c l k = omega arith
before_past (suc n) [] l k = absurd (omega arith)
before_past (suc n) (x ∷ c) l k =
    omega (arith, before_on x c (k 0 (omega arith)), before_past n c (omega arith) (closed_tail n x c k))

-- Before the first opening there is none.
pub closed_before : (c : List ℕ) → Closed (length (before_opening c)) c
closed_before [] i h = absurd (omega (arith, before_end 0 [] (omega arith)))
closed_before (x ∷ c) zero h =
    cases (opens (x ∷ c)) (λ o. absurd (omega (arith, before_here (x ∷ c) o))) (λ o. o)
closed_before (x ∷ c) (suc i) h =
    cases (opens (x ∷ c))
    (λ o. absurd (omega (arith, before_here (x ∷ c) o)))
    (λ o. closed_before c i (omega (arith, before_on x c o)))

-- In a run of unmarked cells, and at the mark behind it, an opening stands only five cells before the mark.
closed_run : (n : ℕ) (c : List ℕ) → n ≤ suc (unmarked_run c) → ((i : ℕ) → i < n → i + 5 ≡ unmarked_run c → opens (drop i c) ≡ false) → Closed n c
closed_run n c l five i h =
    cases (eqb (i + 5) (unmarked_run c))
    (λ e. five i h (eqb-true (i + 5) (unmarked_run c) e))
    (λ e. no_opening (drop i c) (λ f. eqb-false (i + 5) (unmarked_run c) e (omega (arith, f, run_drop i c (omega arith)))))

-- Without another mark none stands.
closed_left : (c : List ℕ) → unmarked_run c ≡ length c → Closed (length c) c
closed_left c e i h = no_opening_left (drop i c) (omega (arith, run_drop i c (omega arith), length-drop i c))

-- Behind the last cell the search ends where it is.
pub opening_end : (q : ℕ) (d : List ℕ) → length d ≤ q → q + length (before_opening (drop q d)) ≡ q
opening_end q d l = omega (arith, before_end q d l)

-- A place five cells before place p is early, or the test b decides.
module _ (q p : ℕ) (b : Bool) where
  pub before_early : p < q + 5 → (leb (q + 5) p && b) ≡ false
  before_early l = rw (lt-leb (q + 5) p l)

  pub before_place : q + 5 ≤ p → (leb (q + 5) p && b) ≡ b
  before_place l = rw (le-leb (q + 5) p l)

-- The run r of unmarked cells from place q on of the n cells d.
module _ (q r n : ℕ) (d : List ℕ) (so : r ≡ unmarked_run (drop q d)) (size : n ≡ length d) (inside : q < n) where
  past : (k : ℕ) → k ≤ n - q → Closed k (drop q d) → q + length (before_opening (drop q d)) ≡ q + k + length (before_opening (drop (q + k) d))
  past k l c = omega (arith, before_past k (drop q d) (omega (arith, length-drop q d)) c, ap (λ (z : List ℕ). length (before_opening z)) (drop-drop k q d))

  -- It goes to the end.
  pub opening_none : r ≡ n - q → q + length (before_opening (drop q d)) ≡ n
  opening_none e =
      omega (arith, past (n - q) (omega arith) (λ i h. closed_left (drop q d) (omega (arith, length-drop q d)) i (omega (arith, length-drop q d))), before_end (q + (n - q)) d (omega arith))

  -- It goes to a mark.
  pub opening_mark : (r ≡ n - q → ⊥) → q + r < n
  opening_mark ne = omega (arith, ne, run_le (drop q d), length-drop q d)

  -- Whether an opening stands five cells before the mark, by the test b.
  module _ (b : Bool) (is : b ≡ (leb (q + 5) (q + r) && opens (drop (q + r - 5) d))) where
    both : b ≡ true → (leb (q + 5) (q + r) ≡ true) × (opens (drop (q + r - 5) d) ≡ true)
    both y = and_both (leb (q + 5) (q + r)) (opens (drop (q + r - 5) d)) (sym is ∙ y)

    -- It does.
    pub opening_room : b ≡ true → 5 ≤ r
    opening_room y = omega (arith, leb-true (q + 5) (q + r) (both y).0)

    pub opening_here : b ≡ true → q + length (before_opening (drop q d)) ≡ q + r - 5
    opening_here y =
        let k : q + r - 5 ≡ q + (r - 5) = omega (arith, opening_room y) in
        let o : opens (drop (q + (r - 5)) d) ≡ true = rw k at (both y).1 in
        omega (
          arith,
          opening_room y,
          before_here (drop (q + (r - 5)) d) o,
          past (r - 5) (omega (arith, run_le (drop q d), length-drop q d)) (closed_run (r - 5) (drop q d) (omega arith) (λ i h e. absurd (omega (arith, opening_room y)))),
        )

    -- It does not.
    pub opening_later : b ≡ false → q + r < n → q + length (before_opening (drop q d)) ≡ q + r + 1 + length (before_opening (drop (q + r + 1) d))
    opening_later f l =
        let j : q + (r + 1) ≡ q + r + 1 = omega arith in
        rw j at (past (r + 1) (omega arith) (closed_run (r + 1) (drop q d) (omega arith) five))
      where
        five : (i : ℕ) → i < r + 1 → i + 5 ≡ unmarked_run (drop q d) → opens (drop i (drop q d)) ≡ false
        five i h e =
            let k : q + i ≡ q + r - 5 = omega arith in
            ap opens (drop-drop i q d ∙ ap (λ (z : ℕ). drop z d) k)
            ∙ and_second (leb (q + 5) (q + r)) (opens (drop (q + r - 5) d)) (le-leb (q + 5) (q + r) (omega arith)) (sym is ∙ f)
