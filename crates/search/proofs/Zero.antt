-- Laws of the zeros that bytes start with, and of the unmarked cells that they are.
use mathlib.Core.Path.{◌≡◌, sym, ap}
use Prim.Native.Nat.{ℕ, zero, suc, ◌+◌, ◌-◌, ◌*◌, ◌≤◌, ◌<◌}
use native.Mathlib.Omega.{arith}
use mathlib.Core.List.{List, [], ◌∷◌}
use lib.Dec.{eqb}
use lib.ListN.{length, get_or, take, drop, drop_of_length-le}
use lib.Seq.{drop-cons, get_or-drop}
use borrow.Author.Tests.{lt-ltb, le-ltb, ne_eqb, eqb-true, eqb-false}
use Rattle.format.specs.Lent.{cells}
use Rattle.format.specs.Span.{unmarked_run}
use Rattle.base.proofs.Tests.{cases}
use Rattle.format.proofs.Track.Pairs.{drop_cells}
use Rattle.format.proofs.Find.CandidateBytes.{run_le}
use Rattle.search.specs.Zero.{zero_run}
use Rattle.search.proofs.Jump.{run_nil, run_on, run_off}

-- The zeros from place i on, where the byte there is 0, and where it is not.
pub zeros_on : (s : List ℕ) (i : ℕ) → i < length s → get_or s i 0 ≡ 0 → zero_run (drop i s) ≡ suc (zero_run (drop (suc i) s))
unfolding zero_run
zeros_on s i h z = rw (drop-cons s i 0 h, z)

pub zeros_off : (s : List ℕ) (i : ℕ) → i < length s → (get_or s i 0 ≡ 0 → ⊥) → zero_run (drop i s) ≡ 0
unfolding zero_run
zeros_off s i h z = rw (drop-cons s i 0 h, ne_eqb (get_or s i 0) 0 z)

-- Behind the last byte none is left.
pub zeros_none : (s : List ℕ) (i : ℕ) → length s ≤ i → zero_run (drop i s) ≡ 0
unfolding zero_run
zeros_none s i h = rw (drop_of_length-le s {i = i} h)

-- The zeros behind j of them.
pub zeros_behind : (j : ℕ) (s : List ℕ) → j ≤ zero_run s → zero_run s ≡ j + zero_run (drop j s)
unfolding zero_run
zeros_behind zero s h = omega arith
zeros_behind (suc j) [] h = absurd (omega arith)
zeros_behind (suc j) (b ∷ s) h =
    cases (eqb b 0)
    (λ z. rw z (omega (arith, zeros_behind j s (omega (arith, rw z at h)))))
    (λ z. absurd (omega (arith, rw z at h)))

-- The unmarked cells of a lent pair are the zeros among the marks that have a byte.
run_cells : (t m : List ℕ) → ((i : ℕ) → get_or t i 0 < 256) → unmarked_run (cells t m) ≡ zero_run (take (length (cells t m)) m)
unfolding zero_run cells
run_cells [] m h = run_nil
run_cells (b ∷ t) [] h = run_nil
run_cells (b ∷ t) (k ∷ m) h =
    cases (eqb k 0)
    (λ e. rw (e, run_on (b + 256 * k) (cells t m) (lt-ltb (b + 256 * k) 256 (omega (arith, eqb-true k 0 e, h 0))), run_cells t m (λ i. h (suc i))))
    (λ e. rw (e, run_off (b + 256 * k) (cells t m) (le-ltb (b + 256 * k) 256 (omega (arith, eqb-false k 0 e)))))

-- So are they from place p on, where n cells are left.
pub run_at : (t m : List ℕ) (p n : ℕ) → ((i : ℕ) → get_or t i 0 < 256) → n ≡ length (drop p (cells t m))
    → zero_run (take (p + n - p) (drop p m)) ≡ unmarked_run (drop p (cells t m))
run_at t m p n h e =
    let k : p + n - p ≡ length (cells (drop p t) (drop p m)) = omega (arith, ap length (drop_cells p t m)) in
    rw (k, drop_cells p t m) (sym (run_cells (drop p t) (drop p m) (λ i. rw (get_or-drop p t i 0) (h (p + i)))))

-- No cell is left.
pub run_none : (c : List ℕ) → 0 ≡ length c → 0 ≡ unmarked_run c
run_none c e = omega (arith, run_le c)
