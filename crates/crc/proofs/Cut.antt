-- Bytes from a place on, cut into the first few and the others.
use mathlib.Core.Path.{◌≡◌, refl, ap, ◌∙◌}
use Prim.Native.Nat.{ℕ, suc, ◌+◌, ◌≤◌}
use native.Mathlib.Omega.{arith}
use mathlib.Core.List.{List, ◌∷◌}
use lib.ListN.{length, get_or, drop}
use lib.Seq.{drop-cons}

-- From place k on stand the bytes at k and at the next place, j, and then those from the place after that, n, on.
pub drop_two : (s : List ℕ) (n k j : ℕ) → n ≡ k + 2 → j ≡ k + 1 → n ≤ length s → drop k s ≡ get_or s k 0 ∷ get_or s j 0 ∷ drop n s
drop_two s n k j en ej m =
    let sn : n ≡ suc j = omega arith in
    let sj : j ≡ suc k = omega arith in
    drop-cons s k 0 (omega arith) ∙ ap (λ (r : List ℕ). get_or s k 0 ∷ r) (rw (← sj) (drop-cons s j 0 (omega arith) ∙ rw sn refl))

-- The same for eight bytes.
pub drop_eight : (s : List ℕ) (n k : ℕ) → n ≡ k + 8 → n ≤ length s
    → drop k s
    ≡ get_or s k 0 ∷ get_or s (k + 1) 0 ∷ get_or s (k + 2) 0 ∷ get_or s (k + 3) 0 ∷ get_or s (k + 4) 0 ∷ get_or s (k + 5) 0 ∷ get_or s (k + 6) 0 ∷ get_or s (k + 7) 0 ∷ drop n s
drop_eight s n k e m =
    drop_two s (k + 2) k (k + 1) refl refl (omega arith)
    ∙ ap (λ (r : List ℕ). get_or s k 0 ∷ get_or s (k + 1) 0 ∷ r)
    (drop_two s (k + 4) (k + 2) (k + 3) (omega arith) (omega arith) (omega arith)
    ∙ ap (λ (r : List ℕ). get_or s (k + 2) 0 ∷ get_or s (k + 3) 0 ∷ r)
    (drop_two s (k + 6) (k + 4) (k + 5) (omega arith) (omega arith) (omega arith)
    ∙ ap (λ (r : List ℕ). get_or s (k + 4) 0 ∷ get_or s (k + 5) 0 ∷ r) (drop_two s n (k + 6) (k + 7) (omega arith) (omega arith) m)))
