-- Laws that lead from the two lent lists to their cells, and of an opening that is compared cell by cell.
use mathlib.Core.Path.{◌≡◌, refl, ap, ◌∙◌}
use Prim.Native.Nat.{ℕ, zero, suc, ◌+◌, ◌*◌, ◌<◌}
use mathlib.Core.Bool.{false}
use mathlib.Core.List.{List, [], ◌∷◌}
use native.Mathlib.Nat.{le_of_suc-le-suc}
use native.Mathlib.Omega.{arith}
use lib.ListN.{length, get_or, drop}
use Rattle.format.specs.Lent.{cells}
use Rattle.format.specs.Opening.{starts_with}
use Rattle.format.proofs.Cells.Opening.{starts_other, starts_same}

-- A cell is its byte and its mark.
pub get_d_cells : (t m : List ℕ) (i : ℕ) → i < length (cells t m) → get_or (cells t m) i 0 ≡ get_or t i 0 + 256 * get_or m i 0
unfolding cells
get_d_cells [] m i h = absurd (omega arith)
get_d_cells (b ∷ t) [] i h = absurd (omega arith)
get_d_cells (b ∷ t) (k ∷ m) zero h = refl
get_d_cells (b ∷ t) (k ∷ m) (suc i) h = get_d_cells t m i (le_of_suc-le-suc h)

-- An opening with the bytes u and the marks v, compared with a track t with the marks m byte by byte and mark by mark.
module _ (u v t m : List ℕ) (p k : ℕ) (h : k < length (cells u v)) (l : p + k < length (cells t m)) (a : get_or u k 0 < 256) (b : get_or t (p + k) 0 < 256) where
  -- Another byte stands there.
  pub other_byte : (get_or t (p + k) 0 ≡ get_or u k 0 → ⊥) → starts_with (drop k (cells u v)) (drop (p + k) (cells t m)) ≡ false
  other_byte ne = starts_other (cells u v) (cells t m) k (p + k) h l (λ e. ne (omega (arith, get_d_cells u v k h, get_d_cells t m (p + k) l)))

  -- Another mark stands there.
  pub other_mark : (get_or m (p + k) 0 ≡ get_or v k 0 → ⊥) → starts_with (drop k (cells u v)) (drop (p + k) (cells t m)) ≡ false
  other_mark ne = starts_other (cells u v) (cells t m) k (p + k) h l (λ e. ne (omega (arith, get_d_cells u v k h, get_d_cells t m (p + k) l)))

  -- The same byte and the same mark stand there.
  pub same_cell : get_or t (p + k) 0 ≡ get_or u k 0 → get_or m (p + k) 0 ≡ get_or v k 0
      → starts_with (drop k (cells u v)) (drop (p + k) (cells t m)) ≡ starts_with (drop (k + 1) (cells u v)) (drop (p + (k + 1)) (cells t m))
  same_cell e f =
      let n : p + k + 1 ≡ p + (k + 1) = omega arith in
      starts_same (cells u v) (cells t m) k (p + k) h l (omega (arith, get_d_cells u v k h, get_d_cells t m (p + k) l))
      ∙ ap (λ (z : ℕ). starts_with (drop (k + 1) (cells u v)) (drop z (cells t m))) n
