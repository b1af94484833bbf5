-- Openings and closed fields by their bytes.
use mathlib.Core.Path.{◌≡◌, refl, sym, ap, ◌∙◌}
use Prim.Native.Nat.{ℕ, suc, ◌+◌, ◌/◌, ◌%◌, ◌≤◌, ◌<◌}
use native.Mathlib.Omega.{arith}
use native.Mathlib.Nat.{add-suc, add-zero}
use mathlib.Core.Bool.{Bool, true, false, ◌&&◌}
use mathlib.Core.List.{List, [], ◌∷◌}
use lib.ListN.{length, get_or, take, drop, length-drop}
use lib.Seq.{drop-cons}
use lib.Dec.{eqb}
use lib.Pointwise.{pointwise}
use Rattle.crc.specs.Check.{check_of, check_bytes, agrees}
use Rattle.format.specs.Opening.{starts_with, plain_opening, closing, closed_after, check_follows, closing_follows}
use Rattle.format.proofs.Cells.Opening.{starts_length, starts_short}
use Rattle.base.proofs.Tests.{and_true, eqb_comm}

-- The standard library's test whether a list starts with another is that of the format.
pub starts_pointwise : (o c : List ℕ) → pointwise eqb o (take (length o) c) ≡ starts_with o c
starts_pointwise [] c = refl
starts_pointwise (x ∷ o) [] = refl
starts_pointwise (x ∷ o) (y ∷ c) = ap (λ (b : Bool). eqb x y && b) (starts_pointwise o c)

-- A field with fewer than three bytes after its n information bytes is not closed.
pub closed_short : (n : ℕ) (c : List ℕ) → length c < n + 3 → closed_after n c ≡ false
unfolding closed_after closing check_bytes
closed_short n c h = starts_short (closing (take n c)) (drop n c) (omega (arith, length-drop n c))

-- Cells start with one byte where the first of them is it.
starts_one : (x : ℕ) (c : List ℕ) (k : ℕ) → k < length c → starts_with (x ∷ []) (drop k c) ≡ eqb (get_or c k 0) x
starts_one x c k h = ap (starts_with (x ∷ [])) (drop-cons c k 0 h) ∙ and_true (eqb x (get_or c k 0)) ∙ eqb_comm x (get_or c k 0)

module _ (n : ℕ) (c : List ℕ) where
  -- No check follows n information bytes that fewer than two follow.
  pub check_short : length c < n + 2 → check_follows n c ≡ false
  unfolding check_follows check_bytes
  check_short h = starts_short (check_bytes (take n c)) (drop n c) (omega (arith, length-drop n c))

  -- Their check follows them where it agrees with the next two.
  pub check_two : n + 2 ≤ length c → check_follows n c ≡ agrees (take n c) (get_or c n 0) (get_or c (n + 1) 0)
  unfolding check_follows check_bytes agrees
  check_two h =
      let x : List ℕ = check_of (take n c) / 256 ∷ check_of (take n c) % 256 ∷ [] in
      let e : n + 1 ≡ suc n = add-suc n 0 ∙ ap suc (add-zero n) in
      ap (starts_with x) (drop-cons c n 0 (omega arith))
      ∙ ap (λ (b : Bool). eqb (check_of (take n c) / 256) (get_or c n 0) && b)
      (ap (λ (k : ℕ). starts_with (check_of (take n c) % 256 ∷ []) (drop k c)) (sym e) ∙ starts_one (check_of (take n c) % 256) c (n + 1) (omega arith) ∙ eqb_comm (get_or c (n + 1) 0) (check_of (take n c) % 256))

  -- No closing byte follows where fewer than three bytes do.
  pub closing_short : length c < n + 3 → closing_follows n c ≡ false
  unfolding closing_follows
  closing_short h = starts_short (0xCC ∷ []) (drop (n + 2) c) (omega (arith, length-drop (n + 2) c))

  -- The third of them decides.
  pub closing_third : n + 3 ≤ length c → closing_follows n c ≡ eqb (get_or c (n + 2) 0) 204
  unfolding closing_follows
  closing_third h = starts_one 204 c (n + 2) (omega arith)

-- Cells that start with an unmarked opening are at least six.
pub plain_length_lem : (c : List ℕ) → starts_with plain_opening c ≡ true → 6 ≤ length c
plain_length_lem c e = starts_length plain_opening c e
