-- Laws of the search for home: the plain opening cell by cell, and the places of the window one by one.
use mathlib.Core.Path.{◌≡◌, sym, ◌∙◌}
use Prim.Native.Nat.{ℕ, zero, suc, ◌+◌, ◌-◌, ◌≤◌, ◌<◌}
use mathlib.Core.Bool.{true, false}
use mathlib.Core.List.{List}
use native.Mathlib.Numerals.{add-one}
use native.Mathlib.Omega.{arith}
use lib.ListN.{length, get_or, drop, replicate, length-drop, get_or-replicate}
use Rattle.format.specs.Answer.{home_missing}
use Rattle.format.specs.Judged.{good, refused}
use Rattle.format.specs.Lent.{cells}
use Rattle.format.specs.Opening.{starts_with, plain_opening}
use Rattle.format.specs.Home.{home_from}
use Rattle.format.proofs.Cells.Opening.{starts_short}
use Rattle.search.proofs.Cells.{other_byte, other_mark, same_cell}

-- The plain opening has bytes only.
plain_byte : (k : ℕ) → get_or plain_opening k 0 < 256
plain_byte zero = omega arith
plain_byte (suc zero) = omega arith
plain_byte (suc (suc zero)) = omega arith
plain_byte (suc (suc (suc zero))) = omega arith
plain_byte (suc (suc (suc (suc zero)))) = omega arith
plain_byte (suc (suc (suc (suc (suc zero))))) = omega arith
plain_byte (suc (suc (suc (suc (suc (suc k)))))) = omega arith

-- The plain opening has no marks.
abbrev clear : List ℕ
clear = replicate 6 0

-- The cells end before the opening does.
pub plain_short : (c : List ℕ) (p k : ℕ) → k < 6 → length c ≤ p + k → starts_with (drop k plain_opening) (drop (p + k) c) ≡ false
plain_short c p k h l =
    starts_short (drop k plain_opening) (drop (p + k) c) (omega (arith, length-drop k plain_opening, length-drop (p + k) c))

-- Cell k of the plain opening, compared with the byte and the mark at p + k.
module _ (t m : List ℕ) (p k : ℕ) (h : k < 6) (l : p + k < length (cells t m)) (b : get_or t (p + k) 0 < 256) where
  -- Another byte stands there.
  pub plain_other : (get_or t (p + k) 0 ≡ get_or plain_opening k 0 → ⊥) → starts_with (drop k plain_opening) (drop (p + k) (cells t m)) ≡ false
  unfolding cells
  plain_other ne = other_byte plain_opening clear t m p k h l (plain_byte k) b ne

  -- The byte is marked.
  pub plain_marked : (get_or m (p + k) 0 ≡ 0 → ⊥) → starts_with (drop k plain_opening) (drop (p + k) (cells t m)) ≡ false
  unfolding cells
  plain_marked ne = other_mark plain_opening clear t m p k h l (plain_byte k) b (λ e. ne (e ∙ get_or-replicate 6 k 0 0 h))

  -- The byte agrees and is unmarked.
  pub plain_same : get_or t (p + k) 0 ≡ get_or plain_opening k 0 → get_or m (p + k) 0 ≡ 0
      → starts_with (drop k plain_opening) (drop (p + k) (cells t m)) ≡ starts_with (drop (k + 1) plain_opening) (drop (p + (k + 1)) (cells t m))
  unfolding cells
  plain_same e z = same_cell plain_opening clear t m p k h l (plain_byte k) b e (z ∙ sym (get_or-replicate 6 k 0 0 h))

-- The place p of the window.
module _ (c : List ℕ) (p : ℕ) (h : p < 38) where
  -- Home opens there.
  pub home_here : starts_with plain_opening (drop p c) ≡ true → home_from (38 - p) p c ≡ good p
  unfolding home_from
  home_here e = let n : 38 - p ≡ suc (38 - (p + 1)) = omega arith in rw (n, e)

  -- Home does not open there.
  pub home_later : starts_with plain_opening (drop p c) ≡ false → home_from (38 - p) p c ≡ home_from (38 - (p + 1)) (p + 1) c
  unfolding home_from
  home_later e = let n : 38 - p ≡ suc (38 - (p + 1)) = omega arith in rw (n, e, add-one)

-- No place of the window is left.
pub home_nowhere : (c : List ℕ) (p : ℕ) → 38 ≤ p → home_from (38 - p) p c ≡ refused home_missing
unfolding home_from
home_nowhere c p h = let n : 38 - p ≡ 0 = omega arith in rw n
