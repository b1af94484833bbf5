-- What is written for a key and for data, and how much it takes, with and without bytes.
use mathlib.Core.Path.{◌≡◌, refl}
use Prim.Native.Nat.{ℕ, ◌+◌}
use native.Mathlib.Omega.{arith}
use mathlib.Core.List.{List, [], ◌∷◌, ◌++◌}
use lib.ListN.{length}
use borrow.Author.Tests.{eq-eqb, ne_eqb}
use Rattle.format.specs.Opening.{plain_opening}
use Rattle.format.specs.Block.{key_size}
use Rattle.format.specs.Written.{data_size, inner_gap, written_block, written_key, written_data}

-- Nothing is written for no key.
pub key_none : (xs : List ℕ) → length xs ≡ 0 → written_key xs ≡ []
unfolding written_key
key_none [] e = refl
key_none (x ∷ xs) e = absurd (omega arith)

-- The gap and the block are written for a key.
pub key_some : (xs : List ℕ) → (length xs ≡ 0 → ⊥) → written_key xs ≡ inner_gap ++ written_block xs
unfolding written_key
key_some [] f = absurd (f refl)
key_some (x ∷ xs) f = refl

-- The opening and one 00 are written for no data.
pub data_none : (xs : List ℕ) → length xs ≡ 0 → written_data xs ≡ plain_opening ++ 0x00 ∷ []
unfolding written_data
data_none [] e = refl
data_none (x ∷ xs) e = absurd (omega arith)

-- The block is written for data.
pub data_some : (xs : List ℕ) → (length xs ≡ 0 → ⊥) → written_data xs ≡ written_block xs
unfolding written_data
data_some [] f = absurd (f refl)
data_some (x ∷ xs) f = refl

-- No key takes nothing.
pub key_size_none : (n : ℕ) → n ≡ 0 → key_size n ≡ 0
unfolding key_size
key_size_none n e = rw (eq-eqb n 0 e)

-- A key takes 20 bytes more than its own, with the gap of 11.
pub key_size_some : (n : ℕ) → (n ≡ 0 → ⊥) → key_size n ≡ n + 20
unfolding key_size
key_size_some n f = rw (ne_eqb n 0 f)

-- No data takes seven bytes.
pub data_size_none : (n : ℕ) → n ≡ 0 → data_size n ≡ 7
unfolding data_size
data_size_none n e = rw (eq-eqb n 0 e)

-- Data takes nine bytes more than its own.
pub data_size_some : (n : ℕ) → (n ≡ 0 → ⊥) → data_size n ≡ n + 9
unfolding data_size
data_size_some n f = rw (ne_eqb n 0 f)
