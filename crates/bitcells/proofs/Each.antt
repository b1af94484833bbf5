-- The bit cells of a track byte by byte: the elements and the lengths of what the definitions give for each.
use mathlib.Core.Path.{◌≡◌, refl, ap}
use Prim.Native.Nat.{ℕ, zero, suc, ◌+◌, ◌*◌, ◌/◌, ◌<◌, min}
use native.Mathlib.Omega.{arith}
use mathlib.Core.List.{List, [], ◌∷◌, ◌++◌}
use lib.ListN.{length, get_or}
use Rattle.pattern.specs.Pattern.{first_cells, second_cells, clocks_for, cell_bytes}
use Rattle.bitcells.specs.Each.{each_pattern, each_byte}
use Rattle.bitcells.specs.ToCells.{written_cells}

module _ {A : Type 0} (f : ℕ → ℕ → A) where
  -- There is one for each two cell bytes,
  pub length_pattern : (xs : List ℕ) → length (each_pattern f xs) ≡ length xs / 2
  unfolding each_pattern
  length_pattern [] = refl
  length_pattern (x ∷ []) = refl
  length_pattern (x ∷ y ∷ xs) = omega (arith, length_pattern xs)

  -- and it is f of these two.
  pub get_d_pattern : (xs : List ℕ) (i : ℕ) (d : A) → 2 * i + 1 < length xs → get_or (each_pattern f xs) i d ≡ f (get_or xs (2 * i) 0) (get_or xs (2 * i + 1) 0)
  unfolding each_pattern
  get_d_pattern [] i d h = absurd (omega arith)
  get_d_pattern (x ∷ []) i d h = absurd (omega arith)
  get_d_pattern (x ∷ y ∷ xs) zero d h = refl
  get_d_pattern (x ∷ y ∷ xs) (suc i) d h =
      let e : 2 * suc i ≡ suc (suc (2 * i)) = omega arith in
      let g : suc (suc (2 * i)) + 1 ≡ suc (suc (2 * i + 1)) = omega arith in
      rw (e, g) (get_d_pattern xs i d (omega arith))

  -- Of the cell bytes behind an even number of others they come behind those of the others.
  pub pattern_append : (n : ℕ) (xs ys : List ℕ) → length xs ≡ 2 * n → each_pattern f (xs ++ ys) ≡ each_pattern f xs ++ each_pattern f ys
  unfolding each_pattern
  pattern_append n [] ys e = refl
  pattern_append n (x ∷ []) ys e = absurd (omega arith)
  pattern_append zero (x ∷ y ∷ xs) ys e = absurd (omega arith)
  pattern_append (suc n) (x ∷ y ∷ xs) ys e = ap (λ (r : List A). f x y ∷ r) (pattern_append n xs ys (omega arith))

  -- There is one for each byte that has a mark,
  pub length_each : (t m : List ℕ) → length (each_byte f t m) ≡ min (length t) (length m)
  unfolding each_byte
  length_each [] m = omega arith
  length_each (b ∷ t) [] = omega arith
  length_each (b ∷ t) (k ∷ m) = omega (arith, length_each t m)

  -- and it is f of the byte and its mark.
  pub get_d_each : (t m : List ℕ) (i : ℕ) (d : A) → i < length t → i < length m → get_or (each_byte f t m) i d ≡ f (get_or t i 0) (get_or m i 0)
  unfolding each_byte
  get_d_each [] m i d h g = absurd (omega arith)
  get_d_each (b ∷ t) [] i d h g = absurd (omega arith)
  get_d_each (b ∷ t) (k ∷ m) zero d h g = refl
  get_d_each (b ∷ t) (k ∷ m) (suc i) d h g = get_d_each t m i d (omega arith) (omega arith)

  -- Of the bytes behind as many others as marks they come behind those of the others.
  pub each_append : (t u m n : List ℕ) → length m ≡ length t → each_byte f (t ++ u) (m ++ n) ≡ each_byte f t m ++ each_byte f u n
  unfolding each_byte
  each_append [] u [] n e = refl
  each_append [] u (k ∷ m) n e = absurd (omega arith)
  each_append (b ∷ t) u [] n e = absurd (omega arith)
  each_append (b ∷ t) u (k ∷ m) n e = ap (λ (r : List A). f b k ∷ r) (each_append t u m n (omega arith))

  -- Of the cell bytes that are written for a track there is one for each of its bytes.
  pub pattern_written : (t m : List ℕ) → each_pattern f (written_cells t m) ≡ each_byte (λ b k. f (first_cells (clocks_for k) b) (second_cells (clocks_for k) b)) t m
  unfolding each_pattern each_byte written_cells cell_bytes
  pattern_written [] m = refl
  pattern_written (b ∷ t) [] = refl
  pattern_written (b ∷ t) (k ∷ m) = ap (λ (r : List A). f (first_cells (clocks_for k) b) (second_cells (clocks_for k) b) ∷ r) (pattern_written t m)

-- Two cell bytes are written for each byte that has a mark,
pub length_written : (t m : List ℕ) → length (written_cells t m) ≡ 2 * min (length t) (length m)
unfolding each_byte written_cells cell_bytes
length_written [] m = omega arith
length_written (b ∷ t) [] = omega arith
length_written (b ∷ t) (k ∷ m) = omega (arith, length_written t m)

-- at twice its place the first,
pub get_d_first : (t m : List ℕ) (i : ℕ) → i < length t → i < length m → get_or (written_cells t m) (2 * i) 0 ≡ first_cells (clocks_for (get_or m i 0)) (get_or t i 0)
unfolding each_byte written_cells cell_bytes
get_d_first [] m i h g = absurd (omega arith)
get_d_first (b ∷ t) [] i h g = absurd (omega arith)
get_d_first (b ∷ t) (k ∷ m) zero h g = refl
get_d_first (b ∷ t) (k ∷ m) (suc i) h g =
    let e : 2 * suc i ≡ suc (suc (2 * i)) = omega arith in
    rw e (get_d_first t m i (omega arith) (omega arith))

-- and behind it the second.
pub get_d_second : (t m : List ℕ) (i : ℕ) → i < length t → i < length m → get_or (written_cells t m) (2 * i + 1) 0 ≡ second_cells (clocks_for (get_or m i 0)) (get_or t i 0)
unfolding each_byte written_cells cell_bytes
get_d_second [] m i h g = absurd (omega arith)
get_d_second (b ∷ t) [] i h g = absurd (omega arith)
get_d_second (b ∷ t) (k ∷ m) zero h g = refl
get_d_second (b ∷ t) (k ∷ m) (suc i) h g =
    let e : 2 * suc i + 1 ≡ suc (suc (2 * i + 1)) = omega arith in
    rw e (get_d_second t m i (omega arith) (omega arith))
