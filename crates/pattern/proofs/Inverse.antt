-- The bit cells of a byte are read as they were written, for any byte and any clock pattern, and written as they were read.
use mathlib.Core.Path.{◌≡◌, refl, ap, ap₂, ◌∙◌}
use Prim.Native.Nat.{ℕ, ◌/◌, ◌%◌, ◌<◌}
use native.Mathlib.Omega.{arith}
use native.Mathlib.Nat.{mod-lt}
use mathlib.Core.List.{List, [], ◌∷◌, ◌++◌}
use lib.ListN.{take, drop}
use lib.Dec.{lit<}
use Rattle.crc.specs.Check.{digits, coefficients}
use Rattle.crc.specs.Division.{value}
use Rattle.crc.proofs.Value.{value_byte}
use Rattle.pattern.specs.Pattern.{alternating, as_byte, bit_cells, first_cells, second_cells, clock_cells, data_cells, clocks_in, data_in}

-- A byte is the byte of its eight bits.
byte_digits : (b : ℕ) → b < 256 → as_byte (digits 8 b) ≡ b
unfolding digits coefficients value
byte_digits b h = value_byte 0 b [] h ∙ omega arith

-- The eight bits of the byte of eight bits are those bits.
digits_byte : (a b c d e f g h : ℕ) → a < 2 → b < 2 → c < 2 → d < 2 → e < 2 → f < 2 → g < 2 → h < 2
    → digits 8 (as_byte (a ∷ b ∷ c ∷ d ∷ e ∷ f ∷ g ∷ h ∷ [])) ≡ a ∷ b ∷ c ∷ d ∷ e ∷ f ∷ g ∷ h ∷ []
unfolding digits value
digits_byte a b c d e f g h ha hb hc hd he hf hg hh =
    let n : ℕ = as_byte (a ∷ b ∷ c ∷ d ∷ e ∷ f ∷ g ∷ h ∷ []) in
    let q0 : n / 128 % 2 ≡ a = omega arith in
    let q1 : n / 64 % 2 ≡ b = omega arith in
    let q2 : n / 32 % 2 ≡ c = omega arith in
    let q3 : n / 16 % 2 ≡ d = omega arith in
    let q4 : n / 8 % 2 ≡ e = omega arith in
    let q5 : n / 4 % 2 ≡ f = omega arith in
    let q6 : n / 2 % 2 ≡ g = omega arith in
    let q7 : n / 1 % 2 ≡ h = omega arith in
    rw (q0, q1, q2, q3, q4, q5, q6, q7)

-- A remainder by two is a bit.
pub bit : (n : ℕ) → n % 2 < 2
bit n = mod-lt n (lit< tt)

-- The bits of the first cell byte are the first eight bit cells,
first_digits : (k b : ℕ) → digits 8 (first_cells k b) ≡ take 8 (bit_cells k b)
unfolding first_cells bit_cells alternating digits
first_digits k b =
    digits_byte (k / 128 % 2) (b / 128 % 2) (k / 64 % 2) (b / 64 % 2) (k / 32 % 2) (b / 32 % 2) (k / 16 % 2) (b / 16 % 2)
    (bit (k / 128)) (bit (b / 128)) (bit (k / 64)) (bit (b / 64)) (bit (k / 32)) (bit (b / 32)) (bit (k / 16)) (bit (b / 16))

-- and those of the second are the other eight.
second_digits : (k b : ℕ) → digits 8 (second_cells k b) ≡ drop 8 (bit_cells k b)
unfolding second_cells bit_cells alternating digits
second_digits k b =
    digits_byte (k / 8 % 2) (b / 8 % 2) (k / 4 % 2) (b / 4 % 2) (k / 2 % 2) (b / 2 % 2) (k / 1 % 2) (b / 1 % 2)
    (bit (k / 8)) (bit (b / 8)) (bit (k / 4)) (bit (b / 4)) (bit (k / 2)) (bit (b / 2)) (bit (k / 1)) (bit (b / 1))

-- The clock cells and the data cells of the bit cells of a byte are the bits of its clock pattern and its own.
clocks_among : (k b : ℕ) → clock_cells (take 8 (bit_cells k b) ++ drop 8 (bit_cells k b)) ≡ digits 8 k
unfolding clock_cells bit_cells alternating digits
clocks_among k b = refl

data_among : (k b : ℕ) → data_cells (take 8 (bit_cells k b) ++ drop 8 (bit_cells k b)) ≡ digits 8 b
unfolding data_cells bit_cells alternating digits
data_among k b = refl

-- Of the bit cells of any byte with any clock pattern, the clocks that are read are the pattern,
pub clocks_written : (k b : ℕ) → k < 256 → clocks_in (first_cells k b) (second_cells k b) ≡ k
unfolding clocks_in
clocks_written k b h =
    ap₂ (λ (u v : List ℕ). as_byte (clock_cells (u ++ v))) (first_digits k b) (second_digits k b)
    ∙ ap as_byte (clocks_among k b)
    ∙ byte_digits k h

-- and the data that are read are the byte.
pub data_written : (k b : ℕ) → b < 256 → data_in (first_cells k b) (second_cells k b) ≡ b
unfolding data_in
data_written k b h =
    ap₂ (λ (u v : List ℕ). as_byte (data_cells (u ++ v))) (first_digits k b) (second_digits k b)
    ∙ ap as_byte (data_among k b)
    ∙ byte_digits b h

-- The bits of the clock pattern of two cell bytes are their clock cells,
clock_digits : (x y : ℕ) → digits 8 (clocks_in x y) ≡ clock_cells (digits 8 x ++ digits 8 y)
unfolding clocks_in clock_cells digits
clock_digits x y =
    digits_byte (x / 128 % 2) (x / 32 % 2) (x / 8 % 2) (x / 2 % 2) (y / 128 % 2) (y / 32 % 2) (y / 8 % 2) (y / 2 % 2)
    (bit (x / 128)) (bit (x / 32)) (bit (x / 8)) (bit (x / 2)) (bit (y / 128)) (bit (y / 32)) (bit (y / 8)) (bit (y / 2))

-- and those of their data byte are their data cells.
data_digits : (x y : ℕ) → digits 8 (data_in x y) ≡ data_cells (digits 8 x ++ digits 8 y)
unfolding data_in data_cells digits
data_digits x y =
    digits_byte (x / 64 % 2) (x / 16 % 2) (x / 4 % 2) (x / 1 % 2) (y / 64 % 2) (y / 16 % 2) (y / 4 % 2) (y / 1 % 2)
    (bit (x / 64)) (bit (x / 16)) (bit (x / 4)) (bit (x / 1)) (bit (y / 64)) (bit (y / 16)) (bit (y / 4)) (bit (y / 1))

-- The clock cells and the data cells of two cell bytes, alternating, are their bits.
first_among : (x y : ℕ) → take 8 (alternating (clock_cells (digits 8 x ++ digits 8 y)) (data_cells (digits 8 x ++ digits 8 y))) ≡ digits 8 x
unfolding clock_cells data_cells alternating digits
first_among x y = refl

second_among : (x y : ℕ) → drop 8 (alternating (clock_cells (digits 8 x ++ digits 8 y)) (data_cells (digits 8 x ++ digits 8 y))) ≡ digits 8 y
unfolding clock_cells data_cells alternating digits
second_among x y = refl

-- Any two cell bytes are written again from their clocks and their data: the first,
pub first_read : (x y : ℕ) → x < 256 → first_cells (clocks_in x y) (data_in x y) ≡ x
unfolding first_cells bit_cells
first_read x y h =
    ap₂ (λ (u v : List ℕ). as_byte (take 8 (alternating u v))) (clock_digits x y) (data_digits x y)
    ∙ ap as_byte (first_among x y)
    ∙ byte_digits x h

-- and the second.
pub second_read : (x y : ℕ) → y < 256 → second_cells (clocks_in x y) (data_in x y) ≡ y
unfolding second_cells bit_cells
second_read x y h =
    ap₂ (λ (u v : List ℕ). as_byte (drop 8 (alternating u v))) (clock_digits x y) (data_digits x y)
    ∙ ap as_byte (second_among x y)
    ∙ byte_digits y h

-- The data that are read are a byte.
pub data_byte : (x y : ℕ) → data_in x y < 256
unfolding data_in data_cells digits value
data_byte x y =
    omega (arith, bit (x / 64), bit (x / 16), bit (x / 4), bit (x / 1), bit (y / 64), bit (y / 16), bit (y / 4), bit (y / 1))
