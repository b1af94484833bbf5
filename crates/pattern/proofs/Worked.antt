-- The worked numbers: the cell bytes of 00, 0E and FF unmarked and of FF marked, and what they stand for.
use mathlib.Core.Path.{◌≡◌, refl}
use Prim.Native.Nat.{ℕ}
use mathlib.Core.Bool.{Bool, true, ◌&&◌}
use mathlib.Core.List.{List, [], ◌∷◌}
use lib.Dec.{eqb}
use Rattle.crc.specs.Check.{digits}
use Rattle.crc.specs.Division.{value}
use Rattle.pattern.specs.Pattern.{alternating, bit_cells, first_cells, second_cells, clocks_for, clock_cells, data_cells, clocks_in, data_in, legal_pattern, mark_in}

-- A byte with its mark, and its two cell bytes.
pub record Row : Type 0 where
  pub byte : ℕ
  pub mark : ℕ
  pub first : ℕ
  pub second : ℕ

abbrev row : ℕ → ℕ → ℕ → ℕ → Row
row b m x y = record { byte = b; mark = m; first = x; second = y }

abbrev pub worked : List Row
worked = row 0x00 0 0xAA 0xAA ∷ row 0x0E 0 0xAA 0xFE ∷ row 0xFF 0 0xFF 0xFF ∷ row 0xFF 1 0x55 0x7F ∷ []

-- The byte is written so, and what is written is legal and read as the byte and its mark.
abbrev row_holds : Row → Bool
row_holds r =
    eqb (first_cells (clocks_for r.mark) r.byte) r.first
    && eqb (second_cells (clocks_for r.mark) r.byte) r.second
    && legal_pattern r.first r.second
    && eqb (data_in r.first r.second) r.byte
    && eqb (mark_in r.first r.second) r.mark

abbrev pub all_hold : List Row → Bool
all_hold [] = true
all_hold (r ∷ rs) = row_holds r && all_hold rs

pub worked_hold : all_hold worked ≡ true
unfolding first_cells second_cells clocks_for bit_cells alternating clock_cells data_cells clocks_in data_in legal_pattern mark_in digits value
worked_hold = refl
