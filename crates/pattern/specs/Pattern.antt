-- The bit cells of one byte: for every bit, B8 first, a clock cell and then its data cell; eight bit cells to a cell byte, the first in its top bit.
use Rattle.std.specs.Prelude.{ℕ, Bool, ◌&&◌, ◌||◌, List, [], ◌∷◌, ◌++◌, take, drop, replicate, eqb}
use Rattle.base.specs.Pick.{pick}
use Rattle.crc.specs.Check.{digits}
use Rattle.crc.specs.Division.{value}

-- For every bit its clock cell and then its data cell.
unfoldable pub alternating : List ℕ → List ℕ → List ℕ
alternating [] ds = []
alternating (k ∷ ks) [] = []
alternating (k ∷ ks) (d ∷ ds) = k ∷ d ∷ alternating ks ds

-- Eight bits as a byte, the first in its top bit.
abbrev pub as_byte : List ℕ → ℕ
as_byte ds = value 0 ds

-- The sixteen bit cells of the byte b with the clock pattern k, whose bits say which clocks are present, the first in its top bit.
unfoldable pub bit_cells : ℕ → ℕ → List ℕ
bit_cells k b = alternating (digits 8 k) (digits 8 b)

-- They are two cell bytes: the first eight,
unfoldable pub first_cells : ℕ → ℕ → ℕ
first_cells k b = as_byte (take 8 (bit_cells k b))

-- and the other eight.
unfoldable pub second_cells : ℕ → ℕ → ℕ
second_cells k b = as_byte (drop 8 (bit_cells k b))

-- The clocks of an unmarked byte: all eight.
abbrev pub all_clocks : ℕ
all_clocks = as_byte (replicate 8 1)

-- The clocks of a marked byte: all but the first five.
abbrev pub marked_clocks : ℕ
marked_clocks = as_byte (replicate 5 0 ++ replicate 3 1)

-- The clocks of a byte by its mark.
unfoldable pub clocks_for : ℕ → ℕ
clocks_for mark = pick (eqb mark 0) all_clocks marked_clocks

-- A byte can be recorded with its mark: only FF can be marked.
unfoldable pub recordable : ℕ → ℕ → Bool
recordable b mark = eqb mark 0 || eqb b 0xFF

-- The two cell bytes of a byte with its mark.
unfoldable pub cell_bytes : ℕ → ℕ → List ℕ
cell_bytes b mark = first_cells (clocks_for mark) b ∷ second_cells (clocks_for mark) b ∷ []

-- The clock cells among bit cells: every second one from the first on.
unfoldable pub clock_cells : List ℕ → List ℕ
clock_cells [] = []
clock_cells (k ∷ []) = k ∷ []
clock_cells (k ∷ d ∷ cs) = k ∷ clock_cells cs

-- The data cells among bit cells: every second one from the second on.
unfoldable pub data_cells : List ℕ → List ℕ
data_cells [] = []
data_cells (k ∷ []) = []
data_cells (k ∷ d ∷ cs) = d ∷ data_cells cs

-- The clock pattern of two cell bytes.
unfoldable pub clocks_in : ℕ → ℕ → ℕ
clocks_in x y = as_byte (clock_cells (digits 8 x ++ digits 8 y))

-- Their data byte.
unfoldable pub data_in : ℕ → ℕ → ℕ
data_in x y = as_byte (data_cells (digits 8 x ++ digits 8 y))

-- Two cell bytes are a legal pattern: all eight clocks with any data, or FF without its first five clocks.
unfoldable pub legal_pattern : ℕ → ℕ → Bool
legal_pattern x y = eqb (clocks_in x y) all_clocks || (eqb (clocks_in x y) marked_clocks && eqb (data_in x y) 0xFF)

-- The mark that such a pattern stands for: 0 where all clocks are present.
unfoldable pub mark_in : ℕ → ℕ → ℕ
mark_in x y = pick (eqb (clocks_in x y) all_clocks) 0 1
