-- List as rows of eight numbers: what a row holds, which rows of the caller are filled, and what stays.
use Rattle.std.specs.Prelude.{ℕ, ◌%◌, List, [], ◌∷◌, ◌++◌, map, length, drop}
use Rattle.format.specs.Judged.{Judged}
use Rattle.format.specs.Listing.{Listed}
use Rattle.listing.specs.declared.Sector.{Sector}
use Rattle.listing.specs.Filling.{records_of}

-- The row of a sector record: flag, S, KL, DL, the key's place, the data's place, end and gap.
abbrev pub row_of : Listed → List ℕ
row_of r = r.flag ∷ r.number ∷ r.key_length ∷ r.data_length ∷ r.key_place ∷ r.data_place ∷ r.end ∷ r.gap ∷ []

-- The rows of an outcome: none where it is refused.
abbrev pub rows_of : Judged (List Listed) → List (List ℕ)
rows_of j = map row_of (records_of j)

-- The caller's rows after the call: those of the outcome, and behind them what stood there.
unfoldable pub filled_rows : Judged (List Listed) → List (List ℕ) → List (List ℕ)
filled_rows j old = rows_of j ++ drop (length (rows_of j)) old

-- The low 16 bits of each number of a record of the code; flag and S have eight.
abbrev pub low_bits : Sector → List ℕ
low_bits s =
    s.flag
    ∷ s.number
    ∷ s.key_length % 65536
    ∷ s.data_length % 65536
    ∷ s.key_place % 65536
    ∷ s.data_place % 65536
    ∷ s.end % 65536
    ∷ s.gap % 65536
    ∷ []
