-- The openings of home, counts and blocks, and what closes them.
use Rattle.std.specs.Prelude.{ℕ, ◌+◌, Bool, true, false, ◌&&◌, List, [], ◌∷◌, ◌++◌, take, drop, eqb}
use Rattle.crc.specs.Check.{check_bytes}
use Rattle.format.specs.Layout.{check_length}

-- The cells c start with the list o.
abbrev pub starts_with : List ℕ → List ℕ → Bool
starts_with [] c = true
starts_with (x ∷ o) [] = false
starts_with (x ∷ o) (y ∷ c) = eqb x y && starts_with o c

-- The opening of home, of sector 0's count, of keys and of data blocks: six bytes, none of them marked.
abbrev pub plain_opening : List ℕ
plain_opening = 0x00 ∷ 0x00 ∷ 0x00 ∷ 0x00 ∷ 0xFF ∷ 0x0E ∷ []

-- FF with its mark.
abbrev pub marked_ff : ℕ
marked_ff = 0x1FF

-- The opening of a later count: eight bytes with three FF, the last two of them marked and no other byte.
abbrev pub marked_opening : List ℕ
marked_opening = 0x00 ∷ 0x00 ∷ 0x00 ∷ 0x00 ∷ 0xFF ∷ marked_ff ∷ marked_ff ∷ 0x0E ∷ []

-- A whole marked opening stands here.
unfoldable pub opens : List ℕ → Bool
opens c = starts_with marked_opening c

-- What closes the information xs: its check, and CC.
unfoldable pub closing : List ℕ → List ℕ
closing xs = check_bytes xs ++ 0xCC ∷ []

-- A field of n information bytes is closed rightly: its check and CC follow it.
unfoldable pub closed_after : ℕ → List ℕ → Bool
closed_after n c = starts_with (closing (take n c)) (drop n c)

-- The check of n information bytes follows them.
unfoldable pub check_follows : ℕ → List ℕ → Bool
check_follows n c = starts_with (check_bytes (take n c)) (drop n c)

-- The closing byte follows them and their check.
unfoldable pub closing_follows : ℕ → List ℕ → Bool
closing_follows n c = starts_with (0xCC ∷ []) (drop (n + check_length) c)
