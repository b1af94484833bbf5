-- How a track is lent: two lists of one length L, the track's bytes and their marks, seen as one list of cells.
use Rattle.std.specs.Prelude.{ℕ, ◌+◌, ◌*◌, ◌/◌, ◌%◌, Bool, true, ◌&&◌, List, [], ◌∷◌, map, length, leb, ltb, eqb}
use Rattle.format.specs.Layout.{shortest_track, longest_track}

-- L is 3,815 to 4,002.
unfoldable pub length_right : ℕ → Bool
length_right l = leb shortest_track l && leb l longest_track

-- Every mark is 0 or 1.
unfoldable pub marks_legal : List ℕ → Bool
marks_legal [] = true
marks_legal (m ∷ ms) = ltb m 2 && marks_legal ms

-- A pair is lent for writing within the rule: L in range and the marks of the same length.
unfoldable pub lent_for_writing : ℕ → ℕ → Bool
lent_for_writing l k = length_right l && eqb k l

-- A pair is lent for reading within the rule: as for writing, and every mark 0 or 1.
unfoldable pub lent_for_reading : List ℕ → List ℕ → Bool
lent_for_reading t m = lent_for_writing (length t) (length m) && marks_legal m

-- Both pairs are lent within the rule: the read one, and the written one of the same L.
unfoldable pub both_lent : List ℕ → List ℕ → ℕ → ℕ → Bool
both_lent t m l k = lent_for_reading t m && (eqb l (length t) && eqb k (length t))

-- A cell is a byte together with its mark: byte + 256 * mark.
unfoldable pub cells : List ℕ → List ℕ → List ℕ
cells [] m = []
cells (b ∷ t) [] = []
cells (b ∷ t) (k ∷ m) = (b + 256 * k) ∷ cells t m

-- The bytes of cells.
unfoldable pub bytes_of : List ℕ → List ℕ
bytes_of c = map (λ x. x % 256) c

-- The marks of cells.
unfoldable pub marks_of : List ℕ → List ℕ
marks_of c = map (λ x. x / 256) c

-- No cell is marked.
unfoldable pub unmarked : List ℕ → Bool
unmarked [] = true
unmarked (x ∷ c) = ltb x 256 && unmarked c
