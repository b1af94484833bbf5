-- Several tracks lent together: one list with the bytes of all, one with their marks, one with their Ls.
use Rattle.std.specs.Prelude.{◌≡◌, ℕ, ◌<◌, Bool, ◌&&◌, List, length, take, drop, get_or, leb, eqb}
use Rattle.base.specs.Indexed.{sum_to, all_to, join_to, list_to}
use Rattle.format.specs.Lent.{length_right, marks_legal}

-- The bytes of all tracks, a mark for each byte, and L of each track.
pub record Cylinder : Type 0 where
  pub tracks : List ℕ
  pub marks : List ℕ
  pub lengths : List ℕ

-- The number n of its tracks.
abbrev pub track_count : Cylinder → ℕ
track_count c = length c.lengths

-- L of track k.
abbrev pub length_of : List ℕ → ℕ → ℕ
length_of ls k = get_or ls k 0

-- The place at which track k starts in both slices: behind all tracks before it.
abbrev pub start_of : List ℕ → ℕ → ℕ
start_of ls k = sum_to (length_of ls) k

-- The part of a slice that belongs to track k.
unfoldable pub part_of : List ℕ → List ℕ → ℕ → List ℕ
part_of ls xs k = take (length_of ls k) (drop (start_of ls k) xs)

-- The bytes of track k.
abbrev pub track_of : Cylinder → ℕ → List ℕ
track_of c k = part_of c.lengths c.tracks k

-- The marks of track k.
abbrev pub track_marks_of : Cylinder → ℕ → List ℕ
track_marks_of c k = part_of c.lengths c.marks k

-- The cylinder of n tracks t with the marks m.
abbrev pub cylinder_of : ℕ → (ℕ → List ℕ) → (ℕ → List ℕ) → Cylinder
cylinder_of n t m = record { tracks = join_to t n; marks = join_to m n; lengths = list_to (λ k. length (t k)) n }

-- The cylinder c has n tracks, which are t with the marks m.
abbrev pub TracksAre : Cylinder → ℕ → (ℕ → List ℕ) → (ℕ → List ℕ) → Type 0
TracksAre c n t m = (track_count c ≡ n) × ((k : ℕ) → k < n → (track_of c k ≡ t k) × (track_marks_of c k ≡ m k))

-- The number of tracks is 1 to 10.
unfoldable pub track_count_right : ℕ → Bool
track_count_right n = leb 1 n && leb n 10

-- The first n of the lengths l are in range.
unfoldable pub lengths_right : (ℕ → ℕ) → ℕ → Bool
lengths_right l n = all_to (λ k. length_right (l k)) n

-- A cylinder is lent for reading within the rule: every L in range, both slices as long as the Ls together, and every mark 0 or 1.
unfoldable pub cylinder_lent : Cylinder → Bool
cylinder_lent c =
    lengths_right (length_of c.lengths) (track_count c)
    && (eqb (length c.tracks) (start_of c.lengths (track_count c))
    && (eqb (length c.marks) (start_of c.lengths (track_count c))
    && marks_legal c.marks))
