-- A written sector and home: their lengths, bytes and marks, and when a sector fits.
use mathlib.Core.Path.{◌≡◌, refl, sym, ap, ◌∙◌}
use Prim.Native.Nat.{ℕ, ◌+◌, ◌-◌, ◌/◌, ◌%◌, ◌≤◌, ◌<◌}
use native.Mathlib.Omega.{arith}
use mathlib.Core.Bool.{true, false}
use mathlib.Core.List.{List, [], ◌∷◌, ◌++◌, append_assoc, append-nil}
use lib.ListN.{length, replicate, length-append}
use lib.Dec.{lit<}
use borrow.Author.Tests.{leb-true, le-leb, lt-ltb}
use Rattle.format.specs.Lent.{bytes_of, marks_of, unmarked}
use Rattle.format.specs.Opening.{closing}
use Rattle.format.specs.Address.{address_bytes}
use Rattle.format.specs.Sector.{Sector, opening_length, content_right}
use Rattle.format.specs.Written.{home_gap, inner_gap, count_info, written_block, written_key, written_data, count_opening, written_sector, sector_size}
use Rattle.format.specs.Blank.{written_head}
use Rattle.format.proofs.Cells.Opening.{unmarked_append, unmarked_replicate}
use Rattle.format.proofs.Cells.Field.{unmarked_block, length_closing}
use Rattle.format.proofs.Sector.Valid.{FitsCount, info_unmarked}
use Rattle.format.proofs.Sector.WrittenRest.{written_rest, written_form, rest_unmarked, length_rest}
use Rattle.format.proofs.Sector.ReadBack.{length_written}
use Rattle.format.proofs.Track.Pairs.{bytes_unmarked}
use Rattle.format.proofs.Written.WrittenHome.{head_length_holds}
use Rattle.encode.specs.Room.{address_of, both_fit, sector_fits}
use Rattle.encode.specs.Bytes.{count_bytes}
use Rattle.encode.proofs.Room.{both_fit_lem}
use Rattle.base.proofs.Tests.{and_both, and_right}
use Rattle.encode.proofs.Openings.{length_opening}
use Rattle.encode.proofs.Cells.{bytes_append, marks_append, marks_unmarked}

-- Content within the rule.
pub content_bounds : (key body : List ℕ) → content_right key body ≡ true → (length key ≤ 255) × (length body ≤ 65535)
unfolding content_right
content_bounds key body e =
    let h = and_both _ _ e in
    (leb-true (length key) 255 h.0, leb-true (length body) 65535 h.1)

-- And such content is within the rule.
pub content_within : (key body : List ℕ) → (length key ≤ 255) × (length body ≤ 65535) → content_right key body ≡ true
unfolding content_right
content_within key body h = rw (le-leb (length key) 255 h.0, le-leb (length body) 65535 h.1)

-- What a written count takes.
pub count_length_lem : (s : Sector) → length (count_bytes s) ≡ opening_length s.first + 12
unfolding count_bytes count_info address_bytes
count_length_lem s =
    omega (arith, length-append (bytes_of (count_opening s.first)) (count_info s ++ closing (count_info s)), length_opening s.first, length_closing (count_info s))

-- Behind a count's opening everything is unmarked.
sector_rest : (s : Sector) → FitsCount s → unmarked s.key_bytes ≡ true → unmarked s.data_bytes ≡ true → unmarked (written_rest s []) ≡ true
unfolding unmarked
sector_rest s f k d = rest_unmarked s [] (info_unmarked s f) k d refl

-- A written sector is its count's opening and the rest.
sector_split : (s : Sector) → written_sector s ≡ count_opening s.first ++ written_rest s []
sector_split s = sym (append-nil (written_sector s)) ∙ written_form s []

-- The bytes of a written sector, part by part.
pub sector_bytes : (s : Sector) → FitsCount s → unmarked s.key_bytes ≡ true → unmarked s.data_bytes ≡ true
    → ((count_bytes s ++ written_key s.key_bytes) ++ inner_gap) ++ written_data s.data_bytes ≡ bytes_of (written_sector s)
unfolding count_bytes written_rest
sector_bytes s f k d =
    let e : bytes_of (written_sector s) ≡ bytes_of (count_opening s.first) ++ written_rest s [] =
    ap bytes_of (sector_split s) ∙ bytes_append (count_opening s.first) (written_rest s [])
    ∙ ap (λ (l : List ℕ). bytes_of (count_opening s.first) ++ l) (bytes_unmarked (written_rest s []) (sector_rest s f k d)) in
    simp append_assoc (sym (simp append-nil at e))

-- Its marks, where it takes n bytes: those of the count's opening, and 0 behind it.
pub sector_marks : (s : Sector) (n : ℕ) → n ≡ length (written_sector s) → FitsCount s → unmarked s.key_bytes ≡ true → unmarked s.data_bytes ≡ true
    → marks_of (written_sector s) ≡ marks_of (count_opening s.first) ++ replicate (n - opening_length s.first) 0
unfolding sector_size
sector_marks s n q f k d =
    let z : length (written_rest s []) ≡ n - opening_length s.first = omega (arith, length_rest s [], length_written s) in
    ap marks_of (sector_split s) ∙ marks_append (count_opening s.first) (written_rest s [])
    ∙ ap (λ (l : List ℕ). marks_of (count_opening s.first) ++ l)
    (marks_unmarked (written_rest s []) (sector_rest s f k d) ∙ ap (λ (n : ℕ). replicate n 0) z)

module _ (s : Sector) (l k : ℕ) where
  -- A sector with too long a key or too long data is refused.
  pub content_unfit : content_right s.key_bytes s.data_bytes ≡ false → sector_fits s l k ≡ false
  unfolding sector_fits
  content_unfit e = rw e

  -- A sector that does not fit is refused.
  pub sector_unfit : (n : ℕ) → n ≡ length (written_sector s) → both_fit n l k ≡ false → sector_fits s l k ≡ false
  unfolding sector_fits
  sector_unfit n q e = and_right (content_right s.key_bytes s.data_bytes) (ap (λ (m : ℕ). both_fit m l k) (sym q) ∙ e)

  -- Any other is written.
  pub sector_fits_lem : (n : ℕ) → n ≡ length (written_sector s) → content_right s.key_bytes s.data_bytes ≡ true → n ≤ l → n ≤ k → sector_fits s l k ≡ true
  unfolding sector_fits
  sector_fits_lem n q e u v =
      rw e
      (both_fit_lem (length (written_sector s)) l k (omega arith) (omega arith))

module _ (flag cylinder head : ℕ) (f : flag < 256) (c : cylinder < 65536) (h : head < 65536) where
  -- The information of home is unmarked.
  home_info : unmarked (flag ∷ address_bytes (address_of cylinder head)) ≡ true
  unfolding address_bytes unmarked
  home_info =
      simp (
        lt-ltb flag 256 f,
        lt-ltb (cylinder / 256) 256 (omega arith),
        lt-ltb (cylinder % 256) 256 (omega arith),
        lt-ltb (head / 256) 256 (omega arith),
        lt-ltb (head % 256) 256 (omega arith),
      )

  -- Home and the gaps before and after it are unmarked.
  pub head_unmarked : unmarked (written_head flag (address_of cylinder head)) ≡ true
  unfolding written_head
  head_unmarked =
      let info = flag ∷ address_bytes (address_of cylinder head) in
      unmarked_append (replicate 30 0x00) (written_block info ++ home_gap) (unmarked_replicate 30 0x00 (lit< tt))
      (unmarked_append (written_block info) home_gap (unmarked_block info home_info) (unmarked_replicate 11 0x00 (lit< tt)))

  -- So their bytes are their cells.
  pub head_bytes : bytes_of (written_head flag (address_of cylinder head)) ≡ written_head flag (address_of cylinder head)
  head_bytes = bytes_unmarked (written_head flag (address_of cylinder head)) head_unmarked

  -- And their marks are 55 times 0.
  pub head_marks : marks_of (written_head flag (address_of cylinder head)) ≡ replicate 55 0
  head_marks =
      marks_unmarked (written_head flag (address_of cylinder head)) head_unmarked
      ∙ ap (λ (n : ℕ). replicate n 0) (head_length_holds flag (address_of cylinder head))
