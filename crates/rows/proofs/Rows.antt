-- The rows of List: each number of a record fits 16 bits, and the rows that are stored are those of the records.
use mathlib.Core.Path.{◌≡◌, refl, sym, ap, ◌∙◌, subst}
use Prim.Native.Nat.{ℕ, zero, suc, ◌%◌, ◌≤◌, ◌<◌}
use native.Mathlib.Nat.{le_of_suc-le-suc, mod-eq_of_lt}
use native.Mathlib.Omega.{arith}
use mathlib.Core.List.{List, [], ◌∷◌, ◌++◌}
use lib.ListN.{length, drop, get_or, length-map, get_or-append, get_or-map}
use Rattle.base.proofs.Filled.{filled as filled_to, filled_whole}
use Rattle.std.specs.Prelude.{Result}
use Rattle.format.specs.declared.Refusal.{Refusal}
use Rattle.format.specs.Answer.{lent_wrong, as_answer, given}
use Rattle.format.specs.Judged.{Judged, good, refused, answer_of}
use Rattle.format.specs.Listing.{Listed, most_sectors, list}
use Rattle.format.proofs.Track.ListAccepted.{list_short, list_long}
use Rattle.format.proofs.Track.RecordBounds.{Within, AllWithin, records_within}
use Rattle.listing.specs.declared.Sector.{Sector}
use Rattle.listing.specs.Filling.{as_listed, as_records, records_of, filled}
use Rattle.rows.specs.Rows.{row_of, rows_of, filled_rows, low_bits}

low : (n l : ℕ) → n ≤ l → l ≤ 4002 → n % 65536 ≡ n
low n l a b = mod-eq_of_lt (omega arith)

-- The low bits of a record whose numbers are small are its row.
low_row : (s : Sector) (l : ℕ) → l ≤ 4002 → Within l (as_listed s) → low_bits s ≡ row_of (as_listed s)
low_row s l h w =
    let kl = low s.key_length l w.key_length_most h in
    let dl = low s.data_length l w.data_length_most h in
    let kp = low s.key_place l w.key_place_most h in
    let dp = low s.data_place l w.data_place_most h in
    let e = low s.end l w.end_most h in
    let g = low s.gap l w.gap_most h in
    λ i. s.flag ∷ s.number ∷ kl i ∷ dl i ∷ kp i ∷ dp i ∷ e i ∷ g i ∷ []

within_at : (l : ℕ) (rs : List Listed) (i : ℕ) (d : Listed) → AllWithin l rs → i < length rs → Within l (get_or rs i d)
within_at l [] i d w h = absurd (omega arith)
within_at l (r ∷ rs) zero d w h = w.0
within_at l (r ∷ rs) (suc i) d w h = within_at l rs i d w.1 (le_of_suc-le-suc h)

-- The record at an index below the number of sectors, where xs are the records that List has filled, gives the row there.
pub row_at : (t m : List ℕ) (xs : List Sector) (old : List Listed) (z : Sector) (i : ℕ) → as_records xs ≡ filled (list most_sectors t m) old
    → i < length (records_of (list most_sectors t m)) → low_bits (get_or xs i z) ≡ get_or (rows_of (list most_sectors t m)) i (row_of (as_listed z))
unfolding filled
row_at t m xs old z i e h = go (list most_sectors t m) refl e h
  where
    go : (j : Judged (List Listed)) → list most_sectors t m ≡ j → as_records xs ≡ records_of j ++ drop (length (records_of j)) old → i < length (records_of j)
        → low_bits (get_or xs i z) ≡ get_or (rows_of j) i (row_of (as_listed z))
    go (refused b) f q l = absurd (omega arith)
    go (good rs) f q l =
        let w = records_within most_sectors t m rs f in
        let same : get_or rs i (as_listed z) ≡ as_listed (get_or xs i z) =
        sym (get_or-append rs (drop (length rs) old) (as_listed z) i l) ∙ ap (λ (ys : List Listed). get_or ys i (as_listed z)) (sym q) ∙ get_or-map as_listed xs i z in
        low_row (get_or xs i z) (length t) w.0 (subst (Within (length t)) same (within_at (length t) rs i (as_listed z) w.1 l))
        ∙ ap row_of (sym same) ∙ sym (get_or-map row_of rs i (as_listed z))

-- A list of fewer than 67 rows stays as it is, and none is counted.
pub short_rows : (n : ℕ) (t m : List ℕ) (old : List (List ℕ)) → n < most_sectors
    → (lent_wrong ≡ answer_of (list n t m)) × (◌≡◌ {A = ℕ} 0 (length (records_of (list n t m)))) × (old ≡ filled_rows (list n t m) old)
unfolding filled_rows
short_rows n t m old l = rw (list_short n t m l) (refl, refl, refl)

-- There are as many rows as records.
pub length_rows : (t m : List ℕ) → length (rows_of (list most_sectors t m)) ≡ length (records_of (list most_sectors t m))
length_rows t m = length-map (records_of (list most_sectors t m)) row_of

-- The rows of i records are filled, which are all of them.
pub full_rows : (n : ℕ) (t m : List ℕ) (old new : List (List ℕ)) (i : ℕ) → most_sectors ≤ n → i ≡ length (records_of (list most_sectors t m))
    → new ≡ filled_to (rows_of (list most_sectors t m)) i old → new ≡ filled_rows (list n t m) old
unfolding filled_rows
full_rows n t m old new i l e f =
    filled_whole (rows_of (list most_sectors t m)) old new i (length_rows t m ∙ sym e) f
    ∙ ap (λ (j : Judged (List Listed)). rows_of j ++ drop (length (rows_of j)) old) (list_long n t m l)

-- What is told of a list of 67 rows and filled by it is so of a longer one.
pub record Told (n : ℕ) (t m : List ℕ) (r : Result ℕ Refusal) (old new : List (List ℕ)) : Type 0 where
  pub answer : as_answer r ≡ answer_of (list n t m)
  pub count : given r ≡ length (records_of (list n t m))
  pub rows : new ≡ filled_rows (list n t m) old

pub told : (n : ℕ) (t m : List ℕ) (r : Result ℕ Refusal) (old new : List (List ℕ)) → most_sectors ≤ n → as_answer r ≡ answer_of (list most_sectors t m)
    → given r ≡ length (records_of (list most_sectors t m)) → new ≡ filled_to (rows_of (list most_sectors t m)) (given r) old → Told n t m r old new
told n t m r old new l a c f =
    record {
      answer = a ∙ ap answer_of (list_long n t m l);
      count = c ∙ ap (λ (j : Judged (List Listed)). length (records_of j)) (list_long n t m l);
      rows = full_rows n t m old new (given r) l c f;
    }
