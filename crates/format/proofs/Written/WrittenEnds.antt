-- On a track that is written, blocks end as they are written, with seven bytes where DL = 0, and the gaps behind them are the rule's.
use mathlib.Core.Path.{◌≡◌, refl, ap, ap₂, ◌∙◌}
use Prim.Native.Nat.{ℕ, ◌+◌, ◌-◌, ◌≤◌}
use native.Mathlib.Omega.{arith}
use mathlib.Core.List.{List, [], ◌∷◌, ◌++◌, map}
use lib.ListN.{length, replicate, length-append, length-replicate}
use Rattle.base.specs.Pick.{pick}
use Rattle.format.specs.Blocks.{blocks_at}
use Rattle.format.specs.Span.{none}
use Rattle.format.specs.Sector.{Sector}
use Rattle.format.specs.Accept.{Placed, placed_from, end_of}
use Rattle.format.specs.Listing.{listed}
use Rattle.format.specs.Pieces.{gaps_by}
use Rattle.format.specs.Written.{written_sector, sector_size, gap_after, reach, written_spans}
use Rattle.format.proofs.Sector.ReadBack.{length_written, written_end}

-- Where the block of the sector s ends if its count opens at p and it takes what is written for it.
abbrev pub end_written : ℕ → Sector → ℕ
end_written p s = p + sector_size s.first (length s.key_bytes) (length s.data_bytes)

-- The block of each of the placed sectors ends there.
abbrev pub EndsWritten : List Placed → Type 0
EndsWritten [] = Unit {0}
EndsWritten (x ∷ xs) = (end_of x ≡ end_written x.place x.sector) × EndsWritten xs

-- That of a written sector with FF behind it does.
pub end_as_written : (p : ℕ) (s : Sector) (m : ℕ) → end_of (record { place = p; span = written_sector s ++ replicate m 0xFF; sector = s }) ≡ end_written p s
unfolding end_of blocks_at
end_as_written p s m = omega (arith, written_end s m, length_written s)

-- Those of sectors in first-written form do.
pub spans_end_written : (gap : ℕ → ℕ → ℕ) (p n : ℕ) (ss : List Sector) → EndsWritten (placed_from p (written_spans gap n ss) ss)
unfolding placed_from written_spans
spans_end_written gap p n [] = tt
spans_end_written gap p n (s ∷ ss) =
    let m : ℕ = pick (none ss) (n - length (written_sector s)) (gap_after gap s) in
    (end_as_written p s m, spans_end_written gap (p + length (written_sector s ++ replicate m 0xFF)) (n - (length (written_sector s) + gap_after gap s)) ss)

-- The gaps behind placed sectors, as their records have them.
abbrev pub gaps_of : List Placed → List ℕ
gaps_of xs = map (λ x. (listed x).gap) xs

-- The gaps behind the placed sectors are the rule's, and the last one runs to index, on a track of l bytes.
abbrev pub GapsWritten : (ℕ → ℕ → ℕ) → ℕ → List Placed → Type 0
GapsWritten gap l xs = gaps_of xs ≡ gaps_by gap l (map listed xs)

-- A written sector with m bytes of FF behind it has a gap of m.
pub gap_as_written : (p : ℕ) (s : Sector) (m : ℕ) → (listed (record { place = p; span = written_sector s ++ replicate m 0xFF; sector = s })).gap ≡ m
unfolding listed
gap_as_written p s m =
    omega (arith, end_as_written p s m, length_written s, length-append (written_sector s) (replicate m 0xFF), length-replicate {A = ℕ} m 0xFF)

-- If it is the last one and this reaches index, that is the gap as it is written.
pub last_gap_written : (gap : ℕ → ℕ → ℕ) (p l m : ℕ) (s : Sector) → m ≡ l - (p + length (written_sector s))
    → GapsWritten gap l (record { place = p; span = written_sector s ++ replicate m 0xFF; sector = s } ∷ [])
unfolding gaps_by listed
last_gap_written gap p l m s e = ap (λ (j : ℕ). j ∷ []) (gap_as_written p s m ∙ omega (arith, end_as_written p s m, length_written s))

-- So the gaps of sectors in first-written form are the rule's, where they fill the track.
pub spans_gaps_written : (gap : ℕ → ℕ → ℕ) (p n l : ℕ) (ss : List Sector) → p + n ≡ l → reach gap ss ≤ n → GapsWritten gap l (placed_from p (written_spans gap n ss) ss)
unfolding placed_from written_spans gaps_by reach listed gap_after
spans_gaps_written gap p n l [] e r = refl
spans_gaps_written gap p n l (s ∷ []) e r =
    last_gap_written gap p l (n - length (written_sector s)) s (omega arith)
spans_gaps_written gap p n l (s ∷ t ∷ ss) e r =
    let m : ℕ = gap (length s.key_bytes) (length s.data_bytes) in
    let q : ℕ = p + length (written_sector s ++ replicate m 0xFF) in
    let size = length-append (written_sector s) (replicate m 0xFF) in
    let later = spans_gaps_written gap q (n - (length (written_sector s) + m)) l (t ∷ ss) (omega (arith, size, length-replicate {A = ℕ} m 0xFF)) (omega arith) in
    ap₂ {C = List ℕ} (λ j js. j ∷ js) (gap_as_written p s m) later
