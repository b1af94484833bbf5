-- Sectors in first-written form, as spans: they fill what they are given, have the shape of spans, carry no stray mark and read back.
use mathlib.Core.Path.{◌≡◌, refl}
use Prim.Native.Nat.{ℕ, zero, suc, ◌+◌, ◌-◌, ◌≤◌}
use native.Mathlib.Omega.{arith}
use mathlib.Core.Bool.{true, false}
use mathlib.Core.List.{List, [], ◌∷◌, ◌++◌}
use lib.ListN.{length, replicate, length-append, length-replicate}
use Rattle.base.specs.Pick.{pick}
use Rattle.format.specs.Home.{Home}
use Rattle.format.specs.Count.{Settled}
use Rattle.format.specs.Block.{least_gap}
use Rattle.format.specs.Span.{joined, none, clean_spans}
use Rattle.format.specs.Sector.{Sector, settle}
use Rattle.format.specs.Written.{written_sector, sector_size, gap_after, reach, written_spans}
use Rattle.format.proofs.Spans.Shape.{Shape, FirstReaches, AllValid}
use Rattle.format.proofs.Sector.ReadBack.{length_written, read_written, written_first, written_later, written_clean}
use Rattle.format.proofs.Sector.ReadsAs.{Reads}

-- A written sector has room for its count.
pub written_reaches : (s : Sector) → 18 ≤ length (written_sector s)
unfolding sector_size
written_reaches s = omega (arith, length_written s)

-- The length of a span is that of its sector and of what follows it.
pub length_written_span : (s : Sector) (m : ℕ) → length (written_sector s ++ replicate m 0xFF) ≡ length (written_sector s) + m
length_written_span s m = omega (arith, length-append (written_sector s) (replicate m 0xFF), length-replicate {A = ℕ} m 0xFF)

module _ (gap : ℕ → ℕ → ℕ) where
  -- Written spans fill the cells that they are given, where the last block lies in them.
  pub length_written_spans : (n : ℕ) (s : Sector) (ss : List Sector) → reach gap (s ∷ ss) ≤ n → length (joined (written_spans gap n (s ∷ ss))) ≡ n
  unfolding reach written_spans
  length_written_spans n s [] h =
      let w : List ℕ = written_sector s ++ replicate (n - length (written_sector s)) 0xFF in
      omega (arith, length-append w [], length_written_span s (n - length (written_sector s)))
  length_written_spans n s (r ∷ ss) h =
      let g : ℕ = gap_after gap s in
      let m : ℕ = n - (length (written_sector s) + g) in
      let rest : List ℕ = joined (written_spans gap m (r ∷ ss)) in
      let ih : length rest ≡ m = length_written_spans m r ss (omega arith) in
      omega (arith, length-append (written_sector s ++ replicate g 0xFF) rest, length_written_span s g, ih)

  -- Written spans have the shape of spans.
  pub shape_written_spans : (h : Home) (i : ℕ) (x : Settled) (n : ℕ) (ss : List Sector) → AllValid h i x ss → Shape i (written_spans gap n ss)
  unfolding written_spans
  shape_written_spans h i x n [] v = tt
  shape_written_spans h zero x n (s ∷ ss) v =
      let m : ℕ = pick (none ss) (n - length (written_sector s)) (gap_after gap s) in
      (written_first h x s m v.0, shape_written_spans h 1 (settle x s) _ ss v.1)
  shape_written_spans h (suc i) x n (s ∷ ss) v =
      let m : ℕ = pick (none ss) (n - length (written_sector s)) (gap_after gap s) in
      (written_later h i x s m v.0, shape_written_spans h (suc (suc i)) (settle x s) _ ss v.1)

  -- Written spans carry no stray mark.
  pub clean_written_spans : (h : Home) (i : ℕ) (x : Settled) (n : ℕ) (ss : List Sector) → AllValid h i x ss → clean_spans i (written_spans gap n ss) ≡ true
  unfolding written_spans clean_spans
  clean_written_spans h i x n [] v = refl
  clean_written_spans h i x n (s ∷ ss) v =
      let m : ℕ = pick (none ss) (n - length (written_sector s)) (gap_after gap s) in
      let k : ℕ = n - (length (written_sector s) + gap_after gap s) in
      rw (written_clean h i x s m v.0, clean_written_spans h (suc i) (settle x s) k ss v.1)

  -- The first of them has room for a count.
  pub first_written_reaches : (n : ℕ) (ss : List Sector) → FirstReaches 18 (written_spans gap n ss)
  unfolding written_spans
  first_written_reaches n [] = tt
  first_written_reaches n (s ∷ []) = tt
  first_written_reaches n (s ∷ r ∷ ss) = omega (arith, length_written_span s (gap_after gap s), written_reaches s)

  module _ (least : (k d : ℕ) → 21 ≤ gap k d) where
    -- The gap after a sector is at least the least gap.
    pub gap_reaches : (s : Sector) → least_gap false ≤ gap_after gap s
    unfolding least_gap gap_after
    gap_reaches s = least (length s.key_bytes) (length s.data_bytes)

    -- Written spans read back as their sectors, where the last block ends no later than 13 cells before index.
    pub reads_written_spans : (h : Home) (i : ℕ) (x : Settled) (p n : ℕ) (ss : List Sector) → AllValid h i x ss → reach gap ss + 13 ≤ n
        → Reads h i x p (written_spans gap n ss) ss
    unfolding reach written_spans least_gap
    reads_written_spans h i x p n [] v l = tt
    reads_written_spans h i x p n (s ∷ []) v l = (read_written h i x p true s (n - length (written_sector s)) v.0 (omega arith), tt)
    reads_written_spans h i x p n (s ∷ r ∷ ss) v l =
        let g : List ℕ = written_sector s ++ replicate (gap_after gap s) 0xFF in
        let m : ℕ = n - (length (written_sector s) + gap_after gap s) in
        (read_written h i x p false s (gap_after gap s) v.0 (gap_reaches s), reads_written_spans h (suc i) (settle x s) (p + length g) m (r ∷ ss) v.1 (omega arith))
