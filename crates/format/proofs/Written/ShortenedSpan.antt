-- A span that is cut at the end of its block and gets a new gap of FF reads as before, and keeps its shape.
use mathlib.Core.Path.{◌≡◌, ◌∙◌}
use Prim.Native.Nat.{ℕ, ◌+◌, ◌≤◌}
use native.Mathlib.Omega.{arith}
use mathlib.Core.Bool.{Bool, true, false}
use mathlib.Core.List.{List, [], ◌∷◌}
use lib.ListN.{length, take, replicate, length-replicate}
use lib.Dec.{leb, lit<}
use borrow.Author.Tests.{le-leb}
use Rattle.format.specs.Judged.{good}
use Rattle.format.specs.Home.{Home}
use Rattle.format.specs.Count.{Settled}
use Rattle.format.specs.Block.{least_gap}
use Rattle.format.specs.Span.{clean_span}
use Rattle.format.specs.Sector.{Sector, read_span}
use Rattle.format.proofs.Cells.Opening.{unmarked_replicate}
use Rattle.format.proofs.Spans.Shape.{Shape}
use Rattle.format.proofs.Sector.BlockEnd.{filled_open, taken_other}
use Rattle.format.proofs.Sector.ReadSector.{rest_of}
use Rattle.format.proofs.Sector.Regapped.{block_place, regapped, taken_in, length_regapped, read_regapped, place_regapped, clean_regapped, shape_regapped}

module _ (i : ℕ) (g : List ℕ) (m : ℕ) where
  -- The span g in position i up to the end of its block, with m bytes of gap.
  abbrev pub shortened : List ℕ
  shortened = regapped i g (replicate m 0xFF)

  -- Its block takes none of them.
  taken_none : taken_in i g (replicate m 0xFF) ≡ 0
  taken_none = taken_other (rest_of i (take (block_place i g) g)) (replicate m 0xFF) (filled_open m)

  -- It has the gap that it is given.
  pub length_shortened : block_place i g ≤ length g → length shortened ≡ block_place i g + m
  length_shortened l = omega (arith, length_regapped i g (replicate m 0xFF) l, length-replicate {A = ℕ} m 0xFF)

  -- With a gap of at least 21 it reads as before, and does not run to index.
  pub read_shortened : (h : Home) (x : Settled) (p : ℕ) (last : Bool) (s : Sector) → read_span h i x p last g ≡ good s → 21 ≤ m
      → read_span h i x p false shortened ≡ good s
  unfolding least_gap
  read_shortened h x p last s e l =
      let room : leb 21 (length {A = ℕ} (replicate m 0xFF)) ≡ true = rw (length-replicate {A = ℕ} m 0xFF) (le-leb 21 m l) in
      read_regapped i g (replicate m 0xFF) h x p p last false s e ∙ rw (taken_none, room)

  -- Its block ends where it ended.
  pub place_shortened : block_place i g ≤ length g → block_place i shortened ≡ block_place i g
  place_shortened l = omega (arith, place_regapped i g (replicate m 0xFF) l, taken_none)

  -- Without stray marks it stays without.
  pub clean_shortened : Shape i (g ∷ []) → clean_span i g ≡ true → clean_span i shortened ≡ true
  clean_shortened v c = clean_regapped i g (replicate m 0xFF) v c (unmarked_replicate m 0xFF (lit< tt))

  -- It keeps the shape of a span in its position.
  pub shape_shortened : Shape i (g ∷ []) → clean_span i g ≡ true → Shape i (shortened ∷ [])
  shape_shortened v c = shape_regapped i g (replicate m 0xFF) v c (unmarked_replicate m 0xFF (lit< tt))
