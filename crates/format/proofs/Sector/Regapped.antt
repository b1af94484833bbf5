-- A span with other bytes behind its block: how it reads, where its block ends, and that it keeps its shape.
use mathlib.Core.Path.{◌≡◌, sym, ap, ◌∙◌}
use Prim.Native.Nat.{ℕ, ◌+◌, ◌≤◌}
use native.Mathlib.Omega.{arith}
use mathlib.Core.Bool.{Bool, true}
use mathlib.Core.List.{List, [], ◌∷◌, ◌++◌, append_assoc}
use lib.ListN.{length, take, drop, length-append, length-drop, take-append-drop}
use lib.Seq.{length-take-le, take-add, drop-append-le}
use lib.Dec.{leb}
use Rattle.format.specs.Answer.{span_too_short}
use Rattle.format.specs.Judged.{good, require}
use Rattle.format.specs.Lent.{unmarked}
use Rattle.format.specs.Home.{Home}
use Rattle.format.specs.Count.{Settled}
use Rattle.format.specs.Block.{block_end, least_gap}
use Rattle.format.specs.Gap.{taken_from}
use Rattle.format.specs.Blocks.{blocks_at}
use Rattle.format.specs.Span.{clean_span}
use Rattle.format.specs.Sector.{Sector, opening_length, is_first, read_span}
use Rattle.format.specs.Accept.{end_of}
use Rattle.format.proofs.Cells.Opening.{unmarked_append, unmarked_take}
use Rattle.format.proofs.Spans.Shape.{Shape}
use Rattle.format.proofs.Spans.SpanAgrees.{clean_behind}
use Rattle.format.proofs.Sector.OtherRest.{with_rest, clean_with_rest, shape_with_rest}
use Rattle.format.proofs.Sector.BlockEnd.{end_taken}
use Rattle.format.proofs.Sector.ReadSector.{rest_of, read_inv, read_length}
use Rattle.format.proofs.Sector.ReadPrefix.{read_gap}

-- Where the block of the span g in position i ends, counted from the span's start.
unfoldable pub block_place : ℕ → List ℕ → ℕ
block_place i g = opening_length (is_first i) + block_end (rest_of i g)

-- The span up to there, and z behind it.
unfoldable pub regapped : ℕ → List ℕ → List ℕ → List ℕ
regapped i g z = take (block_place i g) g ++ z

-- How many of the bytes z its block takes.
abbrev pub taken_in : ℕ → List ℕ → List ℕ → ℕ
taken_in i g z = taken_from (rest_of i (take (block_place i g) g)) z

-- The block and the least gap lie in the span.
pub place_in : (i : ℕ) (g : List ℕ) (h : Home) (x : Settled) (p : ℕ) (last : Bool) (s : Sector) → read_span h i x p last g ≡ good s
    → block_place i g + least_gap last ≤ length g
unfolding block_place
place_in i g h x p last s e = (read_length h i x last g s (read_inv h i x p last g s e)).reaches

module _ (i : ℕ) (g z : List ℕ) where
  -- Its length.
  pub length_regapped : block_place i g ≤ length g → length (regapped i g z) ≡ block_place i g + length z
  unfolding regapped
  length_regapped l = omega (arith, length-append (take (block_place i g) g) z, length-take-le (block_place i g) g l)

  -- It reads as the same sector if the least gap is left behind what the block takes of z, else the answer is 9.
  pub read_regapped : (h : Home) (x : Settled) (p q : ℕ) (last final : Bool) (s : Sector) → read_span h i x p last g ≡ good s
      → read_span h i x q final (regapped i g z) ≡ require (leb (taken_in i g z + least_gap final) (length z)) (span_too_short q) (good s)
  unfolding regapped block_place
  read_regapped h x p q last final s e =
      let n : ℕ = block_place i g in
      let inside : n ≤ length g = omega (arith, place_in i g h x p last s e) in
      let whole : take n g ++ drop n g ≡ g = take-append-drop n g in
      let ends : opening_length (is_first i) + block_end (rest_of i (take n g ++ drop n g)) ≡ n = ap (λ (y : List ℕ). opening_length (is_first i) + block_end (rest_of i y)) whole in
      read_gap i (take n g) (drop n g) z h x p q last final s (rw whole e) (omega (arith, ends, length-take-le n g inside))

  -- Its block ends where it ended, and behind what it takes of z.
  pub place_regapped : block_place i g ≤ length g → block_place i (regapped i g z) ≡ block_place i g + taken_in i g z
  unfolding regapped block_place
  place_regapped l =
      let o : ℕ = opening_length (is_first i) in
      let n : ℕ = block_place i g in
      let xs : List ℕ = drop o (take n g) in
      let size : length (take n g) ≡ n = length-take-le n g l in
      let front : (y : List ℕ) → drop o (take n g ++ y) ≡ xs ++ y = λ y. drop-append-le o (take n g) y (omega arith) in
      let whole : xs ++ drop n g ≡ drop o g = sym (front (drop n g)) ∙ ap (drop o) (take-append-drop n g) in
      let ends : block_end (xs ++ drop n g) ≡ length xs = omega (arith, ap block_end whole, length-drop o (take n g)) in
      omega (arith, ap block_end (front z), end_taken xs (drop n g) z ends, length-drop o (take n g))

-- It is the span with other bytes behind its opening: those up to the block's end, and z.
regapped_is : (i : ℕ) (g z : List ℕ) → regapped i g z ≡ with_rest i g (take (block_end (rest_of i g)) (rest_of i g) ++ z)
unfolding regapped block_place with_rest
regapped_is i g z =
    let o : ℕ = opening_length (is_first i) in
    let b : ℕ = block_end (rest_of i g) in
    ap (λ (y : List ℕ). y ++ z) (take-add o b g) ∙ append_assoc (take o g) (take b (rest_of i g)) z

-- These are unmarked, where z is.
rest_unmarked : (i : ℕ) (g z : List ℕ) → clean_span i g ≡ true → unmarked z ≡ true → unmarked (take (block_end (rest_of i g)) (rest_of i g) ++ z) ≡ true
rest_unmarked i g z c u =
    let b : ℕ = block_end (rest_of i g) in
    unmarked_append (take b (rest_of i g)) z (unmarked_take b (rest_of i g) (clean_behind i g c)) u

-- A span without stray marks stays without, where z has no mark.
pub clean_regapped : (i : ℕ) (g z : List ℕ) → Shape i (g ∷ []) → clean_span i g ≡ true → unmarked z ≡ true → clean_span i (regapped i g z) ≡ true
clean_regapped i g z v c u = ap (clean_span i) (regapped_is i g z) ∙ clean_with_rest i g (take (block_end (rest_of i g)) (rest_of i g) ++ z) v c (rest_unmarked i g z c u)

-- It keeps the shape of a span in its position.
pub shape_regapped : (i : ℕ) (g z : List ℕ) → Shape i (g ∷ []) → clean_span i g ≡ true → unmarked z ≡ true → Shape i (regapped i g z ∷ [])
shape_regapped i g z v c u = rw (regapped_is i g z) (shape_with_rest i g (take (block_end (rest_of i g)) (rest_of i g) ++ z) v c (rest_unmarked i g z c u))

-- Where the block of such a sector ends, if its span stands at place p.
pub end_placed : (i p : ℕ) (g : List ℕ) (s : Sector) → s.first ≡ is_first i → end_of (record { place = p; span = g; sector = s }) ≡ p + block_place i g
unfolding end_of blocks_at block_place
end_placed i p g s f = ap (λ (b : Bool). p + opening_length b + block_end (drop (opening_length b) g)) f ∙ omega arith
