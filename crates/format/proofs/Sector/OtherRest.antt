-- A span with other bytes behind its count's opening keeps its shape.
use mathlib.Core.Path.{◌≡◌, refl, ap, ◌∙◌}
use Prim.Native.Nat.{ℕ, zero, suc, ◌+◌, ◌≤◌}
use native.Mathlib.Omega.{arith}
use mathlib.Core.Bool.{true}
use mathlib.Core.List.{List, [], ◌∷◌, ◌++◌}
use lib.ListN.{length, take, drop, length-append, take-append-drop}
use lib.Seq.{length-take-le, take_at, drop_at}
use Rattle.format.specs.Lent.{unmarked}
use Rattle.format.specs.Opening.{starts_with, plain_opening, opens, marked_opening}
use Rattle.format.specs.Span.{clean_span}
use Rattle.format.specs.Sector.{opening_length, is_first}
use Rattle.format.proofs.Cells.Opening.{unmarked_append, unmarked_take, opens_front}
use Rattle.format.proofs.Cells.Local.{starts_local}
use Rattle.format.proofs.Spans.Shape.{Shape}
use Rattle.format.proofs.Spans.Cutting.{later_unmarked, later_opening}

-- The opening of the span g in position i, and z behind it.
unfoldable pub with_rest : ℕ → List ℕ → List ℕ → List ℕ
with_rest i g z = take (opening_length (is_first i)) g ++ z

-- Its length.
pub length_with_rest : (i : ℕ) (g z : List ℕ) → opening_length (is_first i) ≤ length g → length (with_rest i g z) ≡ opening_length (is_first i) + length z
unfolding with_rest
length_with_rest i g z l = omega (arith, length-append (take (opening_length (is_first i)) g) z, length-take-le (opening_length (is_first i)) g l)

-- In a later position it is the marked opening, and z behind it.
later_with_rest : (i : ℕ) (g z : List ℕ) → opens g ≡ true → with_rest (suc i) g z ≡ marked_opening ++ z
unfolding with_rest
later_with_rest i g z o = ap (λ (y : List ℕ). y ++ z) (ap (take 8) (opens_front g o) ∙ take_at marked_opening (drop 8 g) 8 refl)

-- A span without stray marks stays without, where z has no mark.
pub clean_with_rest : (i : ℕ) (g z : List ℕ) → Shape i (g ∷ []) → clean_span i g ≡ true → unmarked z ≡ true → clean_span i (with_rest i g z) ≡ true
unfolding clean_span
clean_with_rest zero g z v c u = unfold with_rest in unmarked_append (take 6 g) z (unmarked_take 6 g c) u
clean_with_rest (suc i) g z v c u = ap (λ (y : List ℕ). unmarked (drop 8 y)) (later_with_rest i g z v.0.0) ∙ u

-- It keeps the shape of a span in its position.
pub shape_with_rest : (i : ℕ) (g z : List ℕ) → Shape i (g ∷ []) → clean_span i g ≡ true → unmarked z ≡ true → Shape i (with_rest i g z ∷ [])
unfolding clean_span opens
shape_with_rest zero g z v c u = (later_unmarked (with_rest zero g z) (unfold with_rest in unmarked_append (take 6 g) z (unmarked_take 6 g c) u), tt)
shape_with_rest (suc i) g z v c u = rw (later_with_rest i g z v.0.0) ((refl, later_opening z u), tt)

-- What follows the opening in a span with other bytes there.
pub rest_with_rest : (i : ℕ) (g z : List ℕ) → opening_length (is_first i) ≤ length g → drop (opening_length (is_first i)) (with_rest i g z) ≡ z
unfolding with_rest
rest_with_rest i g z l = drop_at (take (opening_length (is_first i)) g) z (opening_length (is_first i)) (length-take-le (opening_length (is_first i)) g l)

-- Sector 0's count opens as before.
pub opened_with_rest : (i : ℕ) (g z : List ℕ) → opening_length (is_first i) ≤ length g → (i ≡ 0 → starts_with plain_opening g ≡ true) → i ≡ 0 → starts_with plain_opening (with_rest i g z) ≡ true
unfolding with_rest
opened_with_rest i g z l o e =
    let six : length (take 6 g) ≡ 6 = length-take-le 6 g (rw e at l) in
    rw e (starts_local (take 6 g) (drop 6 g) z plain_opening 0 (omega arith) ∙ ap (starts_with plain_opening) (take-append-drop 6 g) ∙ o e)
