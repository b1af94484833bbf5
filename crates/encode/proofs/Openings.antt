-- The opening of a count by whether it is sector 0's: its length, its bytes, and its marks with those behind it.
use mathlib.Core.Path.{◌≡◌, refl, ap, ◌∙◌}
use Prim.Native.Nat.{ℕ, ◌+◌, ◌-◌, ◌≤◌}
use native.Mathlib.Omega.{arith}
use mathlib.Core.Bool.{Bool, true, false}
use mathlib.Core.List.{[], ◌∷◌, ◌++◌}
use lib.ListN.{length, replicate, replicate-append-replicate}
use Rattle.format.specs.Lent.{bytes_of, marks_of}
use Rattle.format.specs.Opening.{plain_opening}
use Rattle.format.specs.Sector.{opening_length}
use Rattle.format.specs.Written.{count_opening}

-- Sector 0's count opens with six bytes.
pub opening_first : (b : Bool) → b ≡ true → opening_length b ≡ 6
opening_first b e = ap opening_length e

-- A later count opens with eight.
pub opening_later : (b : Bool) → b ≡ false → opening_length b ≡ 8
opening_later b e = ap opening_length e

-- The opening's bytes are as many as its length.
pub length_opening : (b : Bool) → length (bytes_of (count_opening b)) ≡ opening_length b
unfolding bytes_of count_opening
length_opening true = refl
length_opening false = refl

-- Sector 0's count opens unmarked.
pub bytes_first : (b : Bool) → b ≡ true → bytes_of (count_opening b) ≡ plain_opening
unfolding bytes_of count_opening
bytes_first b e = ap (λ (f : Bool). bytes_of (count_opening f)) e

-- A later count opens with three FF.
pub bytes_later : (b : Bool) → b ≡ false → bytes_of (count_opening b) ≡ 0x00 ∷ 0x00 ∷ 0x00 ∷ 0x00 ∷ 0xFF ∷ 0xFF ∷ 0xFF ∷ 0x0E ∷ []
unfolding bytes_of count_opening
bytes_later b e = ap (λ (f : Bool). bytes_of (count_opening f)) e

-- No mark of sector 0 is set.
pub marks_first : (b : Bool) (n : ℕ) → b ≡ true → 6 ≤ n → marks_of (count_opening b) ++ replicate (n - opening_length b) 0 ≡ replicate n 0
unfolding marks_of count_opening
marks_first b n e h =
    let z : 6 + (n - 6) ≡ n = omega arith in
    ap (λ (f : Bool). marks_of (count_opening f) ++ replicate (n - opening_length f) 0) e
    ∙ replicate-append-replicate 6 (n - 6) 0
    ∙ ap (λ (k : ℕ). replicate k 0) z

-- The second and the third FF of a later count's opening are marked.
pub marks_later : (b : Bool) (n : ℕ) → b ≡ false
    → marks_of (count_opening b) ++ replicate (n - opening_length b) 0 ≡ (0 ∷ 0 ∷ 0 ∷ 0 ∷ 0 ∷ 1 ∷ 1 ∷ 0 ∷ []) ++ replicate (n - 8) 0
unfolding marks_of count_opening
marks_later b n e = ap (λ (f : Bool). marks_of (count_opening f) ++ replicate (n - opening_length f) 0) e
