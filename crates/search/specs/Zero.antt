-- Zeros that bytes start with, and eight bytes as one number.
use Rattle.std.specs.Prelude.{ℕ, zero, suc, ◌+◌, ◌*◌, ◌/◌, List, [], ◌∷◌, eqb, get_or}
use Rattle.std.specs.Int.Count.{count_trailing_zeros}
use Rattle.base.specs.Pick.{pick}

-- How many zeros the bytes start with.
unfoldable pub zero_run : List ℕ → ℕ
zero_run [] = 0
zero_run (b ∷ bs) = let n = zero_run bs in pick (eqb b 0) (suc n) 0

-- The n bytes of s from place i on as one number, the first one lowest.
unfoldable pub word_at : ℕ → List ℕ → ℕ → ℕ
word_at zero s i = 0
word_at (suc n) s i = get_or s i 0 + 256 * word_at n s (suc i)

-- How many zeros the eight bytes of a word start with.
abbrev pub word_zeros : ℕ → ℕ
word_zeros w = count_trailing_zeros 64 w / 8

-- How many zeros the bytes of four words start with, where not all are zero.
abbrev pub step_zeros : ℕ → ℕ → ℕ → ℕ → ℕ
step_zeros a b c d = pick (eqb a 0) (8 + pick (eqb b 0) (8 + pick (eqb c 0) (8 + word_zeros d) (word_zeros c)) (word_zeros b)) (word_zeros a)
