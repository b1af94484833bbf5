-- The bit cells of a track: two cell bytes for each of its bytes.
use Rattle.std.specs.Prelude.{ℕ, suc, Bool, List, [], ◌∷◌}
use Rattle.format.specs.Answer.{pattern_wrong}
use Rattle.format.specs.Judged.{Judged, good, require}

-- What f gives for the two cell bytes of each track byte.
unfoldable pub each_pattern : {A : Type 0} → (ℕ → ℕ → A) → List ℕ → List A
each_pattern f [] = []
each_pattern f (x ∷ []) = []
each_pattern f (x ∷ y ∷ xs) = f x y ∷ each_pattern f xs

-- What f gives for each track byte and its mark.
unfoldable pub each_byte : {A : Type 0} → (ℕ → ℕ → A) → List ℕ → List ℕ → List A
each_byte f [] m = []
each_byte f (b ∷ t) [] = []
each_byte f (b ∷ t) (k ∷ m) = f b k ∷ each_byte f t m

-- Answer 17: the first place, counted from p, at which the test fails.
unfoldable pub judge_each : ℕ → List Bool → Judged (Unit {0})
judge_each p [] = good tt
judge_each p (b ∷ bs) = require b (pattern_wrong p) (judge_each (suc p) bs)
