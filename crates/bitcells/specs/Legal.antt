-- The cell strings and the tracks that the two calls turn into each other.
use Rattle.std.specs.Prelude.{◌≡◌, ℕ, ◌+◌, ◌*◌, ◌<◌, true, false, List, length, get_or}
use Rattle.pattern.specs.Pattern.{legal_pattern}

-- A legal cell string: the two cell bytes of every track byte are a legal pattern.
abbrev pub LegalCells : List ℕ → Type 0
LegalCells x = (i : ℕ) → 2 * i + 1 < length x → legal_pattern (get_or x (2 * i) 0) (get_or x (2 * i + 1) 0) ≡ true

-- Every marked byte of the track t with the marks m is FF.
abbrev pub MarkedFF : List ℕ → List ℕ → Type 0
MarkedFF t m = (i : ℕ) → i < length t → get_or m i 0 ≡ 1 → get_or t i 0 ≡ 0xFF

-- Of l track bytes, the one at p is the first whose two cell bytes are no legal pattern.
pub record FirstIllegal (x : List ℕ) (l p : ℕ) : Type 0 where
  pub inside : p < l
  pub illegal : legal_pattern (get_or x (2 * p) 0) (get_or x (2 * p + 1) 0) ≡ false
  pub earlier : (i : ℕ) → i < p → legal_pattern (get_or x (2 * i) 0) (get_or x (2 * i + 1) 0) ≡ true

-- The byte at p is the first marked one that is not FF.
pub record FirstOther (t m : List ℕ) (p : ℕ) : Type 0 where
  pub inside : p < length t
  pub marked : get_or m p 0 ≡ 1
  pub other : get_or t p 0 ≡ 0xFF → ⊥
  pub earlier : (i : ℕ) → i < p → get_or m i 0 ≡ 1 → get_or t i 0 ≡ 0xFF
