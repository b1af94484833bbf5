-- What the laws say of spans and of sectors: spans as cutting gives them, spans without stray marks, sectors that are valid in a position.
use mathlib.Core.Path.{◌≡◌}
use Prim.Native.Nat.{ℕ, zero, suc, ◌≤◌}
use mathlib.Core.Bool.{true}
use mathlib.Core.List.{List, [], ◌∷◌}
use lib.ListN.{length}
use Rattle.format.specs.Lent.{unmarked}
use Rattle.format.specs.Opening.{opens}
use Rattle.format.specs.Flag.{count_flag_right}
use Rattle.format.specs.Home.{Home}
use Rattle.format.specs.Count.{Settled, count_address_right}
use Rattle.format.specs.Span.{later_spans}
use Rattle.format.specs.Sector.{Sector, is_first, settle}
use Rattle.format.specs.Written.{count_info}

-- Spans as cutting gives them: the one in position 0 has no marked opening, each later one starts with its only one.
abbrev pub Shape : ℕ → List (List ℕ) → Type 0
Shape i [] = Unit {0}
Shape zero (g ∷ gs) = (later_spans g ≡ []) × Shape 1 gs
Shape (suc i) (g ∷ gs) = ((opens g ≡ true) × (later_spans g ≡ g ∷ [])) × Shape (suc (suc i)) gs

-- The first span has at least n cells, where another follows it.
abbrev pub FirstReaches : ℕ → List (List ℕ) → Type 0
FirstReaches n [] = Unit {0}
FirstReaches n (g ∷ []) = Unit {0}
FirstReaches n (g ∷ k ∷ gs) = n ≤ length g

-- The sector s keeps the rules of position i behind the home h, where x is settled.
pub record Valid (h : Home) (i : ℕ) (x : Settled) (s : Sector) : Type 0 where
  pub position : s.first ≡ is_first i
  pub flag_right : count_flag_right h.flag i s.flag ≡ true
  pub address_right_holds : count_address_right h x s.address ≡ true
  pub count_bytes_holds : unmarked (count_info s) ≡ true
  pub key_bytes_holds : unmarked s.key_bytes ≡ true
  pub data_bytes_holds : unmarked s.data_bytes ≡ true

-- The sectors keep the rules from position i on.
abbrev pub AllValid : Home → ℕ → Settled → List Sector → Type 0
AllValid h i x [] = Unit {0}
AllValid h i x (s ∷ ss) = Valid h i x s × AllValid h (suc i) (settle x s) ss
