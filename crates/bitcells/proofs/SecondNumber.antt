-- From cells and To cells look at no block: they never answer 10 or 11, and their second number is 0.
use mathlib.Core.Path.{refl}
use Prim.Native.Nat.{ℕ}
use mathlib.Core.Bool.{Bool}
use mathlib.Core.List.{List, [], ◌∷◌}
use Rattle.format.specs.Judged.{answer_of}
use Rattle.format.specs.BlockFault.{SecondNone}
use Rattle.format.proofs.Faults.OtherAnswers.{then_right, pick_right}
use Rattle.bitcells.specs.Each.{judge_each}
use Rattle.bitcells.specs.FromCells.{from_cells}
use Rattle.bitcells.specs.ToCells.{to_cells}

-- The search for the first place at which a test fails.
each_second : (bs : List Bool) (p : ℕ) → SecondNone (answer_of (judge_each p bs))
unfolding judge_each
each_second [] p = (refl, refl)
each_second (b ∷ bs) p = search (pick_right SecondNone, each_second bs)

-- From cells.
pub from_second : (x : List ℕ) (l k : ℕ) → SecondNone (answer_of (from_cells x l k))
unfolding from_cells
from_second x l k = search (pick_right SecondNone, then_right SecondNone, each_second)

-- To cells.
pub to_second : (t m : List ℕ) (n : ℕ) → SecondNone (answer_of (to_cells t m n))
unfolding to_cells
to_second t m n = search (pick_right SecondNone, then_right SecondNone, each_second)
