-- When something fits in both lent parts.
use mathlib.Core.Path.{◌≡◌}
use Prim.Native.Nat.{ℕ, ◌≤◌, ◌<◌}
use mathlib.Core.Bool.{true, false}
use lib.Dec.{leb}
use borrow.Author.Tests.{le-leb, lt-leb}
use Rattle.base.proofs.Tests.{and_right}
use Rattle.encode.specs.Room.{both_fit, gap_fits}

-- It fits where both parts are long enough.
pub both_fit_lem : (n l k : ℕ) → n ≤ l → n ≤ k → both_fit n l k ≡ true
both_fit_lem n l k g h = rw (le-leb n l g, le-leb n k h)

-- It does not where the first part is too short.
pub first_short : (n l k : ℕ) → l < n → both_fit n l k ≡ false
first_short n l k h = rw (lt-leb n l h)

-- It does not where the second part is too short.
pub second_short : (n l k : ℕ) → k < n → both_fit n l k ≡ false
second_short n l k h = and_right (leb n l) (lt-leb n k h)

-- A gap fits where its end is not before its start and both parts reach to its end.
pub gap_fits_lem : (from to l k : ℕ) → from ≤ to → to ≤ l → to ≤ k → gap_fits from to l k ≡ true
gap_fits_lem from to l k e g h = rw (le-leb from to e) (both_fit_lem to l k g h)
