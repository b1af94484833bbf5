-- What is known of lengths that are lent within the rule.
use mathlib.Core.Path.{◌≡◌}
use Prim.Native.Nat.{ℕ, ◌≤◌}
use mathlib.Core.Bool.{true}
use lib.Dec.{leb, eqb}
use borrow.Author.Tests.{leb-true}
use Rattle.format.specs.Lent.{length_right, lent_for_writing}
use Rattle.base.proofs.Tests.{and_both}

-- No track is longer than 4,002 bytes.
pub lent_most : (l k : ℕ) → lent_for_writing l k ≡ true → l ≤ 4002
unfolding lent_for_writing length_right
lent_most l k e = leb-true l 4002 (and_both (leb 3815 l) (leb l 4002) (and_both (length_right l) (eqb k l) e).0).1
