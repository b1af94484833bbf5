-- What the two calls give, step by step as their code goes.
use mathlib.Core.Path.{◌≡◌, sym, ap, ◌∙◌}
use Prim.Native.Nat.{ℕ, ◌*◌}
use mathlib.Core.Bool.{true, false}
use mathlib.Core.List.{List}
use lib.ListN.{length}
use lib.Dec.{eqb}
use borrow.Author.Tests.{eqb-true}
use Rattle.format.specs.Answer.{Answer, done, lent_wrong}
use Rattle.format.specs.Judged.{Judged, good, refused, answer_of, value_or}
use Rattle.format.specs.Lent.{length_right, lent_for_writing, lent_for_reading}
use Rattle.base.proofs.Tests.{and_both}
use Rattle.pattern.specs.Pattern.{recordable, legal_pattern}
use Rattle.bitcells.specs.Each.{each_pattern, each_byte, judge_each}
use Rattle.bitcells.specs.FromCells.{lent_from, read_pair, from_cells}
use Rattle.bitcells.specs.ToCells.{lent_to, written_cells, to_cells}

module _ (x : List ℕ) (l k : ℕ) where
  -- From bit cells: 1,
  pub from_unlent : lent_from (length x) l k ≡ false → from_cells x l k ≡ refused lent_wrong
  unfolding from_cells
  from_unlent e = rw e

  module _ (e : lent_from (length x) l k ≡ true) where
    -- 17,
    pub from_fault : (a : Answer) → judge_each 0 (each_pattern legal_pattern x) ≡ refused a → from_cells x l k ≡ refused a
    unfolding from_cells
    from_fault a h = rw (e, h)

    -- and done.
    pub from_done : judge_each 0 (each_pattern legal_pattern x) ≡ good tt → from_cells x l k ≡ good (read_pair x)
    unfolding from_cells
    from_done h = rw (e, h)

    -- The lengths that are lent within the rule.
    pub from_lengths : (length x ≡ 2 * l) × (k ≡ l)
    unfolding lent_from lent_for_writing
    from_lengths =
        let a = and_both (lent_for_writing l k) (eqb (length x) (2 * l)) e in
        (eqb-true (length x) (2 * l) a.1, eqb-true k l (and_both (length_right l) (eqb k l) a.0).1)

module _ (t m : List ℕ) (n : ℕ) where
  -- To bit cells: 1,
  pub to_unlent : lent_to t m n ≡ false → to_cells t m n ≡ refused lent_wrong
  unfolding to_cells
  to_unlent e = rw e

  module _ (e : lent_to t m n ≡ true) where
    -- 17,
    pub to_fault : (a : Answer) → judge_each 0 (each_byte recordable t m) ≡ refused a → to_cells t m n ≡ refused a
    unfolding to_cells
    to_fault a h = rw (e, h)

    -- and done.
    pub to_done : judge_each 0 (each_byte recordable t m) ≡ good tt → to_cells t m n ≡ good (written_cells t m)
    unfolding to_cells
    to_done h = rw (e, h)

    -- What is lent within the rule.
    pub to_lent : (lent_for_reading t m ≡ true) × (n ≡ 2 * length t)
    unfolding lent_to
    to_lent = let a = and_both (lent_for_reading t m) (eqb n (2 * length t)) e in (a.0, eqb-true n (2 * length t) a.1)

-- A refusal leaves the cell bytes as they were,
pub cells_refused : (j : Judged (List ℕ)) (r a : Answer) (x : List ℕ) → j ≡ refused a → r ≡ a → (r ≡ answer_of j) × (x ≡ value_or x j)
cells_refused j r a x e q = (q ∙ ap answer_of (sym e), ap (value_or x) (sym e))

-- and a call that is done leaves the new ones.
pub cells_good : (j : Judged (List ℕ)) (r : Answer) (x y z : List ℕ) → j ≡ good y → r ≡ done → z ≡ y → (r ≡ answer_of j) × (z ≡ value_or x j)
cells_good j r x y z e q f = (q ∙ ap answer_of (sym e), f ∙ ap (value_or x) (sym e))
