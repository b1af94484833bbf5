-- Which patterns are legal: those that a recordable byte is written with, and no others.
use mathlib.Core.Path.{◌≡◌, sym, ◌∙◌}
use Prim.Native.Nat.{ℕ, ◌<◌}
use native.Mathlib.Omega.{arith}
use mathlib.Core.Bool.{true}
use lib.Dec.{eqb}
use borrow.Author.Tests.{eqb-true, eqb-false}
use Rattle.crc.specs.Division.{value}
use Rattle.base.proofs.Tests.{cases, and_both}
use Rattle.pattern.specs.Pattern.{first_cells, second_cells, all_clocks, clocks_for, recordable, clocks_in, data_in, legal_pattern, mark_in}
use Rattle.pattern.proofs.Inverse.{clocks_written, data_written}

-- The clocks that a mark asks for are a byte.
clocks_byte : (mark : ℕ) → clocks_for mark < 256
unfolding clocks_for value
clocks_byte mark = cases (eqb mark 0) (λ e. rw e (omega arith)) (λ e. rw e (omega arith))

module _ (b mark : ℕ) (h : b < 256) where
  abbrev x : ℕ
  x = first_cells (clocks_for mark) b

  abbrev y : ℕ
  y = second_cells (clocks_for mark) b

  clocks_are : clocks_in x y ≡ clocks_for mark
  clocks_are = clocks_written (clocks_for mark) b (clocks_byte mark)

  -- The bit cells of a byte that can be recorded are a legal pattern,
  pub legal_written : recordable b mark ≡ true → legal_pattern (first_cells (clocks_for mark) b) (second_cells (clocks_for mark) b) ≡ true
  unfolding legal_pattern recordable clocks_for value
  legal_written r =
      cases (eqb mark 0)
      (λ e. let c : clocks_in x y ≡ 255 = clocks_are ∙ rw e in rw c)
      (λ e.
      let c : clocks_in x y ≡ 7 = clocks_are ∙ rw e in
      let f : data_in x y ≡ 255 = data_written (clocks_for mark) b h ∙ eqb-true b 255 (rw e at r) in
      rw (c, f))

  -- and stand for its mark.
  pub mark_written : mark < 2 → mark_in (first_cells (clocks_for mark) b) (second_cells (clocks_for mark) b) ≡ mark
  unfolding mark_in clocks_for value
  mark_written l =
      cases (eqb mark 0)
      (λ e. let c : clocks_in x y ≡ 255 = clocks_are ∙ rw e in rw c (sym (eqb-true mark 0 e)))
      (λ e. let c : clocks_in x y ≡ 7 = clocks_are ∙ rw e in let n = eqb-false mark 0 e in rw c (omega arith))

module _ (x y : ℕ) (l : legal_pattern x y ≡ true) where
  -- The clocks of a legal pattern are those that its mark asks for,
  pub legal_clocks : clocks_for (mark_in x y) ≡ clocks_in x y
  unfolding legal_pattern clocks_for mark_in value
  legal_clocks =
      cases (eqb (clocks_in x y) 255)
      (λ e. rw e (sym (eqb-true (clocks_in x y) 255 e)))
      (λ e. let a = and_both (eqb (clocks_in x y) 7) (eqb (data_in x y) 255) (rw e at l) in rw e (sym (eqb-true (clocks_in x y) 7 a.0)))

  -- and where it is marked its byte is FF.
  pub legal_marked : mark_in x y ≡ 1 → data_in x y ≡ 0xFF
  unfolding legal_pattern mark_in value
  legal_marked m =
      cases (eqb (clocks_in x y) 255)
      (λ e. absurd (let z : ◌≡◌ {A = ℕ} 0 1 = rw e at m in omega arith))
      (λ e. let a = and_both (eqb (clocks_in x y) 7) (eqb (data_in x y) 255) (rw e at l) in eqb-true (data_in x y) 255 a.1)

-- A mark that is read is 0 or 1.
pub mark_legal : (x y : ℕ) → mark_in x y < 2
unfolding mark_in
mark_legal x y = cases (eqb (clocks_in x y) all_clocks) (λ e. rw e (omega arith)) (λ e. rw e (omega arith))
