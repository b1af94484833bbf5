-- Two corrections of a lent pair, in either order.
use mathlib.Core.Path.{◌≡◌, refl, sym, ap, ◌∙◌}
use Prim.Native.Nat.{ℕ}
use mathlib.Core.Bool.{true}
use mathlib.Core.List.{List}
use lib.ListN.{length}
use borrow.Author.Tests.{eq-eqb}
use Rattle.format.specs.Judged.{good}
use Rattle.format.specs.Lent.{length_right, lent_for_reading, cells, bytes_of, marks_of, both_lent}
use Rattle.format.specs.Accept.{Accepted, accept, accept_cells, sectors_of}
use Rattle.format.specs.GapRule.{GapRule, gap_by}
use Rattle.format.specs.Written.{Pair, as_pair}
use Rattle.format.specs.Correct.{correct}
use Rattle.format.specs.Together.{Correction, with_both, corrected, corrected_pair, together}
use Rattle.format.proofs.Correct.Replaced.{Bytes}
use Rattle.format.proofs.Track.Pairs.{cells_of, lent_pair, accept_pair, accepted_pair, lent_length, written_pair}
use Rattle.format.proofs.Correct.Orders.{correct_accepted, corrections_commute, together_sectors}

-- What two corrections x and y of the pair t, m give, of which p is the pair after x alone and q the pair after y alone:
-- whichever comes first, the other then gives what both give together on the cells of t and m, which is 15 or a pair;
-- such a pair is accepted with the home of t, m and with its sectors, of which the two have the new keys and data.
pub record SameInBothOrders (rule : GapRule) (t m : List ℕ) (a : Accepted) (x y : Correction) (p q : Pair) : Type 0 where
  pub second_after_first : corrected_pair rule p.track p.marks y ≡ as_pair (together (gap_by rule) (cells t m) x y a.sectors)
  pub first_after_second : corrected_pair rule q.track q.marks x ≡ as_pair (together (gap_by rule) (cells t m) x y a.sectors)
  pub reads_both : (r : Pair) → as_pair (together (gap_by rule) (cells t m) x y a.sectors) ≡ good r
      → (b : Accepted) × (accept r.track r.marks ≡ good b) × (b.home ≡ a.home) × (sectors_of b.sectors ≡ with_both x y (sectors_of a.sectors))

-- A correction of a pair that is lent within the rule is that of its cells.
pub lent_corrected : (rule : GapRule) (t m : List ℕ) (x : Correction) → lent_for_reading t m ≡ true → corrected_pair rule t m x ≡ as_pair (corrected rule (cells t m) x)
unfolding correct both_lent
lent_corrected rule t m x l = rw (l, eq-eqb (length t) (length t) refl)

module _ (rule : GapRule) where
  -- A correction of a pair that was itself written by a correction.
  corrected_again : (c : List ℕ) (a : Accepted) → length_right (length c) ≡ true → accept_cells c ≡ good a → (x y : Correction) → Bytes x
      → (c₁ : List ℕ) → corrected rule c x ≡ good c₁ → corrected_pair rule (bytes_of c₁) (marks_of c₁) y ≡ as_pair (corrected rule c₁ y)
  corrected_again c a l e x y b c₁ k =
      let n = correct_accepted rule c a e x b c₁ k in
      lent_corrected rule (bytes_of c₁) (marks_of c₁) y (lent_pair c₁ n.0 (ap length_right n.4 ∙ l) n.1)
      ∙ ap (λ (z : List ℕ). as_pair (corrected rule z y)) (cells_of c₁)

  -- Two corrections of sectors of different number by one and the same rule, each of which is done on an accepted pair, give in either order the same answer and the same pair.
  pub two_orders : (t m : List ℕ) (a : Accepted) → accept t m ≡ good a → (x y : Correction) → (x.number ≡ y.number → ⊥) → Bytes x → Bytes y
      → (p q : Pair) → corrected_pair rule t m x ≡ good p → corrected_pair rule t m y ≡ good q → SameInBothOrders rule t m a x y p q
  two_orders t m a e x y ne bx by p q k l =
      let c : List ℕ = cells t m in
      let g = accepted_pair t m a e in
      let n = lent_length t m g.0 in
      let long : length_right (length c) ≡ true = ap length_right n.0 ∙ n.1 in
      let i = written_pair (corrected rule c x) p (sym (lent_corrected rule t m x g.0) ∙ k) in
      let j = written_pair (corrected rule c y) q (sym (lent_corrected rule t m y g.0) ∙ l) in
      let both = corrections_commute rule c a g.1 x y ne bx by i.0 j.0 i.1 j.1 in
      record {
        second_after_first =
            ap (λ (z : Pair). corrected_pair rule z.track z.marks y) (sym i.2)
            ∙ corrected_again c a long g.1 x y bx i.0 i.1 ∙ ap as_pair both.0;
        first_after_second =
            ap (λ (z : Pair). corrected_pair rule z.track z.marks x) (sym j.2)
            ∙ corrected_again c a long g.1 y x by j.0 j.1 ∙ ap as_pair both.1;
        reads_both = λ r w.
            let u = written_pair (together (gap_by rule) c x y a.sectors) r w in
            let s = together_sectors rule c a g.1 x y ne bx by i.0 j.0 i.1 j.1 u.0 u.1 in (
              s.0,
              ap (λ (z : Pair). accept z.track z.marks) (sym u.2) ∙ accept_pair u.0 s.0 (ap length_right s.4 ∙ long) s.1,
              s.2,
              s.3,
            );
      }
