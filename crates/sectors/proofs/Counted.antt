-- Counting the sectors of a track from place to place.
use mathlib.Core.Path.{◌≡◌, sym, ◌∙◌, subst}
use Prim.Native.Nat.{ℕ, ◌+◌, ◌≤◌, ◌<◌}
use native.Mathlib.Omega.{arith}
use mathlib.Core.List.{List, [], ◌∷◌}
use lib.ListN.{length}
use Rattle.format.specs.Lent.{cells}
use Rattle.format.specs.Accept.{Placed}
use Rattle.sectors.specs.declared.steps.Step.{Step as StepCode}
use Rattle.sectors.specs.SectorAt.{StepsOver}
use Rattle.sectors.specs.From.{SectorsFrom}
use Rattle.sectors.proofs.Rest.{onward}

-- n of all sectors are counted, and those from place p on are left.
pub record Left (t m : List ℕ) (p n : ℕ) (all : List Placed) : Type 0 where
  pub sectors : List Placed
  pub steps : SectorsFrom t m p sectors
  pub count_is : n + length sectors ≡ length all

-- The count has come to place p.
abbrev pub Counting : List ℕ → List ℕ → ℕ → ℕ → ℕ → Type 0
Counting t m start p n = (n ≤ p) × ((all : List Placed) → SectorsFrom t m start all → Left t m p n all)

-- At the start all are left.
pub count_start : (t m : List ℕ) (start : ℕ) → Counting t m start start 0
count_start t m start = (omega arith, λ all f. record { sectors = all; steps = f; count_is = omega arith })

module _ (t m : List ℕ) (start p n : ℕ) (i : Counting t m start p n) (x : StepCode) (e : StepsOver x p (cells t m)) where
  -- Where no step goes on, all are counted.
  pub count_end : x.next ≤ p → (all : List Placed) → SectorsFrom t m start all → n ≡ length all
  count_end h all f = let l = i.1 all f in go l.sectors l.steps l.count_is
    where
      go : (xs : List Placed) → SectorsFrom t m p xs → n + length xs ≡ length all → n ≡ length all
      go [] s q = omega arith
      go (y ∷ ys) s q = absurd (omega (arith, e.1, s.0.next_is, s.0.span_least))

  -- Another step counts one more.
  pub count_next : p < x.next → Counting t m start x.next (n + 1)
  count_next h = (omega (arith, i.0), λ all f. let l = i.1 all f in go all l.sectors l.steps l.count_is)
    where
      go : (all xs : List Placed) → SectorsFrom t m p xs → n + length xs ≡ length all → Left t m x.next (n + 1) all
      go all [] s q = absurd (omega (arith, s, onward t m p x e h))
      go all (y ∷ ys) s q =
          record {
            sectors = ys;
            steps = subst (λ (k : ℕ). SectorsFrom t m k ys) (sym (e.1 ∙ s.0.next_is)) s.1;
            count_is = omega arith;
          }
