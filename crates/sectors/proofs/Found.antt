-- The search for the leftmost sector that carries S, step by step.
use mathlib.Core.Path.{◌≡◌, refl, sym, ◌∙◌, subst}
use Prim.Native.Nat.{ℕ, ◌≤◌, ◌<◌}
use native.Mathlib.Omega.{arith}
use mathlib.Core.List.{List, [], ◌∷◌}
use borrow.Author.Tests.{eq-eqb, ne_eqb}
use Rattle.format.specs.Lent.{cells}
use Rattle.format.specs.Accept.{Placed, from_number}
use Rattle.sectors.specs.declared.steps.Step.{Step as StepCode}
use Rattle.sectors.specs.SectorAt.{StepsOver}
use Rattle.sectors.specs.From.{SectorsFrom}
use Rattle.sectors.proofs.Rest.{onward}

-- The sectors from place p on, of which the search of `all` goes on.
pub record Reached (t m : List ℕ) (s p : ℕ) (all : List Placed) : Type 0 where
  pub remaining : List Placed
  pub steps : SectorsFrom t m p remaining
  pub same : from_number s all ≡ from_number s remaining

-- The search has come to place p.
abbrev pub Searching : List ℕ → List ℕ → ℕ → ℕ → ℕ → Type 0
Searching t m start s p = (all : List Placed) → SectorsFrom t m start all → Reached t m s p all

-- It starts with all sectors.
pub search_start : (t m : List ℕ) (start s : ℕ) → Searching t m start s start
search_start t m start s all f = record { remaining = all; steps = f; same = refl }

module _ (t m : List ℕ) (start s p : ℕ) (i : Searching t m start s p) (x : StepCode) (e : StepsOver x p (cells t m)) where
  -- The search ends where what remains is what is searched for.
  ends : ((xs : List Placed) → SectorsFrom t m p xs → from_number s xs ≡ xs) → (all : List Placed) → SectorsFrom t m start all
      → SectorsFrom t m p (from_number s all)
  ends k all f = let r = i all f in subst (SectorsFrom t m p) (sym (r.same ∙ k r.remaining r.steps)) r.steps

  -- The sector at p carries S.
  pub search_found : x.number ≡ s → (all : List Placed) → SectorsFrom t m start all → SectorsFrom t m p (from_number s all)
  unfolding from_number
  search_found q = ends here
    where
      here : (xs : List Placed) → SectorsFrom t m p xs → from_number s xs ≡ xs
      here [] f = refl
      here (y ∷ ys) f = rw (eq-eqb y.sector.number s (sym (e.0 ∙ f.0.number_is) ∙ q))

  -- No sector is left.
  pub search_end : x.next ≤ p → (all : List Placed) → SectorsFrom t m start all → SectorsFrom t m p (from_number s all)
  unfolding from_number
  search_end h = ends here
    where
      here : (xs : List Placed) → SectorsFrom t m p xs → from_number s xs ≡ xs
      here [] f = refl
      here (y ∷ ys) f = absurd (omega (arith, e.1, f.0.next_is, f.0.span_least))

  -- The sector at p does not carry S, and the search goes on behind it.
  pub search_next : (x.number ≡ s → ⊥) → p < x.next → Searching t m start s x.next
  unfolding from_number
  search_next n h all f = let r = i all f in go r.remaining r.steps r.same
    where
      go : (xs : List Placed) → SectorsFrom t m p xs → from_number s all ≡ from_number s xs → Reached t m s x.next all
      go [] g q = absurd (omega (arith, g, onward t m p x e h))
      go (y ∷ ys) g q =
          let number : y.sector.number ≡ s → ⊥ = λ k. n (e.0 ∙ g.0.number_is ∙ k) in
          record {
            remaining = ys;
            steps = subst (λ (k : ℕ). SectorsFrom t m k ys) (sym (e.1 ∙ g.0.next_is)) g.1;
            same = q ∙ rw (ne_eqb y.sector.number s number);
          }
