-- The way over the sectors of a track in search of S, and the last sector where none carries it.
use mathlib.Core.Path.{◌≡◌, refl, sym, ap, ◌∙◌, subst}
use Prim.Native.Nat.{ℕ, suc, ◌+◌, ◌≤◌, ◌<◌}
use native.Mathlib.Omega.{arith}
use mathlib.Core.List.{List, [], ◌∷◌}
use lib.ListN.{length}
use borrow.Author.Tests.{eq-eqb, ne_eqb}
use Rattle.format.specs.Lent.{cells}
use Rattle.format.specs.Accept.{Placed, from_number, last_of}
use Rattle.sectors.specs.declared.steps.Step.{Step as StepCode}
use Rattle.sectors.specs.SectorAt.{StepsOver}
use Rattle.sectors.specs.From.{SectorsFrom}
use Rattle.sectors.proofs.Rest.{onward}

-- The last sector is `goal`: the one at place `before` where none remains, else the last of those that remain.
abbrev pub LastKnown : List ℕ → List ℕ → ℕ → Placed → List Placed → Type 0
LastKnown t m before goal [] = SectorsFrom t m before (goal ∷ [])
LastKnown t m before goal (z ∷ zs) = last_of z zs ≡ goal

-- The sectors that remain of x and xs from place p on, when n are passed, the last of them at place `before`.
pub record Passing (t m : List ℕ) (s p before n : ℕ) (x : Placed) (xs : List Placed) : Type 0 where
  pub remaining : List Placed
  pub steps : SectorsFrom t m p remaining
  pub same : from_number s (x ∷ xs) ≡ from_number s remaining
  pub last_known : LastKnown t m before (last_of x xs) remaining
  pub count_is : n + length remaining ≡ suc (length xs)

-- The way has come to place p; each step goes on, so that those passed stay few.
abbrev pub Passed : List ℕ → List ℕ → ℕ → ℕ → ℕ → ℕ → ℕ → Type 0
Passed t m start s p before n =
    (n ≤ p) × ((x : Placed) (xs : List Placed) → SectorsFrom t m start (x ∷ xs) → Passing t m s p before n x xs)

-- At the start all remain.
pub pass_start : (t m : List ℕ) (start s : ℕ) → Passed t m start s start start 0
pass_start t m start s = (omega arith, λ x xs f. record { remaining = x ∷ xs; steps = f; same = refl; last_known = refl; count_is = omega arith })

module _ (t m : List ℕ) (start s p before n : ℕ) (i : Passed t m start s p before n) (a : StepCode) (e : StepsOver a p (cells t m)) where
  -- Where no sector carries S, none remains at the end of the way.
  pass_end : ((z : Placed) (zs : List Placed) → SectorsFrom t m p (z ∷ zs) → from_number s (z ∷ zs) ≡ [] → ⊥) → (x : Placed) (xs : List Placed) → SectorsFrom t m start (x ∷ xs) → from_number s (x ∷ xs) ≡ []
      → SectorsFrom t m before (last_of x xs ∷ []) × (n ≡ suc (length xs))
  pass_end k x xs f absent = let v = i.1 x xs f in go v.remaining v.steps v.same v.last_known v.count_is
    where
      go : (zs : List Placed) → SectorsFrom t m p zs → from_number s (x ∷ xs) ≡ from_number s zs → LastKnown t m before (last_of x xs) zs → n + length zs ≡ suc (length xs)
          → SectorsFrom t m before (last_of x xs ∷ []) × (n ≡ suc (length xs))
      go [] g q l c = (l, omega (arith, c))
      go (z ∷ zs) g q l c = absurd (k z zs g (sym q ∙ absent))

  -- The sector at p carries S,
  pub pass_found : a.number ≡ s → (x : Placed) (xs : List Placed) → SectorsFrom t m start (x ∷ xs) → from_number s (x ∷ xs) ≡ []
      → SectorsFrom t m before (last_of x xs ∷ []) × (n ≡ suc (length xs))
  unfolding from_number
  pass_found q = pass_end here
    where
      here : (z : Placed) (zs : List Placed) → SectorsFrom t m p (z ∷ zs) → from_number s (z ∷ zs) ≡ [] → ⊥
      here z zs g absent =
          let r : from_number s (z ∷ zs) ≡ z ∷ zs = rw (eq-eqb z.sector.number s (sym (e.0 ∙ g.0.number_is) ∙ q)) in
          omega (arith, ap length (sym r ∙ absent))

  -- or there is none at p.
  pub pass_stuck : a.next ≤ p → (x : Placed) (xs : List Placed) → SectorsFrom t m start (x ∷ xs) → from_number s (x ∷ xs) ≡ []
      → SectorsFrom t m before (last_of x xs ∷ []) × (n ≡ suc (length xs))
  pass_stuck h = pass_end (λ z zs g absent. omega (arith, e.1, g.0.next_is, g.0.span_least))

  -- The sector at p does not carry S, and the way goes on behind it.
  pub pass_next : (a.number ≡ s → ⊥) → p < a.next → Passed t m start s a.next p (n + 1)
  unfolding from_number
  pass_next o h = (omega (arith, i.0), λ x xs f. let v = i.1 x xs f in go x xs v.remaining v.steps v.same v.last_known v.count_is)
    where
      known : (goal z : Placed) (zs : List Placed) → SectorsFrom t m p (z ∷ zs) → last_of z zs ≡ goal → LastKnown t m p goal zs
      known goal z [] g l = subst (λ (w : Placed). SectorsFrom t m p (w ∷ [])) l g
      known goal z (w ∷ ws) g l = l

      go : (x : Placed) (xs zs : List Placed) → SectorsFrom t m p zs → from_number s (x ∷ xs) ≡ from_number s zs → LastKnown t m before (last_of x xs) zs → n + length zs ≡ suc (length xs)
          → Passing t m s a.next p (n + 1) x xs
      go x xs [] g q l c = absurd (omega (arith, g, onward t m p a e h))
      go x xs (z ∷ zs) g q l c =
          let number : z.sector.number ≡ s → ⊥ = λ k. o (e.0 ∙ g.0.number_is ∙ k) in
          let skip : from_number s (z ∷ zs) ≡ from_number s zs = rw (ne_eqb z.sector.number s number) in
          record {
            remaining = zs;
            steps = subst (λ (k : ℕ). SectorsFrom t m k zs) (sym (e.1 ∙ g.0.next_is)) g.1;
            same = q ∙ skip;
            last_known = known (last_of x xs) z zs g l;
            count_is = omega (arith, c);
          }
