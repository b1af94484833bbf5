-- Members of lists, and the sectors among placed ones.
use mathlib.Core.Path.{◌≡◌, refl, ap, ◌∙◌}
use mathlib.Core.Logic.{inl, inr}
use Prim.Native.Nat.{ℕ}
use native.Mathlib.Omega.{arith}
use mathlib.Core.List.{List, [], ◌∷◌, ◌++◌, map}
use lib.Dec.{eqb}
use borrow.Author.Tests.{eqb-true}
use Rattle.format.specs.Sector.{Sector}
use Rattle.format.specs.Accept.{Placed, from_number, sectors_of}
use Rattle.base.proofs.Tests.{cases}
use Rattle.base.specs.Lists.{Member}

-- An element behind a list is a member of both together.
pub member_last : {A : Type 0} (x : A) (xs : List A) → Member x (xs ++ x ∷ [])
member_last x [] = inl refl
member_last x (y ∷ xs) = inr (member_last x xs)

-- What f gives for a member is a member of what f gives for all.
pub member_map : {A B : Type 0} (f : A → B) (x : A) (xs : List A) → Member x xs → Member (f x) (map f xs)
member_map f x [] h = absurd h
member_map f x (y ∷ xs) (inl e) = inl (ap f e)
member_map f x (y ∷ xs) (inr h) = inr (member_map f x xs h)

-- A member of the sectors of placed ones is the sector of one of them.
pub member_placed : (s : Sector) (xs : List Placed) → Member s (sectors_of xs) → (x : Placed) × Member x xs × (s ≡ x.sector)
member_placed s [] h = absurd h
member_placed s (x ∷ xs) (inl e) = (x, inl refl, e)
member_placed s (x ∷ xs) (inr h) = let r = member_placed s xs h in (r.0, inr r.1, r.2)

-- The leftmost sector that carries a number is a member that carries it.
pub member_number : (s : ℕ) (xs : List Placed) (y : Placed) (ys : List Placed) → from_number s xs ≡ y ∷ ys → Member y xs × (y.sector.number ≡ s)
unfolding from_number
member_number s [] y ys e = absurd (let z : ◌≡◌ {A = ℕ} 0 1 = cc in omega arith)
member_number s (x ∷ xs) y ys e =
    cases (eqb x.sector.number s)
    (λ q. let h : y ≡ x = same_head (rw q at e) in (inl h, ap (λ (z : Placed). z.sector.number) h ∙ eqb-true x.sector.number s q))
    (λ q. let r = member_number s xs y ys (rw q at e) in (inr r.0, r.1))
  where
    same_head : x ∷ xs ≡ y ∷ ys → y ≡ x
    same_head h = cc
