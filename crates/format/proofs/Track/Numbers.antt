-- Answer 13 in terms of the sectors alone, and one more sector whose number is new.
use mathlib.Core.Path.{◌≡◌, refl, sym, subst}
use Prim.Native.Nat.{ℕ}
use mathlib.Core.Bool.{false, not}
use mathlib.Core.List.{List, [], ◌∷◌, ◌++◌}
use lib.ListN.{length}
use lib.Dec.{eqb}
use borrow.Author.Tests.{eqb-false, ne_eqb, not-true}
use Rattle.format.specs.Answer.{sector_repeated}
use Rattle.format.specs.Judged.{good}
use Rattle.format.specs.Sector.{Sector}
use Rattle.format.specs.Accept.{Placed, placed_from, among, judge_numbers, from_number, sectors_of}
use Rattle.format.specs.Add.{judge_absent}
use Rattle.format.proofs.Base.Judged.{refused-good, require_good}
use Rattle.base.proofs.Tests.{cases}
use Rattle.format.proofs.Sector.ReadsAs.{sectors_placed}

-- No sector repeats the number of an earlier one or one of `seen`.
abbrev pub Fresh : List ℕ → List Sector → Type 0
Fresh seen [] = Unit {0}
Fresh seen (s ∷ ss) = (among s.number seen ≡ false) × Fresh (s.number ∷ seen) ss

-- Without answer 13 no sector does,
pub judged_fresh : (seen : List ℕ) (xs : List Placed) → judge_numbers seen xs ≡ good tt → Fresh seen (sectors_of xs)
unfolding judge_numbers
judged_fresh seen [] e = tt
judged_fresh seen (x ∷ xs) e =
    let n : ℕ = x.sector.number in
    let r = require_good (not (among n seen)) (sector_repeated x.place) (judge_numbers (n ∷ seen) xs) tt e in
    (not-true (among n seen) r.0, judged_fresh (n ∷ seen) xs r.1)

-- and where no sector does there is no answer 13.
pub fresh_judged : (seen : List ℕ) (xs : List Placed) → Fresh seen (sectors_of xs) → judge_numbers seen xs ≡ good tt
unfolding judge_numbers
fresh_judged seen [] f = refl
fresh_judged seen (x ∷ xs) f = rw f.0 (fresh_judged (x.sector.number ∷ seen) xs f.1)

-- The same of sectors that are placed.
pub fresh_placed : (seen : List ℕ) (p : ℕ) (gs : List (List ℕ)) (ss : List Sector) → length gs ≡ length ss → Fresh seen ss
    → judge_numbers seen (placed_from p gs ss) ≡ good tt
fresh_placed seen p gs ss l f = fresh_judged seen (placed_from p gs ss) (subst (Fresh seen) (sym (sectors_placed p gs ss l)) f)

-- No sector carries n.
abbrev pub Absent : ℕ → List Sector → Type 0
Absent n [] = Unit {0}
Absent n (s ∷ ss) = (eqb s.number n ≡ false) × Absent n ss

-- Add finds no sector that carries n: there is none.
pub judged_absent : (n : ℕ) (xs : List Placed) → judge_absent (from_number n xs) ≡ good tt → Absent n (sectors_of xs)
unfolding judge_absent from_number
judged_absent n [] e = tt
judged_absent n (x ∷ xs) e =
    cases (eqb x.sector.number n)
    (λ q. refused-good (sector_repeated x.place) tt (rw q at e))
    (λ q. (q, judged_absent n xs (rw q at e)))

-- A sector whose number is absent repeats none.
pub fresh_append : (seen : List ℕ) (ss : List Sector) (s : Sector) → Fresh seen ss → among s.number seen ≡ false → Absent s.number ss
    → Fresh seen (ss ++ s ∷ [])
unfolding among
fresh_append seen [] s f m a = (m, tt)
fresh_append seen (r ∷ ss) s f m a =
    let other : eqb s.number r.number ≡ false = ne_eqb s.number r.number (λ q. eqb-false r.number s.number a.0 (sym q)) in
    (f.0, fresh_append (r.number ∷ seen) ss s f.1 (rw (other, m)) a.1)
