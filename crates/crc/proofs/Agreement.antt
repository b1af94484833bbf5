-- The test of agreement holds exactly where the stored check is the two bytes.
use mathlib.Core.Path.{◌≡◌, refl, sym, ap₂}
use Prim.Native.Nat.{ℕ, ◌+◌, ◌*◌, ◌/◌, ◌%◌, ◌<◌}
use native.Mathlib.Omega.{arith}
use mathlib.Core.Bool.{Bool, true, false}
use mathlib.Core.List.{List, [], ◌∷◌}
use lib.Dec.{eqb}
use borrow.Author.Tests.{eq-eqb, eqb-true}
use Rattle.base.proofs.Tests.{and_both}
use Rattle.crc.specs.Check.{check_of, check_bytes, agrees}

-- Tests each of which holds where the other does are the same.
same_test : (a b : Bool) → (a ≡ true → b ≡ true) → (b ≡ true → a ≡ true) → a ≡ b
same_test true b f g = sym (f refl)
same_test false true f g = g refl
same_test false false f g = refl

-- Where the test of agreement holds, the two bytes are those of the check.
pub agrees_parts : (bs : List ℕ) (h l : ℕ) → agrees bs h l ≡ true → (check_of bs / 256 ≡ h) × (check_of bs % 256 ≡ l)
unfolding agrees
agrees_parts bs h l e =
    let p = and_both (eqb (check_of bs / 256) h) (eqb (check_of bs % 256) l) e in
    (eqb-true (check_of bs / 256) h p.0, eqb-true (check_of bs % 256) l p.1)

-- Where the two bytes are those of the check, the test of agreement holds.
parts_agree : (bs : List ℕ) (h l : ℕ) → check_of bs / 256 ≡ h → check_of bs % 256 ≡ l → agrees bs h l ≡ true
unfolding agrees
parts_agree bs h l eh el = rw (eq-eqb (check_of bs / 256) h eh, eq-eqb (check_of bs % 256) l el)

-- Where the test of agreement holds, the stored check is the two bytes.
pub agrees_stored : (bs : List ℕ) (h l : ℕ) → agrees bs h l ≡ true → check_bytes bs ≡ h ∷ l ∷ []
unfolding check_bytes
agrees_stored bs h l e =
    let p = agrees_parts bs h l e in
    ap₂ (λ (u v : ℕ). u ∷ v ∷ []) p.0 p.1

-- Where the stored check is the two bytes, the test of agreement holds.
pub stored_agrees : (bs : List ℕ) (h l : ℕ) → check_bytes bs ≡ h ∷ l ∷ [] → agrees bs h l ≡ true
unfolding check_bytes
stored_agrees bs h l e = parts_agree bs h l (cc) (cc)

-- For two bytes the test of agreement compares the check with the number that they make.
pub agrees_number : (bs : List ℕ) (h l : ℕ) → h < 256 → l < 256 → agrees bs h l ≡ eqb (check_of bs) (h * 256 + l)
agrees_number bs h l hh hl =
    same_test (agrees bs h l) (eqb (check_of bs) (h * 256 + l))
    (λ e.
    let p = agrees_parts bs h l e in
    eq-eqb (check_of bs) (h * 256 + l) (omega arith))
    (λ e.
    let n : check_of bs ≡ h * 256 + l = eqb-true (check_of bs) (h * 256 + l) e in
    parts_agree bs h l (omega arith) (omega arith))
