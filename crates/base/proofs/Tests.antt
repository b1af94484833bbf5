-- Laws of tests.
use mathlib.Core.Path.{◌≡◌, refl, sym, ◌∙◌}
use Prim.Native.Nat.{ℕ}
use native.Mathlib.Omega.{arith}
use mathlib.Core.Bool.{Bool, true, false, ◌&&◌, ◌||◌}
use lib.Dec.{eqb}
use borrow.Author.Tests.{eq-eqb, ne_eqb, eqb-true, eqb-false}

-- Both cases of a test, each with its equation.
pub cases {ℓ} : {X : Type ℓ} (b : Bool) → (b ≡ true → X) → (b ≡ false → X) → X
cases true f g = f refl
cases false f g = g refl

-- No test both fails and holds.
pub false-true {ℓ} : {X : Type ℓ} → false ≡ true → X
false-true e = absurd (let z : ◌≡◌ {A = ℕ} 0 1 = cc in omega arith)

-- Where two tests hold together each of them holds.
pub and_both : (a b : Bool) → (a && b) ≡ true → (a ≡ true) × (b ≡ true)
and_both true b e = (refl, e)
and_both false b e = (e, false-true e)

-- Where each of two tests holds they hold together.
pub and_make : {a b : Bool} → a ≡ true → b ≡ true → (a && b) ≡ true
and_make {a} {b} e h = rw (e, h)

-- A test together with one that fails fails.
pub and_right : (a : Bool) {b : Bool} → b ≡ false → (a && b) ≡ false
and_right true e = e
and_right false e = refl

-- A conjunction with a test that holds is the other test.
pub and_true : (b : Bool) → (b && true) ≡ b
and_true true = refl
and_true false = refl

-- Conjunctions may be grouped anew.
pub and_assoc : (a b d : Bool) → ((a && b) && d) ≡ (a && (b && d))
and_assoc true b d = refl
and_assoc false b d = refl

-- Of two tests either may be named first.
pub or_comm : (a b : Bool) → (a || b) ≡ (b || a)
or_comm true true = refl
or_comm true false = refl
or_comm false true = refl
or_comm false false = refl

-- Of three tests the first two may be exchanged.
pub or_swap : (a b d : Bool) → (a || (b || d)) ≡ (b || (a || d))
or_swap true true d = refl
or_swap true false d = refl
or_swap false true d = refl
or_swap false false d = refl

-- Equality of numbers may be tested either way round.
pub eqb_comm : (a b : ℕ) → eqb a b ≡ eqb b a
eqb_comm a b =
    cases (eqb b a)
    (λ e. eq-eqb a b (sym (eqb-true b a e)) ∙ sym e)
    (λ e. ne_eqb a b (λ q. eqb-false b a e (sym q)) ∙ sym e)
