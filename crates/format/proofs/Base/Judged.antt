-- Taking outcomes apart: what a good outcome says of the tests and steps that it passed, and where a refusal came from.
use mathlib.Core.Path.{◌≡◌, refl, sym, ap}
use Prim.Native.Nat.{ℕ}
use native.Mathlib.Omega.{arith}
use mathlib.Core.Bool.{Bool, true, false}
use Rattle.base.proofs.Tests.{false-true}
use Rattle.format.specs.Fault.{Fault, Tested, sound, faulty, demand}
use Rattle.format.specs.Answer.{Answer, as_refusal}
use Rattle.format.specs.declared.Refusal.{Refusal}
use Rattle.format.specs.declared.Refusal.TheVariants.{LentWrong, HomeMissing, HomeCheckWrong, HomeFieldsWrong, MarkStray, FirstCountMissing, CountCheckWrong, CountFieldsWrong, SpanTooShort, KeyWrong, DataWrong, SectorMissing, SectorRepeated, WantedWrong, RoomMissing, PairWrong, PatternWrong, HeaderWrong, OffsetWrong, FileLengthWrong, SpareBitsSet, BufferTooShort}
use Rattle.format.specs.Judged.{Judged, good, refused, then, require, require_sound, answer_of}

pub good_inj : {A : Type 0} (x y : A) → ◌≡◌ {A = Judged A} (good x) (good y) → x ≡ y
good_inj x y e = cc

pub refused-good {ℓ} : {A : Type 0} {X : Type ℓ} (a : Answer) (y : A) → ◌≡◌ {A = Judged A} (refused a) (good y) → X
refused-good a y e = absurd (let z : ◌≡◌ {A = ℕ} 0 1 = cc in omega arith)

-- A good outcome is no refusal.
pub good-refused {ℓ} : {A : Type 0} {X : Type ℓ} (x : A) (a : Answer) → ◌≡◌ {A = Judged A} (good x) (refused a) → X
good-refused x a e = absurd (let z : ◌≡◌ {A = ℕ} 0 1 = cc in omega arith)

-- Equal refusals have equal answers.
pub refused_inj : {A : Type 0} (a b : Answer) → ◌≡◌ {A = Judged A} (refused a) (refused b) → a ≡ b
refused_inj a b e = cc

-- A step that ends well began well.
pub then_good : {A B : Type 0} (j : Judged A) (k : A → Judged B) (y : B) → then j k ≡ good y → (x : A) × (j ≡ good x) × (k x ≡ good y)
then_good (good x) k y e = (x, refl, e)
then_good (refused a) k y e = refused-good a y e

-- A step that ends in a refusal began with it, or began well and went on to it.
pub then-refused {ℓ} : {A B : Type 0} {X : Type ℓ} (j : Judged A) (k : A → Judged B) (a : Answer) → then j k ≡ refused a
    → (j ≡ refused a → X) → ((x : A) → j ≡ good x → k x ≡ refused a → X) → X
then-refused (good x) k a e first later = later x refl e
then-refused (refused b) k a e first later = first (ap refused (refused_inj b a e))

-- A test that let an outcome through held.
pub require_good : {A : Type 0} (b : Bool) (a : Answer) (j : Judged A) (y : A) → require b a j ≡ good y → (b ≡ true) × (j ≡ good y)
require_good true a j y e = (refl, e)
require_good false a j y e = refused-good a y e

pub require_holds : {A : Type 0} (b : Bool) (a : Answer) (j k : Judged A) → b ≡ true → j ≡ k → require b a j ≡ k
require_holds true a j k e h = h
require_holds false a j k e h = false-true e

-- A refusal is that of a test that failed, or the test held and it came after.
pub require-refused {ℓ} : {A : Type 0} {X : Type ℓ} (b : Bool) (r : Answer) (j : Judged A) (a : Answer) → require b r j ≡ refused a
    → (b ≡ false → r ≡ a → X) → (b ≡ true → j ≡ refused a → X) → X
require-refused true r j a e here later = later refl e
require-refused false r j a e here later = here refl (refused_inj r a e)

-- A refusal by another number than 0 is not good.
pub require_zero : {A : Type 0} (b : Bool) (a : Answer) (j : Judged A) → (a.number ≡ 0 → ⊥) → (answer_of (require b a j)).number ≡ 0 → (b ≡ true) × ((answer_of j).number ≡ 0)
require_zero true a j h e = (refl, e)
require_zero false a j h e = absurd (h e)

-- A part of a sound block is right, and so are those that are tried after it.
pub demand_sound : (b : Bool) (f : Fault) (t : Tested) → demand b f t ≡ sound → (b ≡ true) × (t ≡ sound)
demand_sound true f t e = (refl, e)
demand_sound false f t e = absurd (let z : ◌≡◌ {A = ℕ} 0 1 = cc in omega arith)

-- A sound block is not at fault.
pub sound-faulty {ℓ} : {X : Type ℓ} (f : Fault) → sound ≡ faulty f → X
sound-faulty f e = absurd (let z : ◌≡◌ {A = ℕ} 0 1 = cc in omega arith)

-- In a block at fault a part is the first that is wrong, or it is right and one of those after it is.
pub demand-faulty {ℓ} : {X : Type ℓ} (b : Bool) (f : Fault) (t : Tested) (g : Fault) → demand b f t ≡ faulty g → (b ≡ false → f ≡ g → X) → (b ≡ true → t ≡ faulty g → X) → X
demand-faulty true f t g e here later = later refl e
demand-faulty false f t g e here later = here refl (let same : f ≡ g = cc in same)

-- A block that let an outcome through is sound.
pub sound_good : {A : Type 0} (t : Tested) (a : Fault → Answer) (j : Judged A) (y : A) → require_sound t a j ≡ good y → (t ≡ sound) × (j ≡ good y)
sound_good sound a j y e = (refl, e)
sound_good (faulty f) a j y e = refused-good (a f) y e

-- A refusal is that of a block at fault, or the block is sound and it came after.
pub sound-refused {ℓ} : {A : Type 0} {X : Type ℓ} (t : Tested) (r : Fault → Answer) (j : Judged A) (a : Answer) → require_sound t r j ≡ refused a
    → ((f : Fault) → t ≡ faulty f → r f ≡ a → X) → (t ≡ sound → j ≡ refused a → X) → X
sound-refused sound r j a e here later = later refl e
sound-refused (faulty f) r j a e here later = here f refl (refused_inj (r f) a e)

-- A refusal by other numbers than 0 is not good.
pub sound_zero : {A : Type 0} (t : Tested) (a : Fault → Answer) (j : Judged A) → ((f : Fault) → (a f).number ≡ 0 → ⊥) → (answer_of (require_sound t a j)).number ≡ 0 → t ≡ sound
sound_zero sound a j h e = refl
sound_zero (faulty f) a j h e = absurd (h f e)

-- An outcome whose answer is not 0 is a refusal, and what would follow is not reached.
pub refusal_stays : {A B : Type 0} (j : Judged A) (k : A → Judged B) → ((answer_of j).number ≡ 0 → ⊥) → answer_of (then j k) ≡ answer_of j
refusal_stays (good x) k h = absurd (h refl)
refusal_stays (refused a) k h = refl

-- It is the refusal by that answer.
pub refusal_is : {A : Type 0} (j : Judged A) (a : Answer) → a ≡ answer_of j → (a.number ≡ 0 → ⊥) → j ≡ refused a
refusal_is (good x) a e n = absurd (n (ap (λ (b : Answer). b.number) e))
refusal_is (refused b) a e n = ap refused (sym e)

-- Where one judgement after another answers 0, the first does.
pub then_zero : {A B : Type 0} (j : Judged A) (k : A → Judged B) → (answer_of (then j k)).number ≡ 0 → (answer_of j).number ≡ 0
then_zero (good x) k e = refl
then_zero (refused a) k e = e

-- The answer does not turn on what is made of a good value.
pub answer_then : {A B : Type 0} (j : Judged A) (f : A → B) → answer_of (then j (λ x. good (f x))) ≡ answer_of j
answer_then (good x) f = refl
answer_then (refused a) f = refl

-- The answer of a refusal of the code is not 0.
pub refusal_number : (e : Refusal) → (as_refusal e).number ≡ 0 → ⊥
refusal_number LentWrong z = omega arith
refusal_number HomeMissing z = omega arith
refusal_number (HomeCheckWrong p) z = omega arith
refusal_number (HomeFieldsWrong p) z = omega arith
refusal_number (MarkStray p) z = omega arith
refusal_number (FirstCountMissing p) z = omega arith
refusal_number (CountCheckWrong p) z = omega arith
refusal_number (CountFieldsWrong p) z = omega arith
refusal_number (SpanTooShort p) z = omega arith
refusal_number (KeyWrong f p) z = omega arith
refusal_number (DataWrong f p) z = omega arith
refusal_number SectorMissing z = omega arith
refusal_number (SectorRepeated p) z = omega arith
refusal_number WantedWrong z = omega arith
refusal_number RoomMissing z = omega arith
refusal_number PairWrong z = omega arith
refusal_number (PatternWrong p) z = omega arith
refusal_number HeaderWrong z = omega arith
refusal_number OffsetWrong z = omega arith
refusal_number FileLengthWrong z = omega arith
refusal_number SpareBitsSet z = omega arith
refusal_number BufferTooShort z = omega arith
