-- What judging gives: a value, or the answer that refuses it.
use Rattle.std.specs.Prelude.{Bool}
use Rattle.base.specs.Pick.{pick}
use Rattle.format.specs.Fault.{Fault, Tested, sound, faulty}
use Rattle.format.specs.Answer.{Answer, done}

-- A value that was found good, or the answer that refuses it.
pub data Judged (A : Type 0) : Type 0 where
  good : A → Judged A
  refused : Answer → Judged A

-- Goes on with the value, or hands the refusal on.
abbrev pub then : {A B : Type 0} → Judged A → (A → Judged B) → Judged B
then (good x) k = k x
then (refused a) k = refused a

-- Goes on where the test holds, and refuses by the answer a where not.
abbrev pub require : {A : Type 0} → Bool → Answer → Judged A → Judged A
require b a j = pick b j (refused a)

-- Goes on where a block is sound, and refuses by the answer for what is at fault where not.
abbrev pub require_sound : {A : Type 0} → Tested → (Fault → Answer) → Judged A → Judged A
require_sound sound a j = j
require_sound (faulty f) a j = refused (a f)

-- The answer of an outcome: 0 for a value, the refusal's own otherwise.
abbrev pub answer_of : {A : Type 0} → Judged A → Answer
answer_of (good x) = done
answer_of (refused a) = a

-- The value of an outcome, or d where it is refused.
abbrev pub value_or : {A : Type 0} → A → Judged A → A
value_or d (good x) = x
value_or d (refused a) = d
