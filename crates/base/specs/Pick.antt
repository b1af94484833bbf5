-- A choice between two values.
use Rattle.std.specs.Prelude.{Bool, true, false}

-- The first value where the test holds, and the second where it does not.
abbrev pub pick {ℓ} : {X : Type ℓ} → Bool → X → X → X
pick true a b = a
pick false a b = b
