-- What the search for a fault gives.
use Rattle.std.specs.Prelude.{Result, Ok, Err}
use Rattle.format.specs.Answer.{as_refusal}
use Rattle.format.specs.Judged.{Judged, good, refused}
use Rattle.format.specs.declared.Refusal.{Refusal}

-- The refusal with the place of the first fault, or none.
abbrev pub judged_fault : Result (Unit {0}) Refusal → Judged (Unit {0})
judged_fault (Ok x) = good tt
judged_fault (Err e) = refused (as_refusal e)
