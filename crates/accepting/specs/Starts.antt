-- The places at which marked openings stand, and at which spans start.
use Rattle.std.specs.Prelude.{◌≡◌, ℕ, suc, ◌+◌, ◌≤◌, List, [], ◌∷◌, length, take, Result, Ok, Err}
use Rattle.base.specs.Pick.{pick}
use Rattle.format.specs.Answer.{as_refusal}
use Rattle.format.specs.Judged.{Judged, good, refused}
use Rattle.format.specs.Opening.{opens}
use Rattle.format.specs.declared.Refusal.{Refusal}

-- The places of the marked openings of the cells c, which start at place q.
unfoldable pub starts_in : ℕ → List ℕ → List ℕ
starts_in q [] = []
starts_in q (x ∷ c) = let r = starts_in (suc q) c in pick (opens (x ∷ c)) (q ∷ r) r

-- The places of the spans gs, the first of which stands at place p.
unfoldable pub starts_of : ℕ → List (List ℕ) → List ℕ
starts_of p [] = []
starts_of p (g ∷ gs) = p ∷ starts_of (p + length g) gs

-- No more marked openings stand on a track of at most 4,002 bytes: each has eight.
abbrev pub most_openings : ℕ
most_openings = 500

-- Answer 5 with the place of the lowest stray mark, or none.
abbrev pub judged_marks : Result ℕ Refusal → Judged (Unit {0})
judged_marks (Ok k) = good tt
judged_marks (Err e) = refused (as_refusal e)

-- Where no mark is stray, the table ys starts with the places xs of the openings, as many as were counted.
abbrev pub IsListed : Result ℕ Refusal → List ℕ → List ℕ → Type 0
IsListed (Ok k) xs ys = (k ≤ length ys) × (take k ys ≡ xs)
IsListed (Err e) xs ys = Unit {0}
