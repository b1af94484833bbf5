-- The candidates of Find and Walk on any track, sound or damaged.
use Rattle.std.specs.Prelude.{ℕ, suc, Bool, false, ◌&&◌, ◌||◌, List, [], ◌∷◌, eqb}
use Rattle.base.specs.Pick.{pick}
use Rattle.format.specs.Judged.{Judged, good, refused}
use Rattle.format.specs.Opening.{starts_with, plain_opening, opens}
use Rattle.format.specs.Home.{find_home, first_count_place}
use Rattle.format.specs.Count.{count_fits, count_closed}
use Rattle.format.specs.Span.{runs_to_index, span_rest}
use Rattle.format.specs.Sector.{opening_length}

-- A count that opens: its place, is it sector 0's, does its span run to index, and what follows the opening in the span.
pub record Candidate : Type 0 where
  pub place : ℕ
  pub first : Bool
  pub last : Bool
  pub rest : List ℕ

-- Sector 0's count opens at place p, where home opens by h; home's own check plays no part.
unfoldable pub first_opens_at : Judged ℕ → ℕ → List ℕ → Bool
first_opens_at (refused a) p c = false
first_opens_at (good h) p c = eqb p (first_count_place h) && starts_with plain_opening c

-- The count that opens at the front of c, at place p.
unfoldable pub candidate_at : Bool → ℕ → List ℕ → Candidate
candidate_at first p c =
    let o = opening_length first in
    record { place = p; first = first; last = runs_to_index o c; rest = span_rest o c }

-- Its count lies in its span and passes its check and closing byte.
unfoldable pub count_passes : Candidate → Bool
count_passes x = count_fits x.rest && count_closed x.rest

-- A candidate stands at the front of c, at place p.
unfoldable pub stands_at : Judged ℕ → ℕ → List ℕ → Bool
stands_at h p c = (first_opens_at h p c || opens c) && count_passes (candidate_at (first_opens_at h p c) p c)

-- The candidates of c, which starts at place p, from left to right, each once.
unfoldable pub candidates_from : Judged ℕ → ℕ → List ℕ → List Candidate
candidates_from h p [] = []
candidates_from h p (x ∷ c) =
    let r = candidates_from h (suc p) c in
    pick (stands_at h p (x ∷ c)) (candidate_at (first_opens_at h p (x ∷ c)) p (x ∷ c) ∷ r) r

-- The candidates of a track.
unfoldable pub candidates : List ℕ → List Candidate
candidates c = candidates_from (find_home c) 0 c
