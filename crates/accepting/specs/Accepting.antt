-- What judging a home and a whole track gives.
use Rattle.std.specs.Prelude.{◌≡◌, ℕ, suc, ◌+◌, ◌≤◌, true, not, List, [], ◌∷◌, length, drop, Result, Ok, Err}
use Rattle.format.specs.Answer.{as_refusal, sector_repeated}
use Rattle.format.specs.Judged.{Judged, good, refused, require}
use Rattle.format.specs.Layout.{longest_track, home_first, home_last, first_count_length}
use Rattle.format.specs.Lent.{cells}
use Rattle.format.specs.Home.{Home}
use Rattle.format.specs.Count.{count_number}
use Rattle.format.specs.Span.{before_opening, later_spans, clean_spans}
use Rattle.format.specs.Sector.{opening_length, is_first}
use Rattle.format.specs.Accept.{judge_marks, among}
use Rattle.sector.specs.As.{as_home}
use Rattle.accepting.specs.Starts.{starts_in, starts_of}
use Rattle.format.specs.declared.Refusal.{Refusal}
use Rattle.sector.specs.declared.fields.Home.{Home as HomeCode}

-- The home, or the answer that refuses it.
abbrev pub judged_home : Result HomeCode Refusal → Judged Home
judged_home (Ok h) = good (as_home h)
judged_home (Err e) = refused (as_refusal e)

-- The home of an accepted track, or the answer that refuses the track.
abbrev pub judged_track : Result HomeCode Refusal → Judged Home
judged_track r = judged_home r

-- A home that is right starts at place p.
abbrev pub HomeStartsAt : ℕ → Result HomeCode Refusal → Type 0
HomeStartsAt p (Ok h) = h.place ≡ p
HomeStartsAt p (Err e) = Unit {0}

-- A home that is right starts in its window, 23 to 37.
abbrev pub HomeInWindow : Result HomeCode Refusal → Type 0
HomeInWindow (Ok h) = (home_first ≤ h.place) × (h.place ≤ home_last)
HomeInWindow (Err e) = Unit {0}

-- The home of an accepted track starts in its window, 23 to 37.
abbrev pub TrackInWindow : Result HomeCode Refusal → Type 0
TrackInWindow r = HomeInWindow r

-- What is left of a track from place p on: nothing, or it starts with a whole opening; no mark of it is stray, and ns lists the places of its spans.
pub record LaterSpans (p : ℕ) (t m ns : List ℕ) : Type 0 where
  pub lengths : length m ≡ length t
  pub within : p + length t ≤ longest_track
  pub opened : before_opening (cells t m) ≡ []
  pub clean : clean_spans 1 (later_spans (cells t m)) ≡ true
  pub places : ns ≡ starts_of p (later_spans (cells t m))

-- A lent track without stray marks, on which sector 0 stands at place p, and ns lists the places of the marked openings.
pub record NoStrayMark (p : ℕ) (t m ns : List ℕ) : Type 0 where
  pub lengths : length m ≡ length t
  pub within : length t ≤ longest_track
  pub reach : p ≤ length t
  pub judged : judge_marks (p + first_count_length) 0 0 (cells t m) ≡ good tt
  pub places : ns ≡ starts_in 0 (cells t m)

-- 13 by the spans gs alone, the first of which stands in position i and at place p; `seen` has the numbers passed.
unfoldable pub numbers_in : List ℕ → ℕ → ℕ → List (List ℕ) → Judged (Unit {0})
numbers_in seen i p [] = good tt
numbers_in seen i p (g ∷ gs) =
    let n = count_number (drop (opening_length (is_first i)) g) in
    require (not (among n seen)) (sector_repeated p) (numbers_in (n ∷ seen) (suc i) (p + length g) gs)
