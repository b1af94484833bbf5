-- An accepted track taken apart: its head, its spans and its sectors, of which there is at least one.
use mathlib.Core.Path.{◌≡◌}
use Prim.Native.Nat.{ℕ}
use native.Mathlib.Omega.{arith}
use mathlib.Core.Bool.{false}
use mathlib.Core.List.{List, [], ◌∷◌, ◌++◌}
use lib.ListN.{take, drop}
use Rattle.format.specs.Judged.{good}
use Rattle.format.specs.Home.{Home, first_count_place}
use Rattle.format.specs.Count.{Settled}
use Rattle.format.specs.Span.{before_opening, later_spans, spans, joined}
use Rattle.format.specs.Sector.{Sector}
use Rattle.format.specs.Accept.{Accepted, accept_cells}
use Rattle.format.proofs.Spans.Shape.{FirstReaches}
use Rattle.format.proofs.Sector.ReadsAs.{Reads}
use Rattle.format.proofs.Sector.ReadSector.{read_inv, span_least}
use Rattle.format.proofs.Track.AcceptedSpans.{Track, accepted_of, accepted_track}

-- The parts of the accepted track c.
pub record TakenApart (c : List ℕ) (a : Accepted) : Type 0 where
  pub head : List ℕ
  pub span : List ℕ
  pub spans : List (List ℕ)
  pub sector : Sector
  pub sectors : List Sector
  pub track : Track head a.home (span ∷ spans) (sector ∷ sectors)
  pub whole : head ++ joined (span ∷ spans) ≡ c
  pub same : accepted_of a.home (span ∷ spans) (sector ∷ sectors) ≡ a

-- Every accepted track can be taken apart.
pub taken_apart : (c : List ℕ) (a : Accepted) → accept_cells c ≡ good a → TakenApart c a
unfolding spans
taken_apart c a e = let t = accepted_track c a e in go t.0 t.1 t.2 t.3
  where
    p : ℕ
    p = first_count_place a.home.place

    d : List ℕ
    d = drop p c

    go : (ss : List Sector) → Track (take p c) a.home (before_opening d ∷ later_spans d) ss → take p c ++ joined (before_opening d ∷ later_spans d) ≡ c
        → accepted_of a.home (before_opening d ∷ later_spans d) ss ≡ a → TakenApart c a
    go [] t w q = absurd t.reads
    go (s ∷ ss) t w q = record { head = take p c; span = before_opening d; spans = later_spans d; sector = s; sectors = ss; track = t; whole = w; same = q }

-- Where the first span is read and another follows, it has room for a count.
pub reads_reach : (h : Home) (x : Settled) (p : ℕ) (gs : List (List ℕ)) (ss : List Sector) → Reads h 0 x p gs ss → FirstReaches 18 gs
reads_reach h x p [] ss e = tt
reads_reach h x p (g ∷ []) ss e = tt
reads_reach h x p (g ∷ k ∷ gs) [] e = absurd e
reads_reach h x p (g ∷ k ∷ gs) (s ∷ ss) e = omega (arith, span_least h 0 x false g s (read_inv h 0 x p false g s e.0))
