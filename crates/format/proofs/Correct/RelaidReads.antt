-- Spans that are kept up to a sector and written afresh from there keep the shape of spans, carry no stray mark and read as the new sectors.
use mathlib.Core.Path.{◌≡◌, refl}
use Prim.Native.Nat.{ℕ, zero, suc, ◌+◌, ◌≤◌}
use mathlib.Core.Bool.{Bool, true}
use mathlib.Core.List.{List, [], ◌∷◌, map}
use lib.ListN.{length}
use borrow.Author.Tests.{leb-true}
use Rattle.format.specs.Home.{Home}
use Rattle.format.specs.Count.{Settled}
use Rattle.format.specs.Span.{joined, none, clean_span, clean_spans}
use Rattle.format.specs.Sector.{Sector, settle}
use Rattle.format.specs.Written.{reach, written_spans}
use Rattle.format.specs.Together.{Correction, replaced_by}
use Rattle.format.proofs.Spans.Shape.{Shape, FirstReaches, AllValid}
use Rattle.base.proofs.Tests.{cases, false-true, and_both, and_make}
use Rattle.format.proofs.Sector.ReadsAs.{Reads}
use Rattle.format.proofs.Written.WrittenSpans.{shape_written_spans, clean_written_spans, first_written_reaches, reads_written_spans}
use Rattle.format.proofs.Correct.Replaced.{named, replaced_named, replaced_other, replaced_settle}
use Rattle.format.proofs.Correct.Relaid.{relaid, room}

module _ (gap : ℕ → ℕ → ℕ) where
  -- The spans keep the shape of spans.
  pub shape_relaid : (hit : Sector → Bool) (h : Home) (i : ℕ) (x : Settled) (gs : List (List ℕ)) (ss : List Sector) → Shape i gs → AllValid h i x ss
      → Shape i (relaid gap hit gs ss)
  unfolding relaid
  shape_relaid hit h i x [] ss k v = k
  shape_relaid hit h i x (g ∷ gs) [] k v = k
  shape_relaid hit h zero x (g ∷ gs) (s ∷ ss) k v =
      cases (hit s)
      (λ e. rw e (shape_written_spans gap h 0 x _ (s ∷ ss) v))
      (λ e. rw e (k.0, shape_relaid hit h 1 (settle x s) gs ss k.1 v.1))
  shape_relaid hit h (suc i) x (g ∷ gs) (s ∷ ss) k v =
      cases (hit s)
      (λ e. rw e (shape_written_spans gap h (suc i) x _ (s ∷ ss) v))
      (λ e. rw e (k.0, shape_relaid hit h (suc (suc i)) (settle x s) gs ss k.1 v.1))

  -- There is a span exactly when there was one.
  pub none_relaid : (hit : Sector → Bool) (gs : List (List ℕ)) (ss : List Sector) → none (relaid gap hit gs ss) ≡ none gs
  unfolding relaid written_spans
  none_relaid hit [] ss = refl
  none_relaid hit (g ∷ gs) [] = refl
  none_relaid hit (g ∷ gs) (s ∷ ss) = cases (hit s) (λ e. rw e) (λ e. rw e)

  -- They carry no stray mark.
  pub clean_relaid : (hit : Sector → Bool) (h : Home) (i : ℕ) (x : Settled) (gs : List (List ℕ)) (ss : List Sector) → clean_spans i gs ≡ true → AllValid h i x ss
      → clean_spans i (relaid gap hit gs ss) ≡ true
  unfolding relaid clean_spans
  clean_relaid hit h i x [] ss c v = c
  clean_relaid hit h i x (g ∷ gs) [] c v = c
  clean_relaid hit h i x (g ∷ gs) (s ∷ ss) c v =
      let k = and_both (clean_span i g) (clean_spans (suc i) gs) c in
      cases (hit s)
      (λ e. rw e (clean_written_spans gap h i x _ (s ∷ ss) v))
      (λ e. rw e (and_make k.0 (clean_relaid hit h (suc i) (settle x s) gs ss k.1 v.1)))

  kept_reaches : (g : List ℕ) (gs ks : List (List ℕ)) → none ks ≡ none gs → FirstReaches 18 (g ∷ gs) → FirstReaches 18 (g ∷ ks)
  kept_reaches g gs [] e f = tt
  kept_reaches g [] (k ∷ ks) e f = false-true e
  kept_reaches g (r ∷ gs) (k ∷ ks) e f = f

  -- The first of them has room for a count.
  pub relaid_reaches : (hit : Sector → Bool) (gs : List (List ℕ)) (ss : List Sector) → FirstReaches 18 gs → FirstReaches 18 (relaid gap hit gs ss)
  unfolding relaid
  relaid_reaches hit [] ss f = f
  relaid_reaches hit (g ∷ gs) [] f = f
  relaid_reaches hit (g ∷ gs) (s ∷ ss) f =
      cases (hit s)
      (λ e. rw e (first_written_reaches gap (length (joined (g ∷ gs))) (s ∷ ss)))
      (λ e. rw e (kept_reaches g gs (relaid gap hit gs ss) (none_relaid hit gs ss) f))

  -- After a correction that has room the spans read as the corrected sectors.
  pub reads_relaid : ((k d : ℕ) → 21 ≤ gap k d) → (a : Correction) (h : Home) (i : ℕ) (x : Settled) (p : ℕ) (gs : List (List ℕ)) (ss : List Sector)
      → Reads h i x p gs ss → AllValid h i x (map (replaced_by a) ss) → room gap (named a) gs (map (replaced_by a) ss) ≡ true
      → Reads h i x p (relaid gap (named a) gs (map (replaced_by a) ss)) (map (replaced_by a) ss)
  unfolding relaid room
  reads_relaid least a h i x p [] [] e v r = tt
  reads_relaid least a h i x p [] (s ∷ ss) e v r = absurd e
  reads_relaid least a h i x p (g ∷ gs) [] e v r = absurd e
  reads_relaid least a h i x p (g ∷ gs) (s ∷ ss) e v r =
      let new : List Sector = map (replaced_by a) (s ∷ ss) in
      let n : ℕ = length (joined (g ∷ gs)) in
      let w : AllValid h (suc i) (settle x s) (map (replaced_by a) ss) = rw (replaced_settle a x s) at v.1 in
      let r₁ = rw (replaced_named a a s) at r in
      rw (replaced_named a a s)
      (cases (named a s)
      (λ d. rw d (reads_written_spans gap least h i x p n new v (leb-true (reach gap new + 13) n (rw d at r₁))))
      (λ d. rw d (
        rw (none_relaid (named a) gs (map (replaced_by a) ss), replaced_other a s d) e.0,
        rw (replaced_settle a x s) (reads_relaid least a h (suc i) (settle x s) (p + length g) gs ss e.1 w (rw d at r₁)),
      )))
