-- Spans that are kept up to a sector and written afresh from there: their lengths, and two corrections one after the other.
use mathlib.Core.Path.{◌≡◌, refl, sym, ap, ◌∙◌}
use Prim.Native.Nat.{ℕ, ◌+◌, ◌-◌, ◌≤◌}
use native.Mathlib.Omega.{arith}
use mathlib.Core.Bool.{Bool, true, false, ◌||◌}
use mathlib.Core.List.{List, [], ◌∷◌, ◌++◌, map}
use lib.ListN.{length, replicate, length-append}
use lib.Dec.{leb}
use borrow.Author.Tests.{leb-true, leb-false, le-leb, lt-leb}
use Rattle.base.specs.Pick.{pick}
use Rattle.format.specs.Span.{joined}
use Rattle.format.specs.Sector.{Sector}
use Rattle.format.specs.Written.{written_sector, gap_after, reach, written_spans}
use Rattle.format.specs.Together.{Correction, replaced_by}
use Rattle.base.proofs.Tests.{cases, false-true}
use Rattle.format.proofs.Written.WrittenSpans.{length_written_spans}
use Rattle.format.proofs.Correct.Replaced.{named, named_either, replaced_named, replaced_other}

-- One of the sectors is hit.
unfoldable pub any_hit : (Sector → Bool) → List Sector → Bool
any_hit hit [] = false
any_hit hit (s ∷ ss) = hit s || any_hit hit ss

-- A correction does not change whether a sector is named.
pub any_replaced : (a b : Correction) (ss : List Sector) → any_hit (named b) (map (replaced_by a) ss) ≡ any_hit (named b) ss
unfolding any_hit
any_replaced a b [] = refl
any_replaced a b (s ∷ ss) = rw (replaced_named a b s, any_replaced a b ss)

module _ (gap : ℕ → ℕ → ℕ) where
  -- The spans gs up to the first sector that is hit, and from there the sectors ss in first-written form.
  unfoldable pub relaid : (Sector → Bool) → List (List ℕ) → List Sector → List (List ℕ)
  relaid hit [] ss = []
  relaid hit (g ∷ gs) [] = g ∷ gs
  relaid hit (g ∷ gs) (s ∷ ss) = let r = relaid hit gs ss in pick (hit s) (written_spans gap (length (joined (g ∷ gs))) (s ∷ ss)) (g ∷ r)

  -- They have room: the last block ends no later than 13 cells before index.
  unfoldable pub room : (Sector → Bool) → List (List ℕ) → List Sector → Bool
  room hit [] ss = false
  room hit (g ∷ gs) [] = false
  room hit (g ∷ gs) (s ∷ ss) = let r = room hit gs ss in pick (hit s) (leb (reach gap (s ∷ ss) + 13) (length (joined (g ∷ gs)))) r

  -- With room they are as long as the spans were.
  pub length_relaid : (hit : Sector → Bool) (gs : List (List ℕ)) (ss : List Sector) → room hit gs ss ≡ true → length (joined (relaid hit gs ss)) ≡ length (joined gs)
  unfolding relaid room
  length_relaid hit [] ss h = refl
  length_relaid hit (g ∷ gs) [] h = refl
  length_relaid hit (g ∷ gs) (s ∷ ss) h =
      let n : ℕ = length (joined (g ∷ gs)) in
      cases (hit s)
      (λ e. rw e (length_written_spans gap n s ss (omega (arith, leb-true (reach gap (s ∷ ss) + 13) n (rw e at h)))))
      (λ e.
      let ih : length (joined (relaid hit gs ss)) ≡ length (joined gs) = length_relaid hit gs ss (rw e at h) in
      rw e (omega (arith, length-append g (joined (relaid hit gs ss)), length-append g (joined gs), ih)))

  length_kept : (hit : Sector → Bool) (g : List ℕ) (gs : List (List ℕ)) (ss : List Sector) → room hit gs ss ≡ true
      → length (joined (g ∷ relaid hit gs ss)) ≡ length (joined (g ∷ gs))
  length_kept hit g gs ss h = omega (arith, length-append g (joined (relaid hit gs ss)), length-append g (joined gs), length_relaid hit gs ss h)

  leb_sub : (a b r n : ℕ) → a + b ≤ n → leb (r + 13) (n - (a + b)) ≡ leb (a + (b + r) + 13) n
  leb_sub a b r n h =
      cases (leb (r + 13) (n - (a + b)))
      (λ e. e ∙ sym (le-leb (a + (b + r) + 13) n (omega (arith, leb-true (r + 13) (n - (a + b)) e))))
      (λ e. e ∙ sym (lt-leb (a + (b + r) + 13) n (omega (arith, leb-false (r + 13) (n - (a + b)) e))))

  -- A change f of the sectors that are hit, after which the same ones are hit.
  module _ (hit : Sector → Bool) (f : Sector → Sector) (keeps : (s : Sector) → hit (f s) ≡ hit s) (other : (s : Sector) → hit s ≡ false → f s ≡ s) where
    -- Written spans that are written afresh from a sector on are written spans.
    relaid_written : (n : ℕ) (ss : List Sector) → reach gap ss ≤ n → relaid hit (written_spans gap n ss) (map f ss) ≡ written_spans gap n (map f ss)
    unfolding relaid written_spans reach
    relaid_written n [] h = refl
    relaid_written n (s ∷ []) h =
        rw (keeps s)
        (cases (hit s)
        (λ e. rw e (ap (λ (k : ℕ). written_spans gap k (f s ∷ [])) (length_written_spans gap n s [] h)))
        (λ e. rw (e, other s e)))
    relaid_written n (s ∷ r ∷ ss) h =
        rw (keeps s)
        (cases (hit s)
        (λ e. rw e (ap (λ (k : ℕ). written_spans gap k (map f (s ∷ r ∷ ss))) (length_written_spans gap n s (r ∷ ss) h)))
        (λ e. rw (e, other s e)
        (ap (λ (gs : List (List ℕ)). (written_sector s ++ replicate (gap_after gap s) 0xFF) ∷ gs)
        (relaid_written (n - (length (written_sector s) + gap_after gap s)) (r ∷ ss) (omega arith)))))

    -- They have room exactly when the changed sectors have.
    room_written : (n : ℕ) (s : Sector) (ss : List Sector) → reach gap (s ∷ ss) ≤ n → any_hit hit (s ∷ ss) ≡ true
        → room hit (written_spans gap n (s ∷ ss)) (map f (s ∷ ss)) ≡ leb (reach gap (map f (s ∷ ss)) + 13) n
    unfolding room written_spans reach any_hit
    room_written n s [] h a =
        rw (keeps s)
        (cases (hit s)
        (λ e. rw (e, length_written_spans gap n s [] h))
        (λ e. false-true (rw e at a)))
    room_written n s (r ∷ ss) h a =
        rw (keeps s)
        (cases (hit s)
        (λ e. rw (e, length_written_spans gap n s (r ∷ ss) h))
        (λ e. rw (e, other s e)
        (room_written (n - (length (written_sector s) + gap_after gap s)) r ss (omega arith) (rw e at a)
        ∙ leb_sub (length (written_sector s)) (gap_after gap s) (reach gap (map f (r ∷ ss))) n (omega arith))))

    module _ (before : Sector → Bool) (stays : (s : Sector) → before (f s) ≡ before s) where
      -- Writing afresh from the first sector of a kind on and then, with the sectors changed, from the first that is hit, is writing afresh from the left one of the two.
      pub relaid_again : (gs : List (List ℕ)) (ss : List Sector) → room before gs ss ≡ true
          → relaid hit (relaid before gs ss) (map f ss) ≡ relaid (λ s. before s || hit s) gs (map f ss)
      unfolding relaid room
      relaid_again [] ss h = refl
      relaid_again (g ∷ gs) [] h = refl
      relaid_again (g ∷ gs) (s ∷ ss) h =
          let n : ℕ = length (joined (g ∷ gs)) in
          cases (before s)
          (λ d. rw (stays s, d) (relaid_written n (s ∷ ss) (omega (arith, leb-true (reach gap (s ∷ ss) + 13) n (rw d at h)))))
          (λ d. cases (hit s)
          (λ e. rw (stays s, d, keeps s, e) (ap (λ (k : ℕ). written_spans gap k (map f (s ∷ ss))) (length_kept before g gs ss (rw d at h))))
          (λ e. rw (stays s, d, keeps s, e) (ap (λ (ks : List (List ℕ)). g ∷ ks) (relaid_again gs ss (rw d at h)))))

      -- The second writing has room exactly when that one has.
      room_again : (gs : List (List ℕ)) (ss : List Sector) → room before gs ss ≡ true → any_hit hit ss ≡ true
          → room hit (relaid before gs ss) (map f ss) ≡ room (λ s. before s || hit s) gs (map f ss)
      unfolding relaid room any_hit
      room_again [] ss h p = refl
      room_again (g ∷ gs) [] h p = refl
      room_again (g ∷ gs) (s ∷ ss) h p =
          let n : ℕ = length (joined (g ∷ gs)) in
          cases (before s)
          (λ d. rw (stays s, d) (room_written n s ss (omega (arith, leb-true (reach gap (s ∷ ss) + 13) n (rw d at h))) p))
          (λ d. cases (hit s)
          (λ e. rw (stays s, d, keeps s, e) (ap (leb (reach gap (map f (s ∷ ss)) + 13)) (length_kept before g gs ss (rw d at h))))
          (λ e. rw (stays s, d, keeps s, e) (room_again gs ss (rw d at h) (rw e at p))))

  module _ (a b : Correction) (gs : List (List ℕ)) (ss : List Sector) (h : room (named a) gs (map (replaced_by a) ss) ≡ true) where
    -- Two corrections, one after the other, write afresh from the left one of their sectors.
    pub relaid_relaid : relaid (named b) (relaid (named a) gs (map (replaced_by a) ss)) (map (replaced_by b) (map (replaced_by a) ss))
        ≡ relaid (named_either a b) gs (map (replaced_by b) (map (replaced_by a) ss))
    unfolding named_either
    relaid_relaid = relaid_again (named b) (replaced_by b) (replaced_named b b) (replaced_other b) (named a) (replaced_named b a) gs (map (replaced_by a) ss) h

    -- The second of them has room exactly when that has.
    pub room_relaid : any_hit (named b) ss ≡ true
        → room (named b) (relaid (named a) gs (map (replaced_by a) ss)) (map (replaced_by b) (map (replaced_by a) ss))
        ≡ room (named_either a b) gs (map (replaced_by b) (map (replaced_by a) ss))
    unfolding named_either
    room_relaid p =
        room_again (named b) (replaced_by b) (replaced_named b b) (replaced_other b) (named a) (replaced_named b a) gs (map (replaced_by a) ss) h (any_replaced a b ss ∙ p)
