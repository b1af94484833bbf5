-- Laws of the places that the search for candidates passes: no count opens there.
use mathlib.Core.Path.{◌≡◌, refl, sym, ap, ◌∙◌}
use Prim.Native.Nat.{ℕ, zero, suc, ◌+◌, ◌-◌, ◌≤◌, ◌<◌}
use native.Mathlib.Omega.{arith}
use mathlib.Core.Bool.{false}
use mathlib.Core.List.{List, [], ◌∷◌}
use lib.ListN.{length, drop}
use lib.Seq.{drop-drop}
use Rattle.format.specs.Answer.{Answer}
use Rattle.format.specs.Judged.{Judged, good, refused}
use Rattle.format.specs.Opening.{opens}
use Rattle.format.specs.Span.{before_opening}
use Rattle.format.specs.Home.{find_home, first_count_place}
use Rattle.format.specs.Candidate.{first_opens_at, stands_at, candidates_from}
use Rattle.format.proofs.Track.HomeLocal.{found_window}
use Rattle.search.proofs.Openings.{Closed, closed_tail, closed_before}
use Rattle.reader.proofs.CandidateParts.{first_elsewhere}
use Rattle.reader.proofs.CandidateNext.{candidates_at}

-- Sector 0's count opens at none of the places from p to before r, where home opens by h.
abbrev pub FirstElsewhere : Judged ℕ → ℕ → ℕ → Type 0
FirstElsewhere h p r = (s : ℕ) (c : List ℕ) → p ≤ s → s < r → first_opens_at h s c ≡ false

stands_no : (h : Judged ℕ) (p : ℕ) (c : List ℕ) → first_opens_at h p c ≡ false → opens c ≡ false → stands_at h p c ≡ false
unfolding stands_at
stands_no h p c f o = rw (f, o)

-- A place at which none opens is passed,
past_one : (h : Judged ℕ) (p x : ℕ) (c : List ℕ) → stands_at h p (x ∷ c) ≡ false → candidates_from h p (x ∷ c) ≡ candidates_from h (suc p) c
unfolding candidates_from
past_one h p x c e = rw e

past_nil : (h : Judged ℕ) (p q : ℕ) → candidates_from h p [] ≡ candidates_from h q []
unfolding candidates_from
past_nil h p q = refl

-- and so are n of them.
pub candidates_past : (h : Judged ℕ) (n p : ℕ) (c : List ℕ) → Closed n c → FirstElsewhere h p (p + n) → candidates_from h p c ≡ candidates_from h (p + n) (drop n c)
candidates_past h zero p c k f = ap (λ (q : ℕ). candidates_from h q c) (omega arith)
candidates_past h (suc n) p [] k f = past_nil h p (p + suc n)
candidates_past h (suc n) p (x ∷ c) k f =
    past_one h p x c (stands_no h p (x ∷ c) (f p (x ∷ c) (omega arith) (omega arith)) (k 0 (omega arith)))
    ∙ candidates_past h n (suc p) c (closed_tail n x c k) (λ s b l u. f s b (omega arith) (omega arith))
    ∙ ap (λ (q : ℕ). candidates_from h q (drop n c)) (omega arith)

-- The candidates from place p on of the cells c are those from place r on, before which no marked opening stands.
pub places_past : (h : Judged ℕ) (p r : ℕ) (c : List ℕ) → p ≤ r → r ≤ p + length (before_opening (drop p c)) → FirstElsewhere h p r → candidates_at h p c ≡ candidates_at h r c
places_past h p r c l u f =
    let n : p + (r - p) ≡ r = omega arith in
    candidates_past h (r - p) p (drop p c) (λ i k. closed_before (drop p c) i (omega arith)) (λ s b i k. f s b i (omega arith))
    ∙ ap (candidates_from h (p + (r - p))) (drop-drop (r - p) p c)
    ∙ ap (λ (q : ℕ). candidates_from h q (drop q c)) n

-- Sector 0's count opens nowhere without home,
pub first_nowhere : (a : Answer) (p r : ℕ) → FirstElsewhere (refused a) p r
unfolding first_opens_at
first_nowhere a p r s c l u = refl

-- and with home at no place but its own.
pub first_outside : (h p r : ℕ) → (p ≤ first_count_place h → first_count_place h < r → ⊥) → FirstElsewhere (good h) p r
first_outside h p r n s c l u = first_elsewhere h s c (λ e. n (omega arith) (omega arith))

found_by : (c : List ℕ) (h : ℕ) → find_home c ≡ good h → h ≤ 37
unfolding find_home
found_by c h e = omega (arith, (found_window 15 23 h c e).1)

-- The first place at p or later of the cells c at which a marked opening stands is q.
module _ (p q : ℕ) (c : List ℕ) (so : q ≡ p + length (before_opening (drop p c))) where
  -- No count opens before it without home,
  pub place_nowhere : (a : Answer) → (p ≤ q) × (candidates_at (refused a) p c ≡ candidates_at (refused a) q c)
  place_nowhere a = (omega arith, places_past (refused a) p q c (omega arith) (omega arith) (first_nowhere a p q))

  -- nor where sector 0's place lies elsewhere,
  pub place_marked : (h : ℕ) → (p ≤ first_count_place h → first_count_place h < q → ⊥) → (p ≤ q) × (candidates_at (good h) p c ≡ candidates_at (good h) q c)
  place_marked h n = (omega arith, places_past (good h) p q c (omega arith) (omega arith) (first_outside h p q n))

  -- and none opens before sector 0's place where that lies before it.
  pub place_first : (h : ℕ) → p ≤ first_count_place h → first_count_place h < q
      → (p ≤ first_count_place h) × (candidates_at (good h) p c ≡ candidates_at (good h) (first_count_place h) c)
  place_first h l u =
      (l, places_past (good h) p (first_count_place h) c l (omega arith) (first_outside h p (first_count_place h) (λ i k. omega arith)))

-- Behind sector 0's place the candidates do not depend on home.
elsewhere_same : (h j : Judged ℕ) (p : ℕ) (c : List ℕ) → ((s : ℕ) (d : List ℕ) → p ≤ s → first_opens_at h s d ≡ first_opens_at j s d) → candidates_from h p c ≡ candidates_from j p c
unfolding candidates_from stands_at
elsewhere_same h j p [] f = refl
elsewhere_same h j p (x ∷ c) f = rw (f p (x ∷ c) (omega arith), elsewhere_same h j (suc p) c (λ s d l. f s d (omega arith)))

-- Behind the last place of sector 0's count the cells c have the candidates of a track without home.
pub home_behind : (p : ℕ) (c : List ℕ) (a : Answer) → 62 < p → candidates_at (refused a) p c ≡ candidates_at (find_home c) p c
home_behind p c a l = elsewhere_same (refused a) (find_home c) p (drop p c) (λ s d k. sym (passed (find_home c) refl s d k))
  where
    passed : (j : Judged ℕ) → find_home c ≡ j → (s : ℕ) (d : List ℕ) → p ≤ s → first_opens_at j s d ≡ first_opens_at (refused a) s d
    passed (refused b) e s d k = first_nowhere b p (suc s) s d k (omega arith) ∙ sym (first_nowhere a p (suc s) s d k (omega arith))
    passed (good h) e s d k =
        first_outside h p (suc s) (λ i u. omega (arith, found_by c h e)) s d k (omega arith)
        ∙ sym (first_nowhere a p (suc s) s d k (omega arith))
