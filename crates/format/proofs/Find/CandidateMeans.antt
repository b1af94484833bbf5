-- What the candidates of a track are: exactly the counts that open, lie in their spans and pass their checks.
use mathlib.Core.Path.{◌≡◌, refl, sym, ap, ◌∙◌, subst}
use mathlib.Core.Logic.{inl, inr, ⊎_elim}
use Prim.Native.Nat.{ℕ, zero, suc, ◌+◌}
use native.Mathlib.Omega.{arith}
use mathlib.Core.Bool.{Bool, true, false, ◌||◌}
use mathlib.Core.List.{List, [], ◌∷◌}
use lib.ListN.{drop}
use lib.Seq.{drop-nil}
use lib.Dec.{eqb}
use borrow.Author.Tests.{eqb-true, eq-eqb}
use Rattle.format.specs.Judged.{Judged, good, refused}
use Rattle.format.specs.Opening.{starts_with, plain_opening, opens}
use Rattle.format.specs.Home.{find_home, first_count_place}
use Rattle.format.specs.Span.{runs_to_index, span_rest}
use Rattle.format.specs.Sector.{opening_length}
use Rattle.format.specs.Candidate.{Candidate, first_opens_at, candidate_at, count_passes, stands_at, candidates_from, candidates}
use Rattle.base.proofs.Tests.{cases, false-true, and_both, and_make}
use Rattle.format.proofs.Cells.Opening.{opens_front}
use Rattle.base.specs.Lists.{Member}

-- A count opens at place p of the track c: sector 0's 11 bytes after a home that opens, any other by a whole marked opening.
abbrev pub CountOpens : List ℕ → Bool → ℕ → Type 0
CountOpens c true p = (h : ℕ) × (find_home c ≡ good h) × (p ≡ first_count_place h) × (starts_with plain_opening (drop p c) ≡ true)
CountOpens c false p = opens (drop p c) ≡ true

-- x is a count that opens on the track c; what follows the opening is taken to the end of its span, and there the count passes.
pub record IsCandidate (c : List ℕ) (x : Candidate) : Type 0 where
  pub opened : CountOpens c x.first x.place
  pub last_is : x.last ≡ runs_to_index (opening_length x.first) (drop x.place c)
  pub rest_is : x.rest ≡ span_rest (opening_length x.first) (drop x.place c)
  pub passes : count_passes x ≡ true

-- x stands k cells behind the place p at which c starts.
record StandsBehind (h : Judged ℕ) (p : ℕ) (c : List ℕ) (x : Candidate) : Type 0 where
  pub skipped : ℕ
  pub at : ℕ
  pub at_is : at ≡ p + skipped
  pub stands : stands_at h at (drop skipped c) ≡ true
  pub is : x ≡ candidate_at (first_opens_at h at (drop skipped c)) at (drop skipped c)

stands_later : (h : Judged ℕ) (p y : ℕ) (c : List ℕ) (x : Candidate) → StandsBehind h (suc p) c x → StandsBehind h p (y ∷ c) x
stands_later h p y c x b = record { skipped = suc b.skipped; at = b.at; at_is = omega (arith, b.at_is); stands = b.stands; is = b.is }

member_stands : (h : Judged ℕ) (p : ℕ) (c : List ℕ) (x : Candidate) → Member x (candidates_from h p c) → StandsBehind h p c x
unfolding candidates_from
member_stands h p [] x m = absurd m
member_stands h p (y ∷ c) x m =
    cases (stands_at h p (y ∷ c))
    (λ e. ⊎_elim {C = StandsBehind h p (y ∷ c) x}
    (λ (q : x ≡ candidate_at (first_opens_at h p (y ∷ c)) p (y ∷ c)). record { skipped = 0; at = p; at_is = omega arith; stands = e; is = q })
    (λ (n : Member x (candidates_from h (suc p) c)). stands_later h p y c x (member_stands h (suc p) c x n))
    (rw e at m))
    (λ e. stands_later h p y c x (member_stands h (suc p) c x (rw e at m)))

nothing_stands : (h : Judged ℕ) (p : ℕ) → stands_at h p [] ≡ false
unfolding stands_at first_opens_at opens
nothing_stands (good k) p = cases (eqb p (first_count_place k)) (λ e. rw e) (λ e. rw e)
nothing_stands (refused a) p = refl

stands_member : (h : Judged ℕ) (p : ℕ) (c : List ℕ) (x : Candidate) (k q : ℕ) → q ≡ p + k → stands_at h q (drop k c) ≡ true → x ≡ candidate_at (first_opens_at h q (drop k c)) q (drop k c)
    → Member x (candidates_from h p c)
unfolding candidates_from
stands_member h p [] x k q e s i = false-true (sym (nothing_stands h q) ∙ subst (λ (d : List ℕ). stands_at h q d ≡ true) (drop-nil k) s)
stands_member h p (y ∷ c) x zero q e s i =
    let f : q ≡ p = omega arith in
    rw (subst (λ (r : ℕ). stands_at h r (y ∷ c) ≡ true) f s) (inl (subst (λ (r : ℕ). x ≡ candidate_at (first_opens_at h r (y ∷ c)) r (y ∷ c)) f i))
stands_member h p (y ∷ c) x (suc k) q e s i =
    let m : Member x (candidates_from h (suc p) c) = stands_member h (suc p) c x k q (omega arith) s i in
    cases (stands_at h p (y ∷ c)) (λ b. rw b (inr m)) (λ b. rw b m)

-- Where sector 0's count opens no marked opening stands.
plain_marked : (c : List ℕ) → opens c ≡ true → starts_with plain_opening c ≡ false
plain_marked c o = ap (starts_with plain_opening) (opens_front c o)

-- Whether it is sector 0's count that opens is settled by the place.
opens_first_lem : (c : List ℕ) (first : Bool) (p : ℕ) → CountOpens c first p → first_opens_at (find_home c) p (drop p c) ≡ first
unfolding first_opens_at
opens_first_lem c true p o = rw (o.1, eq-eqb p (first_count_place o.0) o.2) o.3
opens_first_lem c false p o = go (find_home c)
  where
    go : (j : Judged ℕ) → first_opens_at j p (drop p c) ≡ false
    go (refused a) = refl
    go (good h) = rw (plain_marked (drop p c) o) (cases (eqb p (first_count_place h)) (λ e. rw e) (λ e. rw e))

first_opens : (c : List ℕ) (p : ℕ) → first_opens_at (find_home c) p (drop p c) ≡ true → CountOpens c true p
unfolding first_opens_at
first_opens c p e = go (find_home c) refl e
  where
    go : (j : Judged ℕ) → find_home c ≡ j → first_opens_at j p (drop p c) ≡ true → CountOpens c true p
    go (refused a) f q = false-true q
    go (good h) f q = let k = and_both (eqb p (first_count_place h)) (starts_with plain_opening (drop p c)) q in (h, f, eqb-true p (first_count_place h) k.0, k.1)

stands_opened : (c : List ℕ) (p : ℕ) → stands_at (find_home c) p (drop p c) ≡ true → CountOpens c (first_opens_at (find_home c) p (drop p c)) p
unfolding stands_at
stands_opened c p s =
    let b : Bool = first_opens_at (find_home c) p (drop p c) in
    let k = and_both (b || opens (drop p c)) (count_passes (candidate_at b p (drop p c))) s in
    cases b
    (λ e. rw e (first_opens c p e))
    (λ e. rw e (rw e at k.0))

at_means : (c : List ℕ) (p : ℕ) → stands_at (find_home c) p (drop p c) ≡ true → IsCandidate c (candidate_at (first_opens_at (find_home c) p (drop p c)) p (drop p c))
unfolding stands_at candidate_at
at_means c p s =
    let b : Bool = first_opens_at (find_home c) p (drop p c) in
    record {
      opened = stands_opened c p s;
      last_is = refl;
      rest_is = refl;
      passes = (and_both (b || opens (drop p c)) (count_passes (candidate_at b p (drop p c))) s).1;
    }

-- Each candidate of a track opens, lies in its span and passes its check.
pub candidate_means : (c : List ℕ) (x : Candidate) → Member x (candidates c) → IsCandidate c x
unfolding candidates
candidate_means c x m =
    let b = member_stands (find_home c) 0 c x m in
    let p : ℕ = b.at in
    let f : b.skipped ≡ p = omega (arith, b.at_is) in
    let s : stands_at (find_home c) p (drop p c) ≡ true = subst (λ (k : ℕ). stands_at (find_home c) p (drop k c) ≡ true) f b.stands in
    let i : x ≡ candidate_at (first_opens_at (find_home c) p (drop p c)) p (drop p c) = subst (λ (k : ℕ). x ≡ candidate_at (first_opens_at (find_home c) p (drop k c)) p (drop k c)) f b.is in
    subst (IsCandidate c) (sym i) (at_means c p s)

opened_any : (c : List ℕ) (first : Bool) (p : ℕ) → CountOpens c first p → (first || opens (drop p c)) ≡ true
opened_any c true p o = refl
opened_any c false p o = o

-- And each count that does is a candidate.
pub means_candidate : (c : List ℕ) (x : Candidate) → IsCandidate c x → Member x (candidates c)
unfolding candidates stands_at candidate_at
means_candidate c x v =
    let p : ℕ = x.place in
    let d : List ℕ = drop p c in
    let f : first_opens_at (find_home c) p d ≡ x.first = opens_first_lem c x.first p v.opened in
    let i : candidate_at x.first p d ≡ x = λ j. record { place = p; first = x.first; last = sym v.last_is j; rest = sym v.rest_is j } in
    let s : stands_at (find_home c) p d ≡ true = rw f (and_make (opened_any c x.first p v.opened) (ap count_passes i ∙ v.passes)) in
    stands_member (find_home c) 0 c x p p (omega arith) s (rw f (sym i))
