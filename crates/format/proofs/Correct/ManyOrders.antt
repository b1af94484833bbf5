-- Any number of corrections of sectors of different number by one rule of the gap: every order of them that is done gives the same track.
use mathlib.Core.Path.{◌≡◌, refl, sym, ap, ap₂, ◌∙◌, subst}
use Prim.Native.Nat.{ℕ}
use mathlib.Core.Bool.{Bool, true, false, ◌||◌}
use mathlib.Core.List.{List, [], ◌∷◌, ◌++◌, map, map-map, map-id, Permᴰ}
use lib.ListN.{length, take}
use Rattle.base.specs.Pick.{pick}
use Rattle.format.specs.Judged.{Judged, good, then}
use Rattle.format.specs.Home.{Home, first_count_place}
use Rattle.format.specs.Span.{joined}
use Rattle.format.specs.Sector.{Sector}
use Rattle.format.specs.Accept.{Accepted, spans_of, accept_cells, sectors_of}
use Rattle.format.specs.GapRule.{GapRule, gap_by}
use Rattle.format.specs.Correct.{with_content}
use Rattle.format.specs.Together.{Correction, replaced_by, corrected}
use Rattle.format.proofs.Base.Judged.{good_inj, then_good}
use Rattle.base.proofs.Tests.{cases, false-true, or_swap}
use Rattle.format.proofs.Correct.Replaced.{Bytes, named, named_number, named_apart, replaced_number, replaced_one, replaced_other}
use Rattle.format.proofs.Correct.Relaid.{relaid, relaid_again}
use Rattle.format.proofs.Track.AcceptedSpans.{Track, accepted_track}
use Rattle.format.proofs.Correct.Corrected.{Done, corrected_done, done_track}
use Rattle.format.proofs.Correct.Orders.{correct_accepted}

-- P holds of every correction of the list.
abbrev pub Every : (Correction → Type 0) → List Correction → Type 0
Every P [] = Unit {0}
Every P (x ∷ xs) = P x × Every P xs

-- Two corrections have different numbers.
abbrev pub Apart : Correction → Correction → Type 0
Apart x y = x.number ≡ y.number → ⊥

-- The numbers of the corrections are pairwise different.
abbrev pub AllApart : List Correction → Type 0
AllApart [] = Unit {0}
AllApart (x ∷ xs) = Every (Apart x) xs × AllApart xs

-- One of the corrections names the sector s.
unfoldable pub named_any : List Correction → Sector → Bool
named_any [] s = false
named_any (x ∷ xs) s = named x s || named_any xs s

-- The sector s with the key and data of the correction that names it; as it is if none does.
unfoldable pub with_own : List Correction → Sector → Sector
with_own [] s = s
with_own (x ∷ xs) s = let r = with_own xs s in pick (named x s) (with_content x.key x.body s) r

module _ (rule : GapRule) where
  -- The corrections one after the other, each on the track that the one before it wrote.
  unfoldable pub in_turn : List ℕ → List Correction → Judged (List ℕ)
  in_turn c [] = good c
  in_turn c (x ∷ xs) = then (corrected rule c x) (λ d. in_turn d xs)

any_number : (xs : List Correction) (s r : Sector) → s.number ≡ r.number → named_any xs s ≡ named_any xs r
unfolding named_any
any_number [] s r e = refl
any_number (x ∷ xs) s r e = ap₂ (λ (p q : Bool). p || q) (named_number x s r e) (any_number xs s r e)

own_number : (xs : List Correction) (s : Sector) → (with_own xs s).number ≡ s.number
unfolding with_own with_content
own_number [] s = refl
own_number (x ∷ xs) s = cases (named x s) (λ e. rw e) (λ e. rw e (own_number xs s))

-- A sector that none of the corrections names stays.
own_other : (xs : List Correction) (s : Sector) → named_any xs s ≡ false → with_own xs s ≡ s
unfolding named_any with_own
own_other [] s n = refl
own_other (x ∷ xs) s n = cases (named x s) (λ e. false-true (sym (rw e at n))) (λ e. rw e (own_other xs s (rw e at n)))

apart_any : (x : Correction) (xs : List Correction) → Every (Apart x) xs → (s : Sector) → named x s ≡ true → named_any xs s ≡ false
unfolding named_any
apart_any x [] v s e = refl
apart_any x (y ∷ ys) v s e = rw (named_apart x y v.0 s e) (apart_any x ys v.1 s e)

-- The first correction, and the others on what it gives, are all of them.
own_cons : (x : Correction) (xs : List Correction) → Every (Apart x) xs → (s : Sector) → with_own xs (replaced_by x s) ≡ with_own (x ∷ xs) s
unfolding with_own
own_cons x xs v s =
    cases (named x s)
    (λ e. rw e (own_other xs (replaced_by x s) (any_number xs (replaced_by x s) s (replaced_number x s) ∙ apart_any x xs v s e) ∙ replaced_one x s e))
    (λ e. rw e (ap (with_own xs) (replaced_other x s e)))

map_own : (x : Correction) (xs : List Correction) → Every (Apart x) xs → (ss : List Sector) → map (with_own xs) (map (replaced_by x) ss) ≡ map (with_own (x ∷ xs)) ss
map_own x xs v ss = map-map (with_own xs) (replaced_by x) ss ∙ (λ i. map (λ s. own_cons x xs v s i) ss)

-- What holds of every correction does so in every order.
every_perm : (P : Correction → Type 0) {xs ys : List Correction} → Permᴰ xs ys → Every P xs → Every P ys
every_perm P Permᴰ.nil v = v
every_perm P (Permᴰ.cons e p) v = (subst P e v.0, every_perm P p v.1)
every_perm P (Permᴰ.swap e f) v = (subst P f v.1.0, (subst P e v.0, v.1.1))
every_perm P (Permᴰ.trans p q) v = every_perm P q (every_perm P p v)

apart_perm : {xs ys : List Correction} → Permᴰ xs ys → AllApart xs → AllApart ys
apart_perm Permᴰ.nil v = v
apart_perm (Permᴰ.cons {b = b} {l₁ = xs} e p) v = (every_perm (Apart b) p (subst (λ (z : Correction). Every (Apart z) xs) e v.0), apart_perm p v.1)
apart_perm (Permᴰ.swap {l = xs} e f) v = (
  (
    λ q. v.0.0 (ap (λ (z : Correction). z.number) e ∙ sym q ∙ ap (λ (z : Correction). z.number) (sym f)),
    subst (λ (z : Correction). Every (Apart z) xs) f v.1.0,
  ),
  (subst (λ (z : Correction). Every (Apart z) xs) e v.0.1, v.1.1),
)
apart_perm (Permᴰ.trans p q) v = apart_perm q (apart_perm p v)

any_perm : {xs ys : List Correction} → Permᴰ xs ys → (s : Sector) → named_any xs s ≡ named_any ys s
unfolding named_any
any_perm Permᴰ.nil s = refl
any_perm (Permᴰ.cons e p) s = ap₂ (λ (x : Correction) (r : Bool). named x s || r) e (any_perm p s)
any_perm (Permᴰ.swap {a = x} {b = y} {l = xs} e f) s =
    or_swap (named x s) (named y s) (named_any xs s) ∙ ap₂ (λ (v w : Correction). named v s || (named w s || named_any xs s)) f e
any_perm (Permᴰ.trans p q) s = any_perm p s ∙ any_perm q s

own_swap : (x y : Correction) (xs : List Correction) → Apart x y → (s : Sector) → with_own (x ∷ y ∷ xs) s ≡ with_own (y ∷ x ∷ xs) s
unfolding with_own
own_swap x y xs ne s = cases (named x s) (λ e. rw (e, named_apart x y ne s e)) (λ e. rw e)

own_perm : {xs ys : List Correction} → Permᴰ xs ys → AllApart xs → (s : Sector) → with_own xs s ≡ with_own ys s
unfolding with_own
own_perm Permᴰ.nil v s = refl
own_perm (Permᴰ.cons e p) v s =
    ap₂ (λ (x : Correction) (r : Sector). pick (named x s) (with_content x.key x.body s) r) e (own_perm p v.1 s)
own_perm (Permᴰ.swap {a = x} {b = y} {l = xs} e f) v s = own_swap x y xs v.0.0 s ∙ ap₂ (λ (u w : Correction). with_own (u ∷ w ∷ xs) s) f e
own_perm (Permᴰ.trans p q) v s = own_perm p v s ∙ own_perm q (apart_perm p v) s

relaid_none : (gap : ℕ → ℕ → ℕ) (hit : Sector → Bool) → ((s : Sector) → hit s ≡ false) → (gs : List (List ℕ)) (ss : List Sector) → relaid gap hit gs ss ≡ gs
unfolding relaid
relaid_none gap hit never [] ss = refl
relaid_none gap hit never (g ∷ gs) [] = refl
relaid_none gap hit never (g ∷ gs) (s ∷ ss) = rw (never s) (ap (λ (ks : List (List ℕ)). g ∷ ks) (relaid_none gap hit never gs ss))

module _ (rule : GapRule) where
  abbrev gap : ℕ → ℕ → ℕ
  gap = gap_by rule

  -- Corrections that are done one after the other keep the spans up to the leftmost of their sectors and write afresh from there.
  pub in_turn_spans : (head : List ℕ) (h : Home) (xs : List Correction) → AllApart xs → Every Bytes xs
      → (gs : List (List ℕ)) (ss : List Sector) → Track head h gs ss → (d : List ℕ) → in_turn rule (head ++ joined gs) xs ≡ good d
      → head ++ joined (relaid gap (named_any xs) gs (map (with_own xs) ss)) ≡ d
  unfolding in_turn named_any
  in_turn_spans head h [] v b gs ss t d e =
      ap (λ (ks : List (List ℕ)). head ++ joined ks) (relaid_none gap (named_any []) (λ s. refl) gs (map (with_own []) ss)) ∙ good_inj _ d e
  in_turn_spans head h (x ∷ xs) v b gs ss t d e =
      let k = then_good (corrected rule (head ++ joined gs) x) (λ z. in_turn rule z xs) d e in
      let r : Done rule head h gs ss t x k.0 = corrected_done rule head h gs ss t x k.0 k.1 in
      let one : List Sector = map (replaced_by x) ss in
      let ks : List (List ℕ) = relaid gap (named x) gs one in
      let u : Track head h ks one = done_track rule head h gs ss t x k.0 b.0 r in
      let again : relaid gap (named_any xs) ks (map (with_own xs) one) ≡ relaid gap (named_any (x ∷ xs)) gs (map (with_own xs) one) =
      relaid_again gap (named_any xs) (with_own xs) (λ s. any_number xs (with_own xs s) s (own_number xs s)) (own_other xs)
      (named x) (λ s. named_number x (with_own xs s) s (own_number xs s)) gs one r.enough in
      ap (λ (zs : List (List ℕ)). head ++ joined zs) (ap (relaid gap (named_any (x ∷ xs)) gs) (sym (map_own x xs v.0 ss)) ∙ sym again)
      ∙ in_turn_spans head h xs v.1 b.1 ks one u d (ap (λ (z : List ℕ). in_turn rule z xs) r.becomes ∙ k.2)

  -- Two orders of the same corrections by one rule of the gap, of pairwise different numbers, that are both done on an accepted track give the same track.
  pub orders_agree : (c : List ℕ) (a : Accepted) → accept_cells c ≡ good a → (xs ys : List Correction) → Permᴰ xs ys → AllApart xs → Every Bytes xs
      → (d e : List ℕ) → in_turn rule c xs ≡ good d → in_turn rule c ys ≡ good e → d ≡ e
  orders_agree c a k xs ys p v b d e i j =
      let h : Home = a.home in
      let head : List ℕ = take (first_count_place h.place) c in
      let gs : List (List ℕ) = spans_of h c in
      let w = accepted_track c a k in
      let ss : List Sector = w.0 in
      let t : Track head h gs ss = w.1 in
      let same : relaid gap (named_any xs) gs (map (with_own xs) ss) ≡ relaid gap (named_any ys) gs (map (with_own ys) ss) =
      λ r. relaid gap (λ s. any_perm p s r) gs (map (λ s. own_perm p v s r) ss) in
      sym (in_turn_spans head h xs v b gs ss t d (ap (λ (z : List ℕ). in_turn rule z xs) w.2 ∙ i))
      ∙ ap (λ (zs : List (List ℕ)). head ++ joined zs) same
      ∙ in_turn_spans head h ys (apart_perm p v) (every_perm Bytes p b) gs ss t e (ap (λ (z : List ℕ). in_turn rule z ys) w.2 ∙ j)

  -- The track after corrections that are done one after the other is accepted with the same home and with its sectors, each with its own correction if it has one,
  -- and is as long as before.
  pub in_turn_accepted : (xs : List Correction) → AllApart xs → Every Bytes xs → (c : List ℕ) (a : Accepted) → accept_cells c ≡ good a → (d : List ℕ) → in_turn rule c xs ≡ good d
      → (b : Accepted) × (accept_cells d ≡ good b) × (b.home ≡ a.home) × (sectors_of b.sectors ≡ map (with_own xs) (sectors_of a.sectors))
      × (length d ≡ length c)
  unfolding in_turn with_own
  in_turn_accepted [] v b c a k d e =
      let q : c ≡ d = good_inj c d e in
      (a, ap accept_cells (sym q) ∙ k, refl, sym (map-id (sectors_of a.sectors)), ap length (sym q))
  in_turn_accepted (x ∷ xs) v b c a k d e =
      let i = then_good (corrected rule c x) (λ z. in_turn rule z xs) d e in
      let m = correct_accepted rule c a k x b.0 i.0 i.1 in
      let n = in_turn_accepted xs v.1 b.1 i.0 m.0 m.1 d i.2 in
      (n.0, n.1, n.2 ∙ m.2, n.3 ∙ ap (map (with_own xs)) m.3 ∙ map_own x xs v.0 (sectors_of a.sectors), n.4 ∙ m.4)
