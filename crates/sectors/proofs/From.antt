-- The sectors of an accepted track from a place on, as a loop steps over them.
use mathlib.Core.Path.{◌≡◌, refl, sym, ap, ap₂, ◌∙◌, subst}
use Prim.Native.Nat.{ℕ, suc, ◌+◌, ◌≤◌, ◌<◌}
use native.Mathlib.Omega.{arith}
use mathlib.Core.Bool.{true, false}
use mathlib.Core.List.{List, [], ◌∷◌}
use lib.ListN.{length, take, drop, length-append, length-drop}
use lib.Seq.{drop-drop, drop-append_seam}
use lib.Dec.{leb}
use borrow.Author.Tests.{leb-true}
use Rattle.format.specs.Judged.{good}
use Rattle.format.specs.Lent.{length_right, cells}
use Rattle.format.specs.Home.{Home, first_count_place}
use Rattle.format.specs.Count.{Settled, unsettled}
use Rattle.format.specs.Span.{runs_to_index, span_length, span_rest, joined, none, clean_span, clean_spans}
use Rattle.format.specs.Sector.{Sector, opening_length, is_first, settle, read_span}
use Rattle.format.specs.Accept.{Placed, placed_from, Accepted, spans_of, accept, end_of}
use Rattle.format.specs.Listing.{listed}
use Rattle.base.proofs.Tests.{and_both}
use Rattle.format.proofs.Spans.Shape.{Shape}
use Rattle.format.proofs.Spans.Cutting.{joined_spans, shape_tail}
use Rattle.format.proofs.Track.HomeLocal.{home_window}
use Rattle.format.proofs.Spans.SpanAgrees.{span_agrees}
use Rattle.format.proofs.Sector.ReadSector.{rest_of, read_inv, span_least}
use Rattle.format.proofs.Sector.Valid.{FitsCount, info_fits}
use Rattle.format.proofs.Sector.ReadBack.{read_valid}
use Rattle.format.proofs.Sector.ReadsAs.{Reads, none_placed, accepted_by}
use Rattle.format.proofs.Track.AcceptedSpans.{accepted_track}
use Rattle.format.proofs.Track.Pairs.{length_cells, accepted_pair, lent_marks, lent_length}
use Rattle.sector.specs.As.{as_address}
use Rattle.sectors.specs.declared.SectorAt.{SectorAt as SectorCode}
use Rattle.sectors.specs.SectorAt.{SectorAt, last_first_count, opens_first, sector_at, as_sector_at}
use Rattle.sectors.specs.From.{Stepping, SectorsFrom}
use Rattle.sectors.proofs.Rest.{opens_low, opens_high}
use Rattle.sectors.proofs.Stepping.{stepping_made}

-- The span g in position i, at place p, shows its sector.
span_steps : (t m : List ℕ) (h : Home) (i : ℕ) (x : Settled) (p : ℕ) (g : List ℕ) (gs : List (List ℕ)) (s : Sector) → read_span h i x p (none gs) g ≡ good s
    → Shape i (g ∷ gs) → clean_spans i (g ∷ gs) ≡ true → drop p (cells t m) ≡ joined (g ∷ gs) → p ≤ length (cells t m) → length (cells t m) ≤ 4002
    → 48 ≤ p → is_first i ≡ opens_first p → Stepping t m p (record { place = p; span = g; sector = s }) (none gs)
unfolding clean_spans
span_steps t m h i x p g gs s e k c d l w b f =
    let v = read_inv h i x p (none gs) g s e in
    let o : ℕ = opening_length (is_first i) in
    let r : List ℕ = rest_of i g in
    let n = span_least h i x (none gs) g s v in
    let a = span_agrees i g gs k c (omega arith) in
    let u = and_both (clean_span i g) (clean_spans (suc i) gs) c in
    let n' : FitsCount s = info_fits s (read_valid h i x p (none gs) g s u.0 e).count_bytes_holds in
    subst (λ (z : Sector). Stepping t m p (record { place = p; span = g; sector = z }) (none gs)) (sym v.sector_is)
    (stepping_made t m (is_first i) p b f g (none gs) r refl
    (ap (span_length o) d ∙ a.0)
    (ap (span_rest o) d ∙ a.1)
    (ap (runs_to_index o) d ∙ a.2)
    (omega (arith, ap length d, length-drop p (cells t m), length-append g (joined gs)))
    (omega arith)
    (omega (arith, length-drop o g))
    v.blocks_fit_holds
    (subst FitsCount v.sector_is n'))

-- So do all spans that are read.
spans_step : (t m : List ℕ) (h : Home) (i : ℕ) (x : Settled) (p : ℕ) (gs : List (List ℕ)) (ss : List Sector) → Reads h i x p gs ss → Shape i gs → clean_spans i gs ≡ true
    → drop p (cells t m) ≡ joined gs → p ≤ length (cells t m) → length (cells t m) ≤ 4002
    → 48 ≤ p → is_first i ≡ opens_first p → SectorsFrom t m p (placed_from p gs ss)
unfolding placed_from clean_spans
spans_step t m h i x p [] [] e k c d l w b f = omega (arith, ap length d, length-drop p (cells t m))
spans_step t m h i x p [] (s ∷ ss) e k c d l w b f = absurd e
spans_step t m h i x p (g ∷ gs) [] e k c d l w b f = absurd e
spans_step t m h i x p (g ∷ gs) (s ∷ ss) e k c d l w b f =
    let q : ℕ = p + length g in
    let d' : drop q (cells t m) ≡ joined gs = sym (drop-drop (length g) p (cells t m)) ∙ ap (drop (length g)) d ∙ drop-append_seam g (joined gs) in
    let j : q ≤ length (cells t m) = omega (arith, ap length d, length-drop p (cells t m), length-append g (joined gs)) in
    let v = span_steps t m h i x p g gs s e.0 k c d l w b f in (
      subst (Stepping t m p (record { place = p; span = g; sector = s })) (sym (none_placed h (suc i) (settle x s) q gs ss e.1)) v,
      spans_step t m h (suc i) (settle x s) q gs ss e.1 (shape_tail i g gs k) (and_both (clean_span i g) (clean_spans (suc i) gs) c).1 d' j w (omega arith) (sym (opens_high q (omega (arith, v.span_least)))),
    )

-- Where stepping over an accepted track starts.
pub record Started (t m : List ℕ) (a : Accepted) : Type 0 where
  pub steps : SectorsFrom t m (first_count_place a.home.place) a.sectors
  pub some_sector : none a.sectors ≡ false
  pub start_least : 48 ≤ first_count_place a.home.place
  pub start_most : first_count_place a.home.place ≤ last_first_count
  pub cells_length : length (cells t m) ≡ length t
  pub marks_length : length m ≡ length t
  pub length_least : 3815 ≤ length t
  pub length_most : length t ≤ 4002

-- Stepping over an accepted track starts so.
pub accepted_start : (t m : List ℕ) (a : Accepted) → accept t m ≡ good a → Started t m a
unfolding length_right
accepted_start t m a e =
    let b = accepted_pair t m a e in
    let l = lent_length t m b.0 in
    let w = and_both (leb 3815 (length t)) (leb (length t) 4002) l.1 in
    let c : List ℕ = cells t m in
    let p : ℕ = first_count_place a.home.place in
    let v = accepted_track c a b.1 in
    let home = home_window c a.home (accepted_by c a b.1).home_judged in
    let most : length t ≤ 4002 = leb-true (length t) 4002 w.1 in
    let least : 3815 ≤ length t = leb-true 3815 (length t) w.0 in
    let steps : SectorsFrom t m p a.sectors =
    subst (λ (z : Accepted). SectorsFrom t m p z.sectors) v.3
    (spans_step t m a.home 0 unsettled p (spans_of a.home c) v.0 v.1.reads v.1.shape v.1.clean (sym (joined_spans (drop p c))) (omega arith) (omega arith) (omega arith) (sym (opens_low p (omega arith)))) in
    record {
      steps = steps;
      some_sector = some a.sectors steps (omega arith);
      start_least = omega arith;
      start_most = omega arith;
      cells_length = l.0;
      marks_length = lent_marks t m b.0;
      length_least = least;
      length_most = most;
    }
  where
    some : (xs : List Placed) → SectorsFrom t m (first_count_place a.home.place) xs → first_count_place a.home.place < length (cells t m) → none xs ≡ false
    some [] s l = absurd (omega arith)
    some (x ∷ xs) s l = refl

-- An accepted track has its sectors from sector 0's place on.
pub accepted_steps : (t m : List ℕ) (a : Accepted) → accept t m ≡ good a → SectorsFrom t m (first_count_place a.home.place) a.sectors
accepted_steps t m a e = (accepted_start t m a e).steps

-- At the end there is no sector left.
pub steps_end : (t m : List ℕ) (p : ℕ) (xs : List Placed) → SectorsFrom t m p xs → length (cells t m) ≤ p → xs ≡ []
steps_end t m p [] e l = refl
steps_end t m p (x ∷ xs) (e, r) l = absurd (omega arith)

-- The sector that `sector_at` gives at place p, before the end, is the first of the sectors xs that are left; the later ones are left from the next place on.
pub record Step (t m : List ℕ) (p : ℕ) (xs : List Placed) (s : SectorCode) : Type 0 where
  pub x : Placed
  pub later : List Placed
  pub split : xs ≡ x ∷ later
  pub place_is : x.place ≡ p
  pub first_is : x.sector.first ≡ opens_first p
  pub flag_is : s.flag ≡ x.sector.flag
  pub number_is : s.number ≡ x.sector.number
  pub address_is : as_address s.address ≡ x.sector.address
  pub key_length_is : s.key_length ≡ length x.sector.key_bytes
  pub data_length_is : s.data_length ≡ length x.sector.data_bytes
  pub end_is : s.end ≡ end_of x
  pub next_is : s.next ≡ p + length x.span
  pub last_is : s.last ≡ none later
  pub key_bytes_holds : take s.key_length (drop s.key_place t) ≡ x.sector.key_bytes
  pub data_bytes_holds : take s.data_length (drop s.data_place t) ≡ x.sector.data_bytes
  pub key_fits : s.key_length ≤ 255
  pub data_fits : s.data_length ≤ 65535
  pub key_inside : s.key_place + s.key_length ≤ s.data_place
  pub data_inside : s.data_place + s.data_length < s.end
  pub end_inside : s.end + 13 ≤ s.next
  pub onward : p + 49 ≤ s.next
  pub next_inside : s.next ≤ length (cells t m)
  pub within : length (cells t m) ≤ length t
  pub stepping : Stepping t m p x (none later)
  pub rest : SectorsFrom t m s.next later
  pub rest_behind : last_first_count < s.next

-- The sector that is given stands at place p.
step_made : (t m : List ℕ) (p : ℕ) (x : Placed) (xs : List Placed) (s : SectorCode) → Stepping t m p x (none xs)
    → SectorsFrom t m (p + length x.span) xs → as_sector_at s ≡ sector_at p (cells t m) → Step t m p (x ∷ xs) s
unfolding listed
step_made t m p x xs s v r e =
    let flag : s.flag ≡ x.sector.flag = ap (λ (z : SectorAt). z.flag) e ∙ v.flag_is in
    let number : s.number ≡ x.sector.number = ap (λ (z : SectorAt). z.number) e ∙ v.number_is in
    let kl : s.key_length ≡ length x.sector.key_bytes = ap (λ (z : SectorAt). z.key_length) e ∙ v.key_length_is in
    let dl : s.data_length ≡ length x.sector.data_bytes = ap (λ (z : SectorAt). z.data_length) e ∙ v.data_length_is in
    let kp : s.key_place ≡ (listed x).key_place = ap (λ (z : SectorAt). z.key_place) e ∙ v.key_place_is in
    let dp : s.data_place ≡ (listed x).data_place = ap (λ (z : SectorAt). z.data_place) e ∙ v.data_place_is in
    let end : s.end ≡ end_of x = ap (λ (z : SectorAt). z.end) e ∙ v.end_is in
    let next : s.next ≡ p + length x.span = ap (λ (z : SectorAt). z.next) e ∙ v.next_is in
    record {
      x = x;
      later = xs;
      split = refl;
      place_is = v.place_is;
      first_is = v.first_is;
      flag_is = flag;
      number_is = number;
      address_is = ap (λ (z : SectorAt). z.address) e ∙ v.address_is;
      key_length_is = kl;
      data_length_is = dl;
      end_is = end;
      next_is = next;
      last_is = ap (λ (z : SectorAt). z.last) e ∙ v.last_is;
      key_bytes_holds = ap₂ (λ (n q : ℕ). take n (drop q t)) kl kp ∙ v.key_bytes_holds;
      data_bytes_holds = ap₂ (λ (n q : ℕ). take n (drop q t)) dl dp ∙ v.data_bytes_holds;
      key_fits = omega (arith, kl, v.key_fits);
      data_fits = omega (arith, dl, v.data_fits);
      key_inside = bound kp kl dp v.key_inside;
      data_inside = below dp dl end v.data_inside;
      end_inside = omega (arith, end, next, v.end_inside);
      onward = omega (arith, next, v.span_least);
      next_inside = omega (arith, next, v.span_inside);
      within = omega (arith, length_cells t m);
      stepping = v;
      rest = subst (λ (q : ℕ). SectorsFrom t m q xs) (sym next) r;
      rest_behind = omega (arith, next, v.span_least, v.place_least);
    }
  where
    bound : {a b c a' b' c' : ℕ} → a ≡ a' → b ≡ b' → c ≡ c' → a' + b' ≤ c' → a + b ≤ c
    bound e f g h = omega arith

    below : {a b c a' b' c' : ℕ} → a ≡ a' → b ≡ b' → c ≡ c' → a' + b' < c' → a + b < c
    below e f g h = omega arith

-- What a step before the end gives.
pub step_at : (t m : List ℕ) (p : ℕ) (xs : List Placed) (s : SectorCode) → SectorsFrom t m p xs → p < length (cells t m)
    → as_sector_at s ≡ sector_at p (cells t m) → Step t m p xs s
step_at t m p [] s f l e = absurd (omega arith)
step_at t m p (x ∷ xs) s (v, r) l e = step_made t m p x xs s v r e
