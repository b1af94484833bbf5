-- Laws of Pair find: the first track's home and count, whether the two tracks agree, and what is found on which.
use mathlib.Core.Path.{◌≡◌, refl, sym, ap, ap₂, ◌∙◌}
use Prim.Native.Nat.{ℕ, ◌+◌, ◌*◌}
use native.Mathlib.Omega.{arith}
use mathlib.Core.Bool.{true, false, ◌&&◌}
use mathlib.Core.List.{List}
use lib.ListN.{get_or, drop}
use lib.Seq.{get_or-drop}
use lib.Dec.{eqb}
use borrow.Author.Tests.{eq-eqb, ne_eqb}
use Rattle.base.specs.Pick.{pick}
use Rattle.format.specs.Answer.{Answer, done, as_refusal, lent_wrong, first_count_missing, pair_wrong}
use Rattle.format.specs.declared.Refusal.{Refusal}
use Rattle.format.specs.Judged.{Judged, good, refused, then, answer_of}
use Rattle.format.specs.Lent.{lent_for_reading, cells}
use Rattle.format.specs.Opening.{starts_with, plain_opening}
use Rattle.format.specs.Flag.{condition}
use Rattle.format.specs.Address.{Address, address_in, same_address}
use Rattle.format.specs.Home.{Home, judge_home, first_count_place}
use Rattle.format.specs.Count.{unsettled}
use Rattle.format.specs.Span.{span_rest}
use Rattle.format.specs.Sector.{judge_count}
use Rattle.format.specs.Accept.{Accepted, accept}
use Rattle.format.specs.Find.{find}
use Rattle.format.specs.Blocks.{Wanted}
use Rattle.format.specs.PairFind.{of_first, of_second, from_first_count, named_track, judge_first_count, judge_first, pair_agrees, find_on_second, find_by_flag, pair_find}
use Rattle.base.proofs.Tests.{and_right, eqb_comm}
use Rattle.accepting.proofs.AcceptAnswers.{count_zero}
use Rattle.reader.proofs.FindPart.{refused_by}

-- Sector 0's count behind the home h of the track c.
module _ (h : Home) (c : List ℕ) where
  abbrev count : Judged (Unit {0})
  count = judge_count h 0 unsettled (first_count_place h.place) (span_rest 6 (from_first_count h c))

  -- It does not open.
  pub count_missing : starts_with plain_opening (from_first_count h c) ≡ false → judge_first_count h c ≡ refused (first_count_missing (first_count_place h.place))
  unfolding judge_first_count
  count_missing o = rw o

  -- It is refused by a.
  pub count_refused : (a : Refusal) → starts_with plain_opening (from_first_count h c) ≡ true → as_refusal a ≡ answer_of count → judge_first_count h c ≡ refused (as_refusal a)
  unfolding judge_first_count
  count_refused a o e = rw (o, refused_by count a e)

  -- It is right.
  pub count_right : starts_with plain_opening (from_first_count h c) ≡ true → done ≡ answer_of count → judge_first_count h c ≡ good h
  unfolding judge_first_count
  count_right o e =
      rw (o, count_zero h 0 unsettled (first_count_place h.place) (span_rest 6 (from_first_count h c)) (ap (λ (b : Answer). b.number) (sym e)))

-- The first track: lent out of rule, with a home that is refused, or by its count.
module _ (t m : List ℕ) where
  pub first_wrong : lent_for_reading t m ≡ false → judge_first t m ≡ refused lent_wrong
  unfolding judge_first
  first_wrong l = rw l

  pub first_refused : (a : Answer) → lent_for_reading t m ≡ true → judge_home (cells t m) ≡ refused a → judge_first t m ≡ refused a
  unfolding judge_first
  first_refused a l e = rw (l, e)

  pub first_count_lem : (h : Home) → lent_for_reading t m ≡ true → judge_home (cells t m) ≡ good h → judge_first t m ≡ judge_first_count h (cells t m)
  unfolding judge_first
  first_count_lem h l e = rw (l, e)

-- The track that sector 0's count behind home h names, cell by cell.
module _ (h : Home) (c : List ℕ) (a : Address) where
  named_cell : (k : ℕ) → get_or (drop 6 (from_first_count h c)) k 0 ≡ get_or c (h.place + 31 + k) 0
  named_cell k =
      get_or-drop 6 (from_first_count h c) k 0 ∙ get_or-drop (h.place + 25) c (6 + k) 0 ∙ ap (λ (i : ℕ). get_or c i 0) (omega arith)

  named_is : same_address a (named_track h c)
      ≡ (eqb a.cylinder (get_or c (h.place + 31 + 1) 0 * 256 + get_or c (h.place + 31 + 2) 0)
      && eqb a.head (get_or c (h.place + 31 + 3) 0 * 256 + get_or c (h.place + 31 + 4) 0))
  unfolding same_address named_track address_in
  named_is =
      ap₂ ◌&&◌
      (ap₂ (λ (x y : ℕ). eqb a.cylinder (x * 256 + y)) (named_cell 1) (named_cell 2))
      (ap₂ (λ (x y : ℕ). eqb a.head (x * 256 + y)) (named_cell 3) (named_cell 4))

  module _ (x y : ℕ) (ex : x ≡ get_or c (h.place + 31 + 1) 0) (ey : y ≡ get_or c (h.place + 31 + 2) 0) where
    -- Another cylinder.
    pub named_other : (a.cylinder ≡ x * 256 + y → ⊥) → same_address a (named_track h c) ≡ false
    named_other n =
        named_is ∙ rw (ne_eqb a.cylinder (get_or c (h.place + 31 + 1) 0 * 256 + get_or c (h.place + 31 + 2) 0) (λ q. n (omega arith)))

    -- The same cylinder: the head decides.
    pub named_same : (z w : ℕ) → a.cylinder ≡ x * 256 + y → z ≡ get_or c (h.place + 31 + 3) 0 → w ≡ get_or c (h.place + 31 + 4) 0
        → same_address a (named_track h c) ≡ eqb a.head (z * 256 + w)
    named_same z w e ez ew =
        named_is
        ∙ rw (eq-eqb a.cylinder (get_or c (h.place + 31 + 1) 0 * 256 + get_or c (h.place + 31 + 2) 0) (omega arith), ez, ew)

-- Addresses may be compared either way round.
pub same_comm : (a b : Address) → same_address a b ≡ same_address b a
unfolding same_address
same_comm a b = ap₂ ◌&&◌ (eqb_comm a.cylinder b.cylinder) (eqb_comm a.head b.head)

-- Whether the two tracks agree.
module _ (h : Home) (c : List ℕ) (g : Home) (d : List ℕ) where
  -- The second is not flagged 01.
  pub agrees_flag : (condition g.flag ≡ 1 → ⊥) → pair_agrees h c g d ≡ false
  unfolding pair_agrees
  agrees_flag n = rw (ne_eqb (condition g.flag) 1 n)

  -- It is not the one that the first names.
  pub agrees_other : condition g.flag ≡ 1 → same_address g.address (named_track h c) ≡ false → pair_agrees h c g d ≡ false
  unfolding pair_agrees
  agrees_other e n = rw n (and_right (eqb (condition g.flag) 1) refl)

  -- It is, and the first is the one that it names, or not.
  pub agrees_named : condition g.flag ≡ 1 → same_address g.address (named_track h c) ≡ true → pair_agrees h c g d ≡ same_address h.address (named_track g d)
  unfolding pair_agrees
  agrees_named e n = rw (eq-eqb (condition g.flag) 1 e, n) (same_comm (named_track g d) h.address)

-- What is found on the second track u, v, where the first with home h and cells c is flagged 10.
module _ (s : ℕ) (w : Wanted) (h : Home) (c u v : List ℕ) where
  -- The second is refused.
  pub second_refused : (a : Answer) → refused a ≡ then (accept u v) (λ x. good x.home) → find_on_second s w h c u v (accept u v) ≡ of_second (refused a)
  unfolding find_on_second
  second_refused a e = go (accept u v) e
    where
      go : (j : Judged Accepted) → ◌≡◌ {A = Judged Home} (refused a) (then j (λ x. good x.home)) → find_on_second s w h c u v j ≡ of_second (refused a)
      go (good x) q = cc
      go (refused b) q = let e : a ≡ b = cc in rw e

  -- It is accepted with home g.
  accepted : (g : Home) → good g ≡ then (accept u v) (λ x. good x.home)
      → find_on_second s w h c u v (accept u v) ≡ pick (pair_agrees h c g (cells u v)) (of_second (find s w u v)) (of_first (refused pair_wrong))
  unfolding find_on_second
  accepted g e = go (accept u v) e
    where
      go : (j : Judged Accepted) → ◌≡◌ {A = Judged Home} (good g) (then j (λ x. good x.home))
          → find_on_second s w h c u v j ≡ pick (pair_agrees h c g (cells u v)) (of_second (find s w u v)) (of_first (refused pair_wrong))
      go (good x) q = let e : g ≡ x.home = cc in rw e
      go (refused b) q = cc

  -- The two agree, or not.
  pub second_found : (g : Home) → good g ≡ then (accept u v) (λ x. good x.home) → pair_agrees h c g (cells u v) ≡ true → find_on_second s w h c u v (accept u v) ≡ of_second (find s w u v)
  second_found g e a = accepted g e ∙ rw a

  pub second_other : (g : Home) → good g ≡ then (accept u v) (λ x. good x.home) → pair_agrees h c g (cells u v) ≡ false → find_on_second s w h c u v (accept u v) ≡ of_first (refused pair_wrong)
  second_other g e a = accepted g e ∙ rw a

-- What is found by the flag of the first track.
module _ (s : ℕ) (w : Wanted) (t m u v : List ℕ) where
  -- The first is refused.
  pub pair_refused : (a : Answer) → refused a ≡ judge_first t m → pair_find s w t m u v ≡ of_first (refused a)
  unfolding pair_find find_by_flag
  pair_refused a e = rw (← e)

  module _ (h : Home) (e : good h ≡ judge_first t m) where
    -- 11.
    pub pair_none : condition h.flag ≡ 3 → pair_find s w t m u v ≡ of_first (refused pair_wrong)
    unfolding pair_find find_by_flag
    pair_none f = rw (← e, eq-eqb (condition h.flag) 3 f)

    -- 10.
    pub pair_second : condition h.flag ≡ 2 → pair_find s w t m u v ≡ find_on_second s w h (cells t m) u v (accept u v)
    unfolding pair_find find_by_flag
    pair_second f = rw (← e, ne_eqb (condition h.flag) 3 (λ q. omega arith), eq-eqb (condition h.flag) 2 f)

    -- 00 and 01.
    pub pair_first : (condition h.flag ≡ 3 → ⊥) → (condition h.flag ≡ 2 → ⊥) → pair_find s w t m u v ≡ of_first (find s w t m)
    unfolding pair_find find_by_flag
    pair_first f n = rw (← e, ne_eqb (condition h.flag) 3 f, ne_eqb (condition h.flag) 2 n)
