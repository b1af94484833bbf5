-- What the judgement of the old track tells, and what the lengths of the written pair do.
use mathlib.Core.Path.{◌≡◌, sym, ap, ◌∙◌}
use Prim.Native.Nat.{ℕ, ◌+◌}
use mathlib.Core.Bool.{Bool, true, false, ◌&&◌}
use mathlib.Core.List.{List}
use lib.ListN.{length}
use lib.Dec.{eqb}
use borrow.Author.Tests.{eqb-true}
use Rattle.format.specs.Answer.{Answer, lent_wrong}
use Rattle.format.specs.Judged.{Judged, good, refused, then}
use Rattle.format.specs.Lent.{lent_for_reading, cells, both_lent}
use Rattle.format.specs.Home.{Home}
use Rattle.format.specs.Accept.{Accepted, accept_cells, accept}
use Rattle.format.specs.GapRule.{GapRule}
use Rattle.format.specs.Written.{Pair, as_pair}
use Rattle.format.specs.Add.{add_cells, add}
use Rattle.format.specs.Correct.{correct_cells, correct}
use Rattle.format.proofs.Base.Judged.{good_inj, refused-good, then_good}
use Rattle.format.proofs.Track.Pairs.{accepted_pair}
use Rattle.base.proofs.Tests.{cases, and_both}
use Rattle.sector.specs.declared.fields.Home.{Home as HomeCode}
use Rattle.sector.specs.As.{as_home}
use Rattle.writer.specs.Remaining.{Readable, ReadableFlag}

-- A track whose home is given is accepted.
pub judged_readable : (t m : List ℕ) (h : HomeCode) → ◌≡◌ {A = Judged Home} (good (as_home h)) (then (accept t m) (λ a. good a.home)) → Readable t m (h.place + 25)
judged_readable t m h e =
    let z = then_good (accept t m) (λ a. good a.home) (as_home h) (sym e) in
    record {
      accepted = z.0;
      is_accepted = z.1;
      starts = ap (λ (k : Home). k.place + 25) (sym (good_inj z.0.home (as_home h) z.2));
    }

-- A track that is refused is refused by that answer.
pub judged_refused : (j : Judged Accepted) (x : Answer) → ◌≡◌ {A = Judged Home} (refused x) (then j (λ a. good a.home)) → j ≡ refused x
judged_refused (good a) x e = refused-good x a.home e
judged_refused (refused y) x e = let z : x ≡ y = cc in ap refused (sym z)

-- A track that can be read is lent within the rule.
pub readable_lent : (t m : List ℕ) (start : ℕ) → Readable t m start → lent_for_reading t m ≡ true
readable_lent t m start r = (accepted_pair t m r.accepted r.is_accepted).0

-- A refusal of a track that is lent within the rule is one of its cells.
cells_refused : (t m : List ℕ) (x : Answer) → lent_for_reading t m ≡ true → accept t m ≡ refused x → accept_cells (cells t m) ≡ refused x
unfolding accept
cells_refused t m x e h = rw e at h

-- A track that is lent out of rule is refused by that answer.
lent_refused : (t m : List ℕ) (x : Answer) → lent_for_reading t m ≡ false → accept t m ≡ refused x → ◌≡◌ {A = Judged Pair} (refused lent_wrong) (refused x)
unfolding accept
lent_refused t m x e h =
    let z : ◌≡◌ {A = Judged Accepted} (refused lent_wrong) (refused x) = rw e at h in
    let y : lent_wrong ≡ x = cc in ap refused y

-- The lengths l and k of the written pair are the length of the read track.
abbrev pub Agree : List ℕ → ℕ → ℕ → Bool
Agree t l k = eqb l (length t) && eqb k (length t)

-- Where the lengths differ, a pair is lent out of rule.
differ_lent : (t m : List ℕ) (l k : ℕ) → Agree t l k ≡ false → both_lent t m l k ≡ false
unfolding both_lent
differ_lent t m l k e = cases (lent_for_reading t m) (λ h. rw (h, e)) (λ h. rw h)

-- Where they agree, both pairs are lent within the rule exactly where the read one is.
agree_lent : (t m : List ℕ) (l k : ℕ) → Agree t l k ≡ true → both_lent t m l k ≡ lent_for_reading t m
unfolding both_lent
agree_lent t m l k e = cases (lent_for_reading t m) (λ h. rw (h, e)) (λ h. rw h)

-- Lengths that agree are equal.
pub agree_equal : (t : List ℕ) (l k : ℕ) → Agree t l k ≡ true → (l ≡ length t) × (k ≡ length t)
agree_equal t l k e =
    let h = and_both (eqb l (length t)) (eqb k (length t)) e in
    (eqb-true l (length t) h.0, eqb-true k (length t) h.1)

-- Correct: 1 where the lengths differ,
pub correct_differ : (rule : GapRule) (t m : List ℕ) (l k s : ℕ) (key body : List ℕ) → Agree t l k ≡ false → correct rule t m l k s key body ≡ refused lent_wrong
unfolding correct
correct_differ rule t m l k s key body e = rw (differ_lent t m l k e)

module _ (rule : GapRule) (t m : List ℕ) (l k : ℕ) (e : Agree t l k ≡ true) (s : ℕ) (key body : List ℕ) where
  -- the track's own answer where it is refused,
  pub correct_refused : (x : Answer) → accept t m ≡ refused x → correct rule t m l k s key body ≡ refused x
  unfolding correct correct_cells as_pair
  correct_refused x h =
      cases (lent_for_reading t m)
      (λ b. rw (agree_lent t m l k e ∙ b, cells_refused t m x b h))
      (λ b. rw (agree_lent t m l k e ∙ b) (lent_refused t m x b h))

  -- and else what its cells give.
  pub correct_cells_lem : lent_for_reading t m ≡ true → correct rule t m l k s key body ≡ as_pair (correct_cells rule (cells t m) s key body)
  unfolding correct
  correct_cells_lem b = rw (agree_lent t m l k e ∙ b)

-- Add: 1 where the lengths differ,
pub add_differ : (rule : GapRule) (t m : List ℕ) (l k b7 s : ℕ) (key body : List ℕ) → Agree t l k ≡ false → add rule t m l k b7 s key body ≡ refused lent_wrong
unfolding add
add_differ rule t m l k b7 s key body e = rw (differ_lent t m l k e)

module _ (rule : GapRule) (t m : List ℕ) (l k : ℕ) (e : Agree t l k ≡ true) (b7 s : ℕ) (key body : List ℕ) where
  -- the track's own answer where it is refused,
  pub add_refused : (x : Answer) → accept t m ≡ refused x → add rule t m l k b7 s key body ≡ refused x
  unfolding add add_cells as_pair
  add_refused x h =
      cases (lent_for_reading t m)
      (λ b. rw (agree_lent t m l k e ∙ b, cells_refused t m x b h))
      (λ b. rw (agree_lent t m l k e ∙ b) (lent_refused t m x b h))

  -- and else what its cells give.
  pub add_cells_lem : lent_for_reading t m ≡ true → add rule t m l k b7 s key body ≡ as_pair (add_cells rule (cells t m) b7 s key body)
  unfolding add
  add_cells_lem b = rw (agree_lent t m l k e ∙ b)

-- The flag of a home that is given is that of the accepted track.
pub judged_flag : (t m : List ℕ) (h : HomeCode) → ◌≡◌ {A = Judged Home} (good (as_home h)) (then (accept t m) (λ a. good a.home)) → ReadableFlag t m (h.place + 25) h.flag
judged_flag t m h e =
    let z = then_good (accept t m) (λ a. good a.home) (as_home h) (sym e) in
    let q : z.0.home ≡ as_home h = good_inj z.0.home (as_home h) z.2 in
    record {
      readable = record { accepted = z.0; is_accepted = z.1; starts = ap (λ (k : Home). k.place + 25) (sym q) };
      flag_is = ap (λ (k : Home). k.flag) (sym q);
    }
