-- Answer 17 of both calls: given exactly where the text says, with the lowest such place.
use mathlib.Core.Path.{◌≡◌, sym, ap, ◌∙◌}
use Prim.Native.Nat.{ℕ, ◌+◌, ◌*◌, ◌<◌}
use native.Mathlib.Omega.{arith}
use mathlib.Core.Bool.{Bool, true, false}
use mathlib.Core.List.{List}
use lib.ListN.{length, get_or}
use lib.Dec.{eqb}
use borrow.Author.Tests.{eqb-true, eqb-false, eq-eqb, ne_eqb}
use Rattle.format.specs.Answer.{lent_wrong, pattern_wrong}
use Rattle.format.specs.Judged.{Judged, good, refused, then, require, answer_of}
use Rattle.format.specs.Lent.{lent_for_writing, lent_for_reading}
use Rattle.format.specs.Written.{Pair}
use Rattle.base.proofs.Tests.{cases, false-true, and_both}
use Rattle.format.proofs.Base.Marks.{mark_at_lem}
use Rattle.format.proofs.Track.Pairs.{lent_marks, lent_legal}
use Rattle.pattern.specs.Pattern.{recordable, legal_pattern}
use Rattle.bitcells.specs.Each.{each_pattern, each_byte, judge_each}
use Rattle.bitcells.specs.FromCells.{lent_from, read_pair, from_cells}
use Rattle.bitcells.specs.ToCells.{lent_to, written_cells, to_cells}
use Rattle.bitcells.specs.Legal.{FirstIllegal, FirstOther}
use Rattle.bitcells.proofs.Each.{length_pattern, get_d_pattern, length_each, get_d_each}
use Rattle.bitcells.proofs.FirstFault.{fails_each, each_fails}

-- A refusal by 17 comes from the places, not from what is lent, and not from what is given where all is well.
module _ {A : Type 0} (b : Bool) (j : Judged (Unit {0})) (v : A) (p : ℕ) where
  refused_there : then j (λ _. good v) ≡ refused (pattern_wrong p) → j ≡ refused (pattern_wrong p)
  refused_there e = go j e
    where
      go : (i : Judged (Unit {0})) → then i (λ _. good v) ≡ refused (pattern_wrong p) → i ≡ refused (pattern_wrong p)
      go (good x) h = absurd (let z : ◌≡◌ {A = ℕ} 0 17 = ap (λ (k : Judged A). (answer_of k).number) h in omega arith)
      go (refused a) h = ap (λ (k : Judged A). refused (answer_of k)) h

  past_lent : require b lent_wrong (then j (λ _. good v)) ≡ refused (pattern_wrong p) → (b ≡ true) × (j ≡ refused (pattern_wrong p))
  past_lent e =
      cases b
      (λ h. (h, refused_there (rw h at e)))
      (λ h. absurd (let z : ◌≡◌ {A = ℕ} 1 17 = ap (λ (k : Judged A). (answer_of k).number) (rw h at e) in omega arith))

module _ (x : List ℕ) (l k p : ℕ) where
  two_each : lent_from (length x) l k ≡ true → length x ≡ 2 * l
  unfolding lent_from
  two_each e = eqb-true (length x) (2 * l) (and_both (lent_for_writing l k) (eqb (length x) (2 * l)) e).1

  -- From bit cells: where it is given, the byte at its place is the first without a legal pattern,
  pub from_illegal : from_cells x l k ≡ refused (pattern_wrong p) → (lent_from (length x) l k ≡ true) × FirstIllegal x l p
  unfolding from_cells
  from_illegal e =
      let a = past_lent (lent_from (length x) l k) (judge_each 0 (each_pattern legal_pattern x)) (read_pair x) p e in
      let n = two_each a.0 in
      let f = each_fails 0 (each_pattern legal_pattern x) p a.1 in
      let at : p ≡ f.0 = omega (arith, f.1) in
      let long = length_pattern legal_pattern x in
      let g : p < l = omega (arith, f.2.inside) in (
        a.0,
        record {
          inside = g;
          illegal = sym (get_d_pattern legal_pattern x p false (omega arith)) ∙ rw at f.2.fails;
          earlier = λ i h. sym (get_d_pattern legal_pattern x i false (omega arith)) ∙ f.2.earlier i (omega arith);
        },
      )

  -- and where there is such a byte it is given.
  pub illegal_from : lent_from (length x) l k ≡ true → FirstIllegal x l p → from_cells x l k ≡ refused (pattern_wrong p)
  unfolding from_cells
  illegal_from e f =
      let n = two_each e in
      let long = length_pattern legal_pattern x in
      let g = f.inside in
      let h : judge_each 0 (each_pattern legal_pattern x) ≡ refused (pattern_wrong (0 + p)) = fails_each 0 (each_pattern legal_pattern x) p (record {
        inside = omega arith;
        fails = get_d_pattern legal_pattern x p false (omega arith) ∙ f.illegal;
        earlier = λ i o. get_d_pattern legal_pattern x i false (omega arith) ∙ f.earlier i o;
      }) in
      rw (e, h) (ap {B = Judged Pair} (λ (z : ℕ). refused (pattern_wrong z)) (omega arith))

module _ (t m : List ℕ) (n p : ℕ) where
  lent_read : lent_to t m n ≡ true → lent_for_reading t m ≡ true
  unfolding lent_to
  lent_read e = (and_both (lent_for_reading t m) (eqb n (2 * length t)) e).0

  -- To bit cells: where it is given, the byte at its place is the first marked one that is not FF,
  pub to_other : to_cells t m n ≡ refused (pattern_wrong p) → (lent_to t m n ≡ true) × FirstOther t m p
  unfolding to_cells recordable
  to_other e =
      let a = past_lent (lent_to t m n) (judge_each 0 (each_byte recordable t m)) (written_cells t m) p e in
      let r = lent_read a.0 in
      let f = each_fails 0 (each_byte recordable t m) p a.1 in
      let at : p ≡ f.0 = omega (arith, f.1) in
      let long = length_each recordable t m in
      let same = lent_marks t m r in
      let g : p < length t = omega (arith, f.2.inside) in
      let v : recordable (get_or t p 0) (get_or m p 0) ≡ false = sym (get_d_each recordable t m p false g (omega arith)) ∙ rw at f.2.fails in (
        a.0,
        record {
          inside = g;
          marked = cases (eqb (get_or m p 0) 0) (λ z. false-true (sym v ∙ rw z)) (λ z. let w = eqb-false (get_or m p 0) 0 z in omega (arith, mark_at_lem m (lent_legal t m r) p (omega arith)));
          other = λ q. false-true (sym v ∙ holds_FF (get_or t p 0) (get_or m p 0) q);
          earlier = λ i h o. recorded_FF (get_or t i 0) (get_or m i 0) (sym (get_d_each recordable t m i false (omega arith) (omega arith)) ∙ f.2.earlier i (omega arith)) o;
        },
      )
    where
      holds_FF : (b k : ℕ) → b ≡ 0xFF → recordable b k ≡ true
      holds_FF b k q = cases (eqb k 0) (λ z. rw z) (λ z. rw (z, eq-eqb b 255 q))

      recorded_FF : (b k : ℕ) → recordable b k ≡ true → k ≡ 1 → b ≡ 0xFF
      recorded_FF b k h o = eqb-true b 255 (rw (ne_eqb k 0 (λ z. omega arith)) at h)

  -- and where there is such a byte it is given.
  pub other_to : lent_to t m n ≡ true → FirstOther t m p → to_cells t m n ≡ refused (pattern_wrong p)
  unfolding to_cells recordable
  other_to e f =
      let r = lent_read e in
      let long = length_each recordable t m in
      let same = lent_marks t m r in
      let g = f.inside in
      let h : judge_each 0 (each_byte recordable t m) ≡ refused (pattern_wrong (0 + p)) = fails_each 0 (each_byte recordable t m) p (record {
        inside = omega arith;
        fails = get_d_each recordable t m p false g (omega arith) ∙ rw (f.marked, ne_eqb (get_or t p 0) 255 f.other);
        earlier = λ i o. get_d_each recordable t m i false (omega arith) (omega arith) ∙ kept (get_or t i 0) (get_or m i 0) (mark_at_lem m (lent_legal t m r) i (omega arith)) (f.earlier i o);
      }) in
      rw (e, h) (ap {B = Judged (List ℕ)} (λ (z : ℕ). refused (pattern_wrong z)) (omega arith))
    where
      kept : (b k : ℕ) → k < 2 → (k ≡ 1 → b ≡ 0xFF) → recordable b k ≡ true
      kept b k l q = cases (eqb k 0) (λ z. rw z) (λ z. let w = eqb-false k 0 z in rw (z, eq-eqb b 255 (q (omega arith))))
