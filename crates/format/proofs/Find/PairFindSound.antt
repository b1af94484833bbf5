-- Whatever Pair find hands out is what Find hands out on the track that its rule names.
use mathlib.Core.Path.{◌≡◌, refl}
use Prim.Native.Nat.{ℕ}
use mathlib.Core.Bool.{true, false}
use mathlib.Core.List.{List}
use lib.Dec.{eqb}
use borrow.Author.Tests.{eqb-true}
use Rattle.format.specs.Answer.{pair_wrong}
use Rattle.format.specs.Judged.{Judged, good, refused}
use Rattle.format.specs.Lent.{cells}
use Rattle.format.specs.Flag.{condition}
use Rattle.format.specs.Home.{Home}
use Rattle.format.specs.Accept.{Accepted, accept}
use Rattle.format.specs.Find.{find}
use Rattle.format.specs.Blocks.{Wanted, Part}
use Rattle.format.specs.PairFind.{judge_first, pair_agrees, find_on_second, find_by_flag, pair_find}
use Rattle.format.proofs.Base.Judged.{refused-good}
use Rattle.base.proofs.Tests.{cases}
use Rattle.format.proofs.Find.FindSound.{HandedOut, find_hands_out}
use Rattle.format.specs.Candidate.{Candidate}

-- What a part says that Pair find hands out of the tracks t, m and u, v: with the first flagged neither 10 nor 11 it is Find's part of the first;
-- with the first flagged 10 it is Find's part of the second, which is accepted and agrees with the first.
pub data PairHandsOut (s : ℕ) (w : Wanted) (t m u v : List ℕ) (which : ℕ) (part : Part) : Type 0 where
  is_first : which ≡ 0 → (h : Home) → judge_first t m ≡ good h → eqb (condition h.flag) 3 ≡ false → eqb (condition h.flag) 2 ≡ false
      → find s w t m ≡ good part → (x : Candidate) → HandedOut s w t m part x → PairHandsOut s w t m u v which part
  is_second : which ≡ 1 → (h : Home) → judge_first t m ≡ good h → condition h.flag ≡ 2
      → (a : Accepted) → accept u v ≡ good a → pair_agrees h (cells t m) a.home (cells u v) ≡ true
      → find s w u v ≡ good part → (x : Candidate) → HandedOut s w u v part x → PairHandsOut s w t m u v which part

module _ (s : ℕ) (w : Wanted) (t m u v : List ℕ) (part : Part) where
  on_second : (h : Home) → judge_first t m ≡ good h → condition h.flag ≡ 2 → (j : Judged Accepted) → accept u v ≡ j
      → let r = find_on_second s w h (cells t m) u v j in r.outcome ≡ good part → PairHandsOut s w t m u v r.which part
  unfolding find_on_second
  on_second h k n (refused a) q e = refused-good a part e
  on_second h k n (good g) q e =
      cases (pair_agrees h (cells t m) g.home (cells u v))
      (λ b. rw b (let f : find s w u v ≡ good part = rw b at e in let x = find_hands_out s w u v part f in is_second refl h k n g q b f x.0 x.1))
      (λ b. refused-good pair_wrong part (rw b at e))

  by_flag : (j : Judged Home) → judge_first t m ≡ j → let r = find_by_flag s w t m u v j in r.outcome ≡ good part → PairHandsOut s w t m u v r.which part
  unfolding find_by_flag
  by_flag (refused a) k e = refused-good a part e
  by_flag (good h) k e =
      cases (eqb (condition h.flag) 3)
      (λ a. refused-good pair_wrong part (rw a at e))
      (λ a. cases (eqb (condition h.flag) 2)
      (λ b. rw (a, b) (on_second h k (eqb-true (condition h.flag) 2 b) (accept u v) refl (rw (a, b) at e)))
      (λ b. rw (a, b) (let f : find s w t m ≡ good part = rw (a, b) at e in let x = find_hands_out s w t m part f in is_first refl h k a b f x.0 x.1)))

  -- Whatever Pair find hands out, its rule gives: Find's part of the first track, or of the second, by the flag of the first.
  pub pair_hands_out : let r = pair_find s w t m u v in r.outcome ≡ good part → PairHandsOut s w t m u v r.which part
  unfolding pair_find
  pair_hands_out e = by_flag (judge_first t m) refl e
