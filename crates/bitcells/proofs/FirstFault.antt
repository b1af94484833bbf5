-- Answer 17 is given exactly where a test fails, with the lowest such place.
use mathlib.Core.Path.{◌≡◌, refl, sym, ap, ◌∙◌}
use Prim.Native.Nat.{ℕ, zero, suc, ◌+◌, ◌≤◌, ◌<◌}
use native.Mathlib.Omega.{arith}
use mathlib.Core.Bool.{Bool, true, false}
use mathlib.Core.List.{List, [], ◌∷◌, ◌++◌}
use lib.ListN.{length, get_or, drop, drop_of_length-le}
use Rattle.std.proofs.lemmas.List.{drop_more}
use Rattle.format.specs.Answer.{pattern_wrong}
use Rattle.format.specs.Judged.{Judged, good, refused, then, answer_of}
use Rattle.format.proofs.Base.Judged.{refused-good}
use Rattle.base.proofs.Tests.{false-true}
use Rattle.bitcells.specs.Each.{judge_each}

-- Where all is well every test holds,
pub each_holds : (p : ℕ) (bs : List Bool) → judge_each p bs ≡ good tt → (i : ℕ) → i < length bs → get_or bs i false ≡ true
unfolding judge_each
each_holds p [] e i h = absurd (omega arith)
each_holds p (true ∷ bs) e zero h = refl
each_holds p (true ∷ bs) e (suc i) h = each_holds (suc p) bs e i (omega arith)
each_holds p (false ∷ bs) e i h = refused-good (pattern_wrong p) tt e

-- and where every test holds all is well.
pub holds_each : (p : ℕ) (bs : List Bool) → ((i : ℕ) → i < length bs → get_or bs i false ≡ true) → judge_each p bs ≡ good tt
unfolding judge_each
holds_each p [] h = refl
holds_each p (true ∷ bs) h = holds_each (suc p) bs (λ i l. h (suc i) (omega arith))
holds_each p (false ∷ bs) h = false-true (h 0 (omega arith))

-- The test number i is the first that fails.
pub record FirstFails (bs : List Bool) (i : ℕ) : Type 0 where
  pub inside : i < length bs
  pub fails : get_or bs i false ≡ false
  pub earlier : (j : ℕ) → j < i → get_or bs j false ≡ true

-- Where the first test that fails is number i, it is refused with the place i behind p,
pub fails_each : (p : ℕ) (bs : List Bool) (i : ℕ) → FirstFails bs i → judge_each p bs ≡ refused (pattern_wrong (p + i))
unfolding judge_each
fails_each p [] i f = absurd (omega (arith, f.inside))
fails_each p (true ∷ bs) zero f = false-true (sym f.fails)
fails_each p (true ∷ bs) (suc i) f =
    fails_each (suc p) bs i (record { inside = omega (arith, f.inside); fails = f.fails; earlier = λ j l. f.earlier (suc j) (omega arith) })
    ∙ ap {B = Judged (Unit {0})} (λ (z : ℕ). refused (pattern_wrong z)) (omega arith)
fails_each p (false ∷ bs) zero f = ap {B = Judged (Unit {0})} (λ (z : ℕ). refused (pattern_wrong z)) (omega arith)
fails_each p (false ∷ bs) (suc i) f = false-true (f.earlier 0 (omega arith))

-- and where it is refused with a place behind p, the test there is the first that fails.
pub each_fails : (p : ℕ) (bs : List Bool) (q : ℕ) → judge_each p bs ≡ refused (pattern_wrong q) → (i : ℕ) × (q ≡ p + i) × FirstFails bs i
unfolding judge_each
each_fails p [] q e = refused-good (pattern_wrong q) tt (sym e)
each_fails p (true ∷ bs) q e =
    let r = each_fails (suc p) bs q e in (
      suc r.0,
      omega (arith, r.1),
      record { inside = omega (arith, r.2.inside); fails = r.2.fails; earlier = λ j l. before r.0 r.2 j l },
    )
  where
    before : (i : ℕ) → FirstFails bs i → (j : ℕ) → j < suc i → get_or (true ∷ bs) j false ≡ true
    before i f zero l = refl
    before i f (suc j) l = f.earlier j (omega arith)
each_fails p (false ∷ bs) q e = (0, same e, record { inside = omega arith; fails = refl; earlier = λ j l. absurd (omega arith) })
  where
    same : ◌≡◌ {A = Judged (Unit {0})} (refused (pattern_wrong p)) (refused (pattern_wrong q)) → q ≡ p + 0
    same z = let w : p ≡ q = ap (λ (j : Judged (Unit {0})). (answer_of j).place) z in omega arith

-- Of two lists of tests the first is searched, and then the second behind it.
pub judge_append : (p : ℕ) (cs bs : List Bool) → judge_each p (cs ++ bs) ≡ then (judge_each p cs) (λ _. judge_each (p + length cs) bs)
unfolding judge_each
judge_append p [] bs = ap (λ (k : ℕ). judge_each k bs) (omega arith)
judge_append p (true ∷ cs) bs = let e : suc p + length cs ≡ p + suc (length cs) = omega arith in judge_append (suc p) cs bs ∙ ap (λ (k : ℕ). then (judge_each (suc p) cs) (λ _. judge_each k bs)) e
judge_append p (false ∷ cs) bs = refl

module _ (p i : ℕ) (bs : List Bool) where
  -- The search that has come to test i goes on behind it where it holds,
  pub pass : i < length bs → get_or bs i false ≡ true → judge_each (p + i) (drop i bs) ≡ judge_each (p + (i + 1)) (drop (i + 1) bs)
  unfolding judge_each
  pass l h = rw (drop_more bs i false l, h) (ap (λ (k : ℕ). judge_each k (drop (i + 1) bs)) (omega arith))

  -- ends there where it fails,
  pub stop : i < length bs → get_or bs i false ≡ false → judge_each (p + i) (drop i bs) ≡ refused (pattern_wrong (p + i))
  unfolding judge_each
  stop l e = rw (drop_more bs i false l, e)

  -- and is done behind the last one.
  pub end : length bs ≤ i → judge_each (p + i) (drop i bs) ≡ good tt
  unfolding judge_each
  end l = rw (drop_of_length-le bs {i = i} l)
