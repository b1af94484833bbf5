-- What a correction does to single sectors and to lists of them.
use mathlib.Core.Path.{◌≡◌, refl, sym, ap, ap₂, ◌∙◌}
use Prim.Native.Nat.{ℕ, suc}
use mathlib.Core.Bool.{Bool, true, false, ◌||◌}
use mathlib.Core.List.{List, [], ◌∷◌, map}
use lib.Dec.{eqb}
use borrow.Author.Tests.{eqb-true, ne_eqb}
use Rattle.format.specs.Lent.{unmarked}
use Rattle.format.specs.Home.{Home}
use Rattle.format.specs.Count.{Settled}
use Rattle.format.specs.Sector.{Sector, settle, content_right}
use Rattle.format.specs.Correct.{with_content}
use Rattle.format.specs.Together.{Correction, replaced_by, with_both}
use Rattle.format.proofs.Spans.Shape.{AllValid}
use Rattle.base.proofs.Tests.{cases}
use Rattle.format.proofs.Sector.ReadBack.{content_valid, content_settle}

-- The key and the data that a correction brings are bytes.
pub record Bytes (a : Correction) : Type 0 where
  pub key : unmarked a.key ≡ true
  pub body : unmarked a.body ≡ true

-- The correction a names the sector s.
unfoldable pub named : Correction → Sector → Bool
named a s = eqb s.number a.number

-- One of two corrections names the sector s.
unfoldable pub named_either : Correction → Correction → Sector → Bool
named_either a b s = named a s || named b s

-- A correction keeps the number of a sector.
pub replaced_number : (a : Correction) (s : Sector) → (replaced_by a s).number ≡ s.number
unfolding replaced_by with_content
replaced_number a s = cases (eqb s.number a.number) (λ e. rw e) (λ e. rw e)

-- It keeps the numbers of all sectors.
pub replaced_numbers : (a : Correction) (ss : List Sector) → map (λ s. s.number) (map (replaced_by a) ss) ≡ map (λ s. s.number) ss
replaced_numbers a [] = refl
replaced_numbers a (s ∷ ss) = ap₂ (λ (n : ℕ) (ns : List ℕ). n ∷ ns) (replaced_number a s) (replaced_numbers a ss)

-- A correction names a sector by its number alone.
pub named_number : (a : Correction) (s r : Sector) → s.number ≡ r.number → named a s ≡ named a r
unfolding named
named_number a s r e = ap (λ (n : ℕ). eqb n a.number) e

-- What a correction names does not change by a correction.
pub replaced_named : (a b : Correction) (s : Sector) → named b (replaced_by a s) ≡ named b s
replaced_named a b s = named_number b (replaced_by a s) s (replaced_number a s)

-- A correction leaves a sector that it does not name.
pub replaced_other : (a : Correction) (s : Sector) → named a s ≡ false → replaced_by a s ≡ s
unfolding named replaced_by
replaced_other a s e = rw e

-- The sector that it names gets the new key and data.
pub replaced_one : (a : Correction) (s : Sector) → named a s ≡ true → replaced_by a s ≡ with_content a.key a.body s
unfolding named replaced_by
replaced_one a s e = rw e

-- What sector 0 settles does not change.
pub replaced_settle : (a : Correction) (x : Settled) (s : Sector) → settle x (replaced_by a s) ≡ settle x s
replaced_settle a x s =
    cases (named a s) (λ e. rw (replaced_one a s e) (content_settle x s a.key a.body)) (λ e. rw (replaced_other a s e))

-- Valid sectors stay valid after a correction within the rule.
pub replaced_valid : (a : Correction) → Bytes a → content_right a.key a.body ≡ true
    → (h : Home) (i : ℕ) (x : Settled) (ss : List Sector) → AllValid h i x ss → AllValid h i x (map (replaced_by a) ss)
replaced_valid a b c h i x [] v = tt
replaced_valid a b c h i x (s ∷ ss) v = (
  cases (named a s)
      (λ e. rw (replaced_one a s e) (content_valid h i x s a.key a.body v.0 c b.key b.body))
      (λ e. rw (replaced_other a s e) v.0),
  rw (replaced_settle a x s) (replaced_valid a b c h (suc i) (settle x s) ss v.1),
)

-- Of two corrections of different number only one names a sector.
pub named_apart : (a b : Correction) → (a.number ≡ b.number → ⊥) → (s : Sector) → named a s ≡ true → named b s ≡ false
unfolding named
named_apart a b ne s e = ne_eqb s.number b.number (λ q. ne (sym (eqb-true s.number a.number e) ∙ q))

-- Corrections of different number do not disturb one another.
pub replaced_comm : (a b : Correction) → (a.number ≡ b.number → ⊥) → (s : Sector) → replaced_by b (replaced_by a s) ≡ replaced_by a (replaced_by b s)
replaced_comm a b ne s =
    cases (named a s)
    (λ e.
    let o : named b s ≡ false = named_apart a b ne s e in
    rw (replaced_other b s o, replaced_other b (replaced_by a s) (replaced_named a b s ∙ o)))
    (λ e. rw (replaced_other a s e, replaced_other a (replaced_by b s) (replaced_named b a s ∙ e)))

-- Both new keys and data are the same in either order.
pub with_both_comm : (a b : Correction) → (a.number ≡ b.number → ⊥) → (ss : List Sector) → with_both b a ss ≡ with_both a b ss
unfolding with_both
with_both_comm a b ne [] = refl
with_both_comm a b ne (s ∷ ss) = ap₂ (λ (r : Sector) (rs : List Sector). r ∷ rs) (sym (replaced_comm a b ne s)) (with_both_comm a b ne ss)
