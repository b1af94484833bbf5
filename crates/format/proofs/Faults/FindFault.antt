-- Find gives 10 or 11 exactly where the key or the data asked for is wrong, with the first part of it that is.
use mathlib.Core.Path.{◌≡◌, refl, sym, ap, ◌∙◌, subst}
use mathlib.Core.Logic.{◌⊎◌, inl, inr, ⊎_elim}
use Prim.Native.Nat.{ℕ, ◌+◌}
use mathlib.Core.Bool.{true, false}
use mathlib.Core.List.{List, [], ◌∷◌}
use Rattle.format.specs.Answer.{Answer, lent_wrong}
use Rattle.format.specs.Fault.{Fault}
use Rattle.format.specs.Judged.{refused}
use Rattle.format.specs.Lent.{lent_for_reading, cells}
use Rattle.format.specs.Block.{blocks_fit}
use Rattle.format.specs.BlockFault.{FaultIn, refuses_block}
use Rattle.format.specs.Candidate.{Candidate, candidates}
use Rattle.format.specs.Find.{carrying, only, candidate_part, find_cells, find}
use Rattle.format.specs.Blocks.{Wanted, judge_fit, offset_of, wrong_at}
use Rattle.base.specs.Lists.{Member}
use Rattle.base.proofs.Tests.{false-true}
use Rattle.format.proofs.Base.Judged.{then-refused, require-refused}
use Rattle.format.proofs.Sector.BlocksJudged.{fit_good}
use Rattle.format.proofs.Sector.FaultBytes.{FaultAt, fault_at_lem, part_refused, part_faulty}
use Rattle.format.proofs.Find.CandidateBytes.{rest_in_track}
use Rattle.format.proofs.Find.FindParts.{rest_place, only_is, carrying_member}
use Rattle.format.proofs.Faults.OtherAnswers.{other_refused, fit_other, only_other}

-- The key or the data of sector s is at fault on the pair t and m: the part f is the first that is wrong in the block that opens at q, which is that of the candidate x.
pub record FaultyPart (s : ℕ) (w : Wanted) (t m : List ℕ) (f : Fault) (q : ℕ) (x : Candidate) : Type 0 where
  -- The pair is lent within the rule.
  pub lent : lent_for_reading t m ≡ true
  -- x is the only candidate that carries s.
  pub alone : carrying s (candidates (cells t m)) ≡ x ∷ []
  -- Its blocks and the least gap fit its span.
  pub fits : blocks_fit x.last x.rest ≡ true
  -- The block opens at q.
  pub place_is : q ≡ rest_place x + offset_of w x.rest
  -- The part f of it is the first that is wrong.
  pub fault : FaultIn w f x.rest

-- The answer a is that of the block asked for, which is at fault.
abbrev FaultFound : ℕ → Wanted → List ℕ → List ℕ → Answer → Type 0
FaultFound s w t m a = (f : Fault) × (q : ℕ) × (x : Candidate) × (a ≡ wrong_at w f q) × FaultyPart s w t m f q x

-- What Find refuses by is another answer, or the block asked for is at fault.
find_refused : (s : ℕ) (w : Wanted) (t m : List ℕ) (a : Answer) → find s w t m ≡ refused a → (refuses_block a ≡ false) ⊎ FaultFound s w t m a
unfolding find find_cells candidate_part
find_refused s w t m a e =
    let xs : List Candidate = candidates (cells t m) in
    require-refused (lent_for_reading t m) lent_wrong (find_cells s w (cells t m)) a e
    (λ b g. inl (ap refuses_block (sym g)))
    (λ l d. then-refused (only (carrying s xs)) (candidate_part w) a d
    (λ g. inl (other_refused (only (carrying s xs)) a (only_other (carrying s xs)) g))
    (λ x o d. then-refused (judge_fit x.place x.last x.rest) _ a d
    (λ g. inl (other_refused (judge_fit x.place x.last x.rest) a (fit_other x.place x.last x.rest) g))
    (λ v k d.
    let fit : blocks_fit x.last x.rest ≡ true = fit_good x.place x.last x.rest v k in
    let h = part_refused w (rest_place x) x.rest a d in
    inr (h.0, rest_place x + offset_of w x.rest, x, h.1, record { lent = l; alone = only_is (carrying s xs) x o; fits = fit; place_is = refl; fault = h.2 }))))

-- Where Find gives 10 or 11 the block asked for is at fault, and the answer is that of the fault at the place of the block.
pub find_faulty : (s : ℕ) (w : Wanted) (t m : List ℕ) (a : Answer) → find s w t m ≡ refused a → refuses_block a ≡ true
    → (f : Fault) × (q : ℕ) × (x : Candidate) × (a ≡ wrong_at w f q) × FaultyPart s w t m f q x
find_faulty s w t m a e u = ⊎_elim {C = FaultFound s w t m a} (λ (o : refuses_block a ≡ false). false-true (sym o ∙ u)) (λ (v : FaultFound s w t m a). v) (find_refused s w t m a e)

-- And where the block asked for is at fault Find gives that answer.
pub faulty_find : (s : ℕ) (w : Wanted) (t m : List ℕ) (f : Fault) (q : ℕ) (x : Candidate) → FaultyPart s w t m f q x → find s w t m ≡ refused (wrong_at w f q)
unfolding find find_cells candidate_part only judge_fit
faulty_find s w t m f q x v =
    rw (v.lent, v.alone, v.fits, v.place_is) (part_faulty w f (rest_place x) x.rest v.fault)

-- Such a block lies in the span of its count, and the bytes of the lent track from q on are those in which the part f is the first that is wrong.
pub faulty_bytes : (s : ℕ) (w : Wanted) (t m : List ℕ) (f : Fault) (q : ℕ) (x : Candidate) → FaultyPart s w t m f q x → FaultAt w f t (rest_place x) x.rest q
faulty_bytes s w t m f q x v =
    let h = carrying_member s (candidates (cells t m)) x (subst (Member x) (sym v.alone) (inl refl)) in
    let b = rest_in_track t m x h.0 in
    rw v.place_is (fault_at_lem w f x.last x.rest t b.0 (rest_place x) v.fits v.fault b.1)
