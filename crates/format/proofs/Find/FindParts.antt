-- What Find settles on: the only candidate that carries S, and its key or data where that is right.
use mathlib.Core.Path.{◌≡◌, refl, sym, ap, ◌∙◌}
use mathlib.Core.Logic.{inl, inr, ⊎_elim}
use Prim.Native.Nat.{ℕ, ◌+◌}
use mathlib.Core.Bool.{false}
use mathlib.Core.List.{List, [], ◌∷◌}
use lib.ListN.{take, drop}
use lib.Dec.{eqb}
use borrow.Author.Tests.{eqb-true}
use Rattle.format.specs.Answer.{sector_missing, sector_repeated}
use Rattle.format.specs.Judged.{good}
use Rattle.format.specs.Count.{count_number}
use Rattle.format.specs.Fault.{sound}
use Rattle.format.specs.Block.{test_block, block_info, key_info, data_info}
use Rattle.format.specs.Sector.{opening_length}
use Rattle.format.specs.Candidate.{Candidate}
use Rattle.format.specs.Find.{carrying, only}
use Rattle.format.specs.Blocks.{Wanted, the_key, the_data, Part, part_at, wanted_part, blocks_at, offset_of, length_of, info_of}
use Rattle.format.proofs.Base.Judged.{good_inj, refused-good}
use Rattle.base.proofs.Tests.{cases}
use Rattle.base.specs.Lists.{Member}
use Rattle.format.proofs.Sector.BlocksJudged.{part_good, test_block_lem, part_in_is}

-- Where the bytes of a count begin, behind its opening.
abbrev pub rest_place : Candidate → ℕ
rest_place x = x.place + opening_length x.first

-- The information in what follows the opening.
pub info_is : (w : Wanted) (r : List ℕ) → info_of w r ≡ take (length_of w r) (drop 6 (drop (offset_of w r) r))
unfolding key_info data_info block_info
info_is the_key r = refl
info_is the_data r = refl

-- What a part is that was found to be right.
pub record Right (w : Wanted) (x : Candidate) (part : Part) : Type 0 where
  pub size_is : part.size ≡ length_of w x.rest
  pub start_is : eqb (length_of w x.rest) 0 ≡ false → part.start ≡ rest_place x + offset_of w x.rest + 6
  pub right : eqb (length_of w x.rest) 0 ≡ false → test_block (length_of w x.rest) (drop (offset_of w x.rest) x.rest) ≡ sound

-- The part asked for is right.
pub found_right : (w : Wanted) (x : Candidate) (part : Part) → wanted_part w (blocks_at (rest_place x) x.rest) ≡ good part → Right w x part
unfolding part_at
found_right w x part e =
    let r : List ℕ = x.rest in
    let a = part_good w (rest_place x) r part e in
    let is = sym (part_in_is w (rest_place x) r) ∙ a.1 in
    record {
      size_is = sym (ap (λ (p : Part). p.size) is);
      start_is = λ z. sym (ap (λ (p : Part). p.start) is) ∙ rw z;
      right = λ z. sym (test_block_lem w r z) ∙ a.0;
    }

-- The only candidate stands alone.
pub only_is : (xs : List Candidate) (x : Candidate) → only xs ≡ good x → xs ≡ x ∷ []
unfolding only
only_is [] x e = refused-good sector_missing x e
only_is (y ∷ []) x e = ap (λ (z : Candidate). z ∷ []) (good_inj y x e)
only_is (y ∷ z ∷ r) x e = refused-good (sector_repeated z.place) x e

-- What carries s is one of the candidates, and has the number s.
pub carrying_member : (s : ℕ) (xs : List Candidate) (x : Candidate) → Member x (carrying s xs) → Member x xs × (count_number x.rest ≡ s)
unfolding carrying
carrying_member s [] x m = absurd m
carrying_member s (y ∷ ys) x m =
    cases (eqb (count_number y.rest) s)
    (λ e. ⊎_elim {C = Member x (y ∷ ys) × (count_number x.rest ≡ s)}
    (λ (q : x ≡ y). (inl q, ap (λ (z : Candidate). count_number z.rest) q ∙ eqb-true (count_number y.rest) s e))
    (λ (n : Member x (carrying s ys)). let h = carrying_member s ys x n in (inr h.0, h.1))
    (rw e at m))
    (λ e. let h = carrying_member s ys x (rw e at m) in (inr h.0, h.1))
