-- What is wrong with a block, by its bytes: the test of the key or of the data block says it and nothing else, and so does the answer that refuses it.
use mathlib.Core.Path.{◌≡◌, refl, sym, ap, ◌∙◌, subst}
use mathlib.Core.Logic.{inl, inr}
use Prim.Native.Nat.{ℕ, ◌+◌, ◌≤◌}
use native.Mathlib.Omega.{arith}
use mathlib.Core.Bool.{Bool, true, false}
use mathlib.Core.List.{List, [], ◌∷◌, ◌++◌, append-nil}
use lib.ListN.{length, take, drop, length-drop, take-append-drop}
use lib.Seq.{take_at, drop-append-le, drop-drop}
use lib.Dec.{eqb}
use borrow.Author.Tests.{eqb-true, eqb-false, eq-eqb, ne_eqb}
use Rattle.crc.specs.Check.{check_bytes}
use Rattle.format.specs.Answer.{Answer}
use Rattle.format.specs.Judged.{good, refused}
use Rattle.format.specs.Opening.{starts_with, plain_opening, check_follows, closing_follows}
use Rattle.format.specs.Count.{key_length, data_length}
use Rattle.format.specs.Fault.{Fault, opening_wrong, check_wrong, closing_wrong, sound, faulty}
use Rattle.format.specs.Block.{key_offset, data_offset, blocks_fit, test_block, test_empty, test_key, test_data}
use Rattle.format.specs.Blocks.{Wanted, the_key, the_data, part_in, blocks_at, wanted_part, offset_of, length_of, test_of, wrong_at}
use Rattle.format.specs.BlockFault.{OpeningStands, CheckStands, ClosingStands, ZeroStands, BlockFault, EmptyFault, FaultOf, FaultIn}
use Rattle.base.proofs.Tests.{cases, false-true}
use Rattle.format.proofs.Base.Judged.{good-refused, sound-faulty, demand-faulty, sound-refused}
use Rattle.format.proofs.Cells.Opening.{starts_with_self, starts_with_front}
use Rattle.format.proofs.Cells.Local.{block_local, empty_local}
use Rattle.format.proofs.Sector.BlocksJudged.{block_fits, part_judged, part_wrong}

-- The test b holds exactly where X does.
record Says (b : Bool) (X : Type 0) : Type 0 where
  holds : b ≡ true → X
  made : X → b ≡ true

-- Where it fails X does not hold.
says_false : {b : Bool} {X : Type 0} → Says b X → b ≡ false → X → ⊥
says_false s e x = false-true (sym e ∙ s.made x)

-- Where X does not hold it fails.
false_says : {b : Bool} {X : Type 0} → Says b X → (X → ⊥) → b ≡ false
false_says {b} s n = cases b (λ e. absurd (n (s.holds e))) (λ e. e)

-- A list starts with another exactly where its front is that one.
starts_says : (o c : List ℕ) → Says (starts_with o c) (take (length o) c ≡ o)
starts_says o c =
    let z : List ℕ = drop (length o) c in
    let whole : take (length o) c ++ z ≡ c = take-append-drop (length o) c in
    record {
      holds = λ e. ap (take (length o)) (starts_with_front o c e) ∙ take_at o z (length o) refl;
      made = λ e. subst (λ (r : List ℕ). starts_with o r ≡ true) (ap (λ (l : List ℕ). l ++ z) (sym e) ∙ whole) (starts_with_self o z);
    }

-- The opening of a block is tried first.
opening_says : (c : List ℕ) → Says (starts_with plain_opening c) (OpeningStands c)
opening_says c = starts_says plain_opening c

-- The block of n information bytes at the front of c.
module _ (n : ℕ) (c : List ℕ) where
  -- Then its check,
  check_says : Says (check_follows n (drop 6 c)) (CheckStands n c)
  unfolding check_follows check_bytes
  check_says = rw (drop-drop n 6 c) (starts_says (check_bytes (take n (drop 6 c))) (drop (6 + n) c))

  -- and its closing byte last.
  closing_says : Says (closing_follows n (drop 6 c)) (ClosingStands n c)
  unfolding closing_follows
  closing_says =
      let same : 6 + (n + 2) ≡ 6 + n + 2 = omega arith in
      rw (drop-drop (n + 2) 6 c, same) (starts_says (0xCC ∷ []) (drop (6 + n + 2) c))

  -- What the test of the block says is at fault is the first part that is wrong,
  pub block_fault : (f : Fault) → test_block n c ≡ faulty f → BlockFault f n c
  unfolding test_block
  block_fault f e =
      demand-faulty (starts_with plain_opening c) opening_wrong _ f e
      (λ b g. subst (λ (a : Fault). BlockFault a n c) g (says_false (opening_says c) b))
      (λ o d. demand-faulty (check_follows n (drop 6 c)) check_wrong _ f d
      (λ b g. subst (λ (a : Fault). BlockFault a n c) g ((opening_says c).holds o, says_false check_says b))
      (λ k l. demand-faulty (closing_follows n (drop 6 c)) closing_wrong _ f l
      (λ b g. subst (λ (a : Fault). BlockFault a n c) g ((opening_says c).holds o, check_says.holds k, says_false closing_says b))
      (λ b g. sound-faulty f g)))

  -- and where a part is the first that is wrong the test says so.
  pub fault_block : (f : Fault) → BlockFault f n c → test_block n c ≡ faulty f
  unfolding test_block
  fault_block opening_wrong v = rw (false_says (opening_says c) v)
  fault_block check_wrong v = rw ((opening_says c).made v.0, false_says check_says v.1)
  fault_block closing_wrong v = rw ((opening_says c).made v.0, check_says.made v.1, false_says closing_says v.2)

-- The data block at the front of c where DL = 0.
module _ (c : List ℕ) where
  -- Its 00 is tried behind its opening.
  zero_says : Says (starts_with (0x00 ∷ []) (drop 6 c)) (ZeroStands c)
  zero_says = starts_says (0x00 ∷ []) (drop 6 c)

  -- What its test says is at fault is the first part that is wrong,
  pub empty_fault : (f : Fault) → test_empty c ≡ faulty f → EmptyFault f c
  unfolding test_empty
  empty_fault f e =
      demand-faulty (starts_with plain_opening c) opening_wrong _ f e
      (λ b g. subst (λ (a : Fault). EmptyFault a c) g (says_false (opening_says c) b))
      (λ o d. demand-faulty (starts_with (0x00 ∷ []) (drop 6 c)) check_wrong sound f d
      (λ b g. subst (λ (a : Fault). EmptyFault a c) g ((opening_says c).holds o, says_false zero_says b))
      (λ b g. sound-faulty f g))

  -- and where a part is the first that is wrong the test says so.
  pub fault_empty : (f : Fault) → EmptyFault f c → test_empty c ≡ faulty f
  unfolding test_empty
  fault_empty opening_wrong v = rw (false_says (opening_says c) v)
  fault_empty check_wrong v = rw ((opening_says c).made v.0, false_says zero_says v.1)
  fault_empty closing_wrong v = absurd v

-- What the test of the key or of the data block says is at fault is the first part of it that is wrong,
pub tested_fault : (w : Wanted) (f : Fault) (r : List ℕ) → test_of w r ≡ faulty f → FaultIn w f r
unfolding test_key test_data
tested_fault the_key f r e =
    cases (eqb (key_length r) 0)
    (λ z. sound-faulty f (rw z at e))
    (λ z. (eqb-false (key_length r) 0 z, block_fault (key_length r) (drop key_offset r) f (rw z at e)))
tested_fault the_data f r e =
    cases (eqb (data_length r) 0)
    (λ z. inl (eqb-true (data_length r) 0 z, empty_fault (drop (data_offset r) r) f (rw z at e)))
    (λ z. inr (eqb-false (data_length r) 0 z, block_fault (data_length r) (drop (data_offset r) r) f (rw z at e)))

-- and where a part is the first that is wrong the test says so.
pub fault_tested : (w : Wanted) (f : Fault) (r : List ℕ) → FaultIn w f r → test_of w r ≡ faulty f
unfolding test_key test_data
fault_tested the_key f r v = rw (ne_eqb (key_length r) 0 v.0) (fault_block (key_length r) (drop key_offset r) f v.1)
fault_tested the_data f r (inl v) = rw (eq-eqb (data_length r) 0 v.0) (fault_empty (drop (data_offset r) r) f v.1)
fault_tested the_data f r (inr v) = rw (ne_eqb (data_length r) 0 v.0) (fault_block (data_length r) (drop (data_offset r) r) f v.1)

-- Only one part of a block is the first that is wrong.
pub fault_same : (w : Wanted) (f g : Fault) (n : ℕ) (c : List ℕ) → FaultOf w f n c → FaultOf w g n c → f ≡ g
fault_same w f g n c u v = go w u v
  where
    go : (y : Wanted) → FaultOf y f n c → FaultOf y g n c → f ≡ g
    go the_key u v = let e : faulty f ≡ faulty g = sym (fault_block n c f u.1) ∙ fault_block n c g v.1 in cc
    go the_data (inl u) (inl v) = let e : faulty f ≡ faulty g = sym (fault_empty c f u.1) ∙ fault_empty c g v.1 in cc
    go the_data (inl u) (inr v) = absurd (v.0 u.0)
    go the_data (inr u) (inl v) = absurd (u.0 v.0)
    go the_data (inr u) (inr v) = let e : faulty f ≡ faulty g = sym (fault_block n c f u.1) ∙ fault_block n c g v.1 in cc

-- A block that is wrong stays so whatever follows it.
fault_append : (w : Wanted) (f : Fault) (n : ℕ) (c z : List ℕ) → n + 9 ≤ length c → FaultOf w f n c → FaultOf w f n (c ++ z)
fault_append w f n c z l v = go w v
  where
    block : BlockFault f n c → BlockFault f n (c ++ z)
    block b = block_fault n (c ++ z) f (block_local c [] z n 0 (omega arith) ∙ ap (test_block n) (append-nil c) ∙ fault_block n c f b)

    empty : EmptyFault f c → EmptyFault f (c ++ z)
    empty b = empty_fault (c ++ z) f (empty_local c [] z 0 (omega arith) ∙ ap test_empty (append-nil c) ∙ fault_empty c f b)

    go : (y : Wanted) → FaultOf y f n c → FaultOf y f n (c ++ z)
    go the_key b = (b.0, block b.1)
    go the_data (inl b) = inl (b.0, empty b.1)
    go the_data (inr b) = inr (b.0, block b.1)

-- On the track t, of which r follows a count's opening from place p on, the part f is the first that is wrong in the key or the data block that opens at q.
pub record FaultAt (w : Wanted) (f : Fault) (t : List ℕ) (p : ℕ) (r : List ℕ) (q : ℕ) : Type 0 where
  -- The track goes on from p with r and then behind.
  pub behind : List ℕ
  pub rest_is : drop p t ≡ r ++ behind
  -- The block opens at its offset,
  pub place_is : q ≡ p + offset_of w r
  -- and lies in r: its opening, its information and three bytes more.
  pub inside : q + 6 + length_of w r + 3 ≤ p + length r
  -- The part f is the first that is wrong in the bytes of the track from q on.
  pub fault : FaultOf w f (length_of w r) (drop q t)

-- A block that is wrong in r is wrong on the track of which r is a part.
pub fault_at_lem : (w : Wanted) (f : Fault) (last : Bool) (r t z : List ℕ) (p : ℕ) → blocks_fit last r ≡ true → FaultIn w f r → drop p t ≡ r ++ z → FaultAt w f t p r (p + offset_of w r)
fault_at_lem w f last r t z p k v e =
    let i : ℕ = offset_of w r in
    let l : i + 6 + length_of w r + 3 ≤ length r = block_fits w last r k in
    let here : drop (p + i) t ≡ drop i r ++ z = sym (drop-drop i p t) ∙ ap (drop i) e ∙ drop-append-le i r z (omega arith) in
    record {
      behind = z;
      rest_is = e;
      place_is = refl;
      inside = omega arith;
      fault = rw here (fault_append w f (length_of w r) (drop i r) z (omega (arith, length-drop i r)) (go w v));
    }
  where
    go : (y : Wanted) → FaultIn y f r → FaultOf y f (length_of y r) (drop (offset_of y r) r)
    go the_key b = b
    go the_data b = b

-- The block asked for in r, which follows a count's opening from place q on: where it is refused it is wrong, and the answer is that of the first part that is,
pub part_refused : (w : Wanted) (q : ℕ) (r : List ℕ) (a : Answer) → wanted_part w (blocks_at q r) ≡ refused a
    → (f : Fault) × (a ≡ wrong_at w f (q + offset_of w r)) × FaultIn w f r
part_refused w q r a e =
    sound-refused (test_of w r) _ (good (part_in w q r)) a (sym (part_judged w q r) ∙ e)
    (λ f h g. (f, sym g, tested_fault w f r h))
    (λ h g. good-refused (part_in w q r) a g)

-- and where it is wrong it is refused by that answer.
pub part_faulty : (w : Wanted) (f : Fault) (q : ℕ) (r : List ℕ) → FaultIn w f r → wanted_part w (blocks_at q r) ≡ refused (wrong_at w f (q + offset_of w r))
part_faulty w f q r v = part_wrong w q r f (fault_tested w f r v)
