-- What answers 10 and 11 tell of the lent track: the second number is that of the first part that is wrong in the block at the answer's place.
use mathlib.Core.Path.{◌≡◌, refl, sym, ap, ◌∙◌, subst}
use Prim.Native.Nat.{ℕ}
use mathlib.Core.Bool.{true}
use mathlib.Core.Logic.{inl, inr}
use mathlib.Core.List.{List}
use lib.ListN.{drop}
use Rattle.format.specs.Answer.{Answer}
use Rattle.format.specs.Fault.{Fault, opening_wrong, check_wrong, closing_wrong, fault_number}
use Rattle.format.specs.Count.{key_length, data_length}
use Rattle.format.specs.Judged.{refused}
use Rattle.format.specs.Blocks.{Wanted, the_key, the_data, length_of, wrong_at}
use Rattle.format.specs.BlockFault.{FaultOf, SaysFault, refuses_block}
use Rattle.format.specs.Find.{find}
use Rattle.format.specs.Accept.{accept}
use Rattle.format.proofs.Sector.FaultBytes.{FaultAt, fault_same}
use Rattle.format.proofs.Find.FindParts.{rest_place}
use Rattle.format.proofs.Faults.FindFault.{find_faulty, faulty_bytes}
use Rattle.format.proofs.Faults.AcceptFault.{place_reached, rest_reached, accept_faulty, sector_bytes}

-- The number that refuses the key or the data block.
abbrev pub number_for : Wanted → ℕ
number_for the_key = 10
number_for the_data = 11

-- The answer a tells what is wrong with the key or the data block of a count on the track t.
pub record TellsFault (w : Wanted) (t : List ℕ) (a : Answer) : Type 0 where
  -- What follows the count's opening, and the place from which it follows.
  pub start : ℕ
  pub rest : List ℕ
  -- The block opens at the answer's place and lies in the count's span; this part is the first that is wrong in it.
  pub part : Fault
  pub bytes : FaultAt w part t start rest a.place
  -- The number says which block it is,
  pub number_is : a.number ≡ number_for w
  -- and the second number, 1, 2 or 3, which part is the first that is wrong in the bytes of the track from that place on.
  pub fault_says : SaysFault a.fault w (length_of w rest) (drop a.place t)

-- The number of a fault says which part it is.
number_says : (w : Wanted) (f : Fault) (n : ℕ) (c : List ℕ) → FaultOf w f n c → SaysFault (fault_number f) w n c
number_says w opening_wrong n c v = inl (refl, v)
number_says w check_wrong n c v = inr (inl (refl, v))
number_says w closing_wrong n c v = inr (inr (refl, v))

wrong_tells : (w : Wanted) (f : Fault) (q : ℕ) (t : List ℕ) (p : ℕ) (r : List ℕ) → FaultAt w f t p r q → TellsFault w t (wrong_at w f q)
wrong_tells the_key f q t p r v =
    record { start = p; rest = r; part = f; bytes = v; number_is = refl; fault_says = number_says the_key f (key_length r) (drop q t) v.fault }
wrong_tells the_data f q t p r v =
    record { start = p; rest = r; part = f; bytes = v; number_is = refl; fault_says = number_says the_data f (data_length r) (drop q t) v.fault }

-- The second number is exactly that: 1 where the opening is wrong, 2 where the opening is right and the check wrong, 3 where both are right and the closing byte is wrong.
pub says_exactly : (k : ℕ) (w : Wanted) (n : ℕ) (c : List ℕ) → SaysFault k w n c
    → (FaultOf w opening_wrong n c → k ≡ 1) × (FaultOf w check_wrong n c → k ≡ 2) × (FaultOf w closing_wrong n c → k ≡ 3)
says_exactly k w n c s = (is s opening_wrong, is s check_wrong, is s closing_wrong)
  where
    is : SaysFault k w n c → (f : Fault) → FaultOf w f n c → k ≡ fault_number f
    is (inl (e, u)) f v = e ∙ ap fault_number (fault_same w opening_wrong f n c u v)
    is (inr (inl (e, u))) f v = e ∙ ap fault_number (fault_same w check_wrong f n c u v)
    is (inr (inr (e, u))) f v = e ∙ ap fault_number (fault_same w closing_wrong f n c u v)

-- Answers 10 and 11 of Find tell what is wrong with the block asked for.
pub find_tells : (s : ℕ) (w : Wanted) (t m : List ℕ) (a : Answer) → find s w t m ≡ refused a → refuses_block a ≡ true → TellsFault w t a
find_tells s w t m a e u =
    let (f, q, x, i, v) = find_faulty s w t m a e u in
    subst (TellsFault w t) (sym i) (wrong_tells w f q t (rest_place x) x.rest (faulty_bytes s w t m f q x v))

-- Those of Accept tell what is wrong with the key or the data block of a sector.
pub accept_tells : (t m : List ℕ) (a : Answer) → accept t m ≡ refused a → refuses_block a ≡ true → (w : Wanted) × TellsFault w t a
accept_tells t m a e u =
    let (w, f, q, i, v) = accept_faulty t m a e u in
    (w, subst (TellsFault w t) (sym i) (wrong_tells w f q t (place_reached v.reached) (rest_reached v.reached) (sector_bytes t m w f q v)))
