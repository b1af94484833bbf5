-- What is wrong with a block, by the bytes that stand in its span: the words of the laws about the second number.
use Rattle.std.specs.Prelude.{ℕ, ◌+◌, ◌≤◌, ◌≡◌, ◌⊎◌, Bool, false, ◌||◌, List, [], ◌∷◌, take, drop, eqb}
use Rattle.base.specs.Pick.{pick}
use Rattle.crc.specs.Check.{check_bytes}
use Rattle.format.specs.Layout.{plain_length, check_length}
use Rattle.format.specs.Opening.{plain_opening}
use Rattle.format.specs.Count.{key_length, data_length}
use Rattle.format.specs.Fault.{Fault, opening_wrong, check_wrong, closing_wrong}
use Rattle.format.specs.Answer.{Answer}
use Rattle.format.specs.Block.{key_offset, data_offset}
use Rattle.format.specs.Blocks.{Wanted, the_key, the_data}

-- The first six bytes of c are an opening.
abbrev pub OpeningStands : List ℕ → Type 0
OpeningStands c = take plain_length c ≡ plain_opening

-- The two bytes behind the opening and n information bytes are the check of the information.
abbrev pub CheckStands : ℕ → List ℕ → Type 0
CheckStands n c = take check_length (drop (plain_length + n) c) ≡ check_bytes (take n (drop plain_length c))

-- The byte behind these is CC.
abbrev pub ClosingStands : ℕ → List ℕ → Type 0
ClosingStands n c = take 1 (drop (plain_length + n + check_length) c) ≡ 0xCC ∷ []

-- The byte behind the opening is 00.
abbrev pub ZeroStands : List ℕ → Type 0
ZeroStands c = take 1 (drop plain_length c) ≡ 0x00 ∷ []

-- The part f is the first that is wrong in the block of n information bytes at the front of c.
abbrev pub BlockFault : Fault → ℕ → List ℕ → Type 0
BlockFault opening_wrong n c = OpeningStands c → ⊥
BlockFault check_wrong n c = OpeningStands c × (CheckStands n c → ⊥)
BlockFault closing_wrong n c = OpeningStands c × CheckStands n c × (ClosingStands n c → ⊥)

-- The same of a data block where DL = 0: one that opens can only lack its 00, which counts as the check.
abbrev pub EmptyFault : Fault → List ℕ → Type 0
EmptyFault opening_wrong c = OpeningStands c → ⊥
EmptyFault check_wrong c = OpeningStands c × (ZeroStands c → ⊥)
EmptyFault closing_wrong c = ⊥

-- The part f is the first that is wrong in the key or the data block of n information bytes at the front of c; where n = 0 there is no key to be wrong.
abbrev pub FaultOf : Wanted → Fault → ℕ → List ℕ → Type 0
FaultOf the_key f n c = (n ≡ 0 → ⊥) × BlockFault f n c
FaultOf the_data f n c = ((n ≡ 0) × EmptyFault f c) ⊎ ((n ≡ 0 → ⊥) × BlockFault f n c)

-- The same of the key or the data block in r, which follows a count's opening.
abbrev pub FaultIn : Wanted → Fault → List ℕ → Type 0
FaultIn the_key f r = FaultOf the_key f (key_length r) (drop key_offset r)
FaultIn the_data f r = FaultOf the_data f (data_length r) (drop (data_offset r) r)

-- The second number k says which part is the first that is wrong in that block: 1 the opening, 2 the check, 3 the closing byte.
abbrev pub SaysFault : ℕ → Wanted → ℕ → List ℕ → Type 0
SaysFault k w n c =
    ((k ≡ 1) × FaultOf w opening_wrong n c) ⊎ (((k ≡ 2) × FaultOf w check_wrong n c) ⊎ ((k ≡ 3) × FaultOf w closing_wrong n c))

-- The answer refuses a block: it is 10 or 11.
abbrev pub refuses_block : Answer → Bool
refuses_block a = eqb a.number 10 || eqb a.number 11

-- The second number goes with the number: 1, 2 or 3 with 10 and 11, and 0 with all others.
abbrev pub SecondRight : Answer → Type 0
SecondRight a = pick (refuses_block a) ((1 ≤ a.fault) × (a.fault ≤ 3)) (a.fault ≡ 0)

-- The answer is neither 10 nor 11, and its second number is 0.
abbrev pub SecondNone : Answer → Type 0
SecondNone a = (refuses_block a ≡ false) × (a.fault ≡ 0)
