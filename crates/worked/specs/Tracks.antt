-- The tracks of the worked numbers, and what the table reads off them.
use Rattle.std.specs.Prelude.{ℕ, ◌+◌, ◌-◌, Bool, true, false, List, [], ◌∷◌, ◌++◌, map, length, take, drop, replicate}
use Rattle.crc.specs.Check.{check_bytes}
use Rattle.crc.specs.Burst.{alter_bit}
use Rattle.format.specs.Answer.{Answer}
use Rattle.format.specs.Lent.{cells}
use Rattle.format.specs.Judged.{Judged, good, refused, then, answer_of}
use Rattle.format.specs.Address.{Address, address_bytes}
use Rattle.format.specs.Block.{key_offset, data_offset, empty_closing, block_end}
use Rattle.format.specs.Sector.{Sector, opening_length}
use Rattle.format.specs.Accept.{Placed, Accepted, accept_cells, accept, end_of}
use Rattle.format.specs.Listing.{Listed, listed, list}
use Rattle.format.specs.Pieces.{track_pieces}
use Rattle.format.specs.GapRule.{gap_one, GapRule, rule_one}
use Rattle.format.specs.Written.{Pair, home_gap, written_block, written_sector}
use Rattle.format.specs.Blank.{blank}
use Rattle.format.specs.Add.{add_cells, add}
use Rattle.format.specs.Correct.{correct_cells}
use Rattle.format.specs.Together.{Correction, corrected_pair}

-- Cylinder c and head h.
unfoldable pub address : ℕ → ℕ → Address
address c h = record { cylinder = c; head = h }

-- Cylinder 100, head 7, flag 00, sector 0 without a key and with n bytes of data, on a track of length l.
unfoldable pub blank_of : ℕ → ℕ → Judged Pair
blank_of l n = blank l l (address 100 7) 0 (address 0 0) 0 [] (replicate n 0x00)

-- That track with 8 bytes in sector 0, and sector 1 added with KL 3 and DL 80.
unfoldable pub two_sectors : Judged Pair
two_sectors = then (blank_of 3906 8) (λ p. add rule_one p.track p.marks 3906 3906 0 1 (replicate 3 0x41) (replicate 80 0x42))

-- Accept of what was written.
unfoldable pub accept_of : Judged Pair → Judged Accepted
accept_of j = then j (λ p. accept p.track p.marks)

-- An answer as its number and its place.
unfoldable pub numbers : Answer → List ℕ
numbers a = a.number ∷ a.place ∷ []

-- Count's opening, key's or else data block's opening, data block's opening, its end, and where the next sector would open by rule one.
unfoldable pub places_in : Placed → List ℕ
places_in x =
    let o = opening_length x.sector.first in
    let end = end_of x in
    let next = end + gap_one (length x.sector.key_bytes) (length x.sector.data_bytes) in
    let key_at = x.place + o + key_offset in
    let data_at = x.place + o + data_offset (drop o x.span) in
    x.place ∷ key_at ∷ data_at ∷ end ∷ next ∷ []

-- Those of all sectors.
unfoldable pub places : List Placed → List ℕ
places [] = []
places (x ∷ xs) = places_in x ++ places xs

-- Those of an accepted track, or the answer that refuses it.
unfoldable pub places_of : Judged Accepted → List ℕ
places_of (good a) = places a.sectors
places_of (refused a) = numbers a

-- A sector without a key and with n zero bytes of data.
unfoldable pub sector_of : Bool → ℕ → Address → ℕ → ℕ → Sector
sector_of first flag a s n =
    record { first = first; flag = flag; address = a; number = s; key_bytes = []; data_bytes = replicate n 0x00 }

-- A track by hand: home at p with the address a; sector 0 without a key and with 8 bytes of data, a gap of n bytes; sector 1
-- without a key and with 80 bytes of data, and a gap of m bytes to index.
unfoldable pub by_hand : ℕ → Address → ℕ → ℕ → List ℕ
by_hand p a n m =
    replicate p 0x00
    ++ ((written_block (0x00 ∷ address_bytes a) ++ home_gap)
    ++ ((written_sector (sector_of true 0x00 a 0 8) ++ replicate n 0xFF)
    ++ (written_sector (sector_of false 0x80 a 1 80) ++ replicate m 0xFF)))

-- Accept's answer for such cells, a lent pair's length apart.
unfoldable pub answer_by_hand : ℕ → Address → ℕ → ℕ → List ℕ
answer_by_hand p a n m = numbers (answer_of (accept_cells (by_hand p a n m)))

-- Accept's answer for a pair of l zeros.
unfoldable pub answer_of_zeros : ℕ → List ℕ
answer_of_zeros l = numbers (answer_of (accept (replicate l 0x00) (replicate l 0)))

-- A short track by hand: home at 30; sector 0 as above; sector 1 with a key of 3 bytes, which opens at 153, and 4 bytes of data, which open at 176;
-- sector 2 without a key and without data, whose block opens at 241.
unfoldable pub three_by_hand : List ℕ
three_by_hand =
    let a : Address = address 100 7 in
    let keyed : Sector = record { first = false; flag = 0x80; address = a; number = 1; key_bytes = replicate 3 0x41; data_bytes = replicate 4 0x42 } in
    replicate 30 0x00
    ++ ((written_block (0x00 ∷ address_bytes a) ++ home_gap)
    ++ ((written_sector (sector_of true 0x00 a 0 8) ++ replicate 21 0xFF)
    ++ ((written_sector keyed ++ replicate 21 0xFF)
    ++ (written_sector (sector_of false 0x00 a 2 0) ++ replicate 13 0xFF))))

-- The cells c with the byte A5 at each of the places ps.
unfoldable pub spoiled_at : List ℕ → List ℕ → List ℕ
spoiled_at [] c = c
spoiled_at (p ∷ ps) c = spoiled_at ps (take p c ++ (0xA5 ∷ drop (p + 1) c))

-- Number, second number and place of Accept's answer for that track spoiled at these places.
unfoldable pub answer_spoiled : List ℕ → List ℕ
answer_spoiled ps = let a : Answer = answer_of (accept_cells (spoiled_at ps three_by_hand)) in a.number ∷ a.fault ∷ a.place ∷ []

-- Information and check of the home of cylinder c and head h, flag 00.
unfoldable pub checked_home : ℕ → ℕ → List ℕ
checked_home c h = let info : List ℕ = 0x00 ∷ address_bytes (address c h) in info ++ check_bytes info

-- The bytes or cells c with the bit at each place of a list altered.
unfoldable pub altered_at : List ℕ → List ℕ → List ℕ
altered_at [] c = c
altered_at (i ∷ is) c = altered_at is (alter_bit i c)

-- Number, second number and place of the answer that Accept's judgement of the cells gives for the short track `threeByHand` with these bits altered; bits count from index, eight to a byte.
unfoldable pub answer_altered : List ℕ → List ℕ
answer_altered is = let a : Answer = answer_of (accept_cells (altered_at is three_by_hand)) in a.number ∷ a.fault ∷ a.place ∷ []

-- FF FF CC and n bytes FF behind it.
unfoldable pub closed_gap : ℕ → List ℕ
closed_gap n = empty_closing ++ replicate n 0xFF

-- A short track by hand: home at 30; sector 0 without a key and with n bytes of data, whose block opens at 84, and the gap y; sector 1 without a key and without data, and the gap z
-- to index.
unfoldable pub gaps_by_hand : ℕ → List ℕ → List ℕ → List ℕ
gaps_by_hand n y z =
    let a : Address = address 100 7 in
    replicate 30 0x00
    ++ ((written_block (0x00 ∷ address_bytes a) ++ home_gap)
    ++ ((written_sector (sector_of true 0x00 a 0 n) ++ y)
    ++ (written_sector (sector_of false 0x80 a 1 0) ++ z)))

-- The places of its sectors, or the answer that refuses it.
unfoldable pub places_by_hand : ℕ → List ℕ → List ℕ → List ℕ
places_by_hand n y z = places_of (accept_cells (gaps_by_hand n y z))

-- Number, second number and place of Accept's answer for the track without data and with the gap y, spoiled at the place of sector 0's 00.
unfoldable pub answer_without_zero : List ℕ → List ℕ
answer_without_zero y = let a : Answer = answer_of (accept_cells (spoiled_at (90 ∷ []) (gaps_by_hand 0 y (replicate 13 0xFF)))) in a.number ∷ a.fault ∷ a.place ∷ []

-- Where the block of that sector 0 ends behind its count's opening, if only n bytes behind the opening lie in its span; the gap starts with FF FF CC.
unfoldable pub end_in : ℕ → List ℕ
end_in n = block_end (take n (drop 61 (gaps_by_hand 0 (closed_gap 21) (replicate 13 0xFF)))) ∷ []

-- The cells from place p to place q that an outcome has, or its answer.
unfoldable pub cells_of : ℕ → ℕ → Judged (List ℕ) → List ℕ
cells_of p q (good c) = take (q - p) (drop p c)
cells_of p q (refused a) = numbers a

-- The cells from 143 to 178 after a sector was added to the track without data and with the gap z at index: the block of sector 1, its gap, and what follows.
unfoldable pub added_behind : List ℕ → List ℕ
added_behind z = cells_of 143 178 (add_cells rule_one (gaps_by_hand 0 (replicate 21 0xFF) z) 0 2 [] [])

-- The cells from 84 to 116 after sector 0 of the track without data and with the gap y got no data anew: its block, its gap, and what follows.
unfoldable pub laid_out_afresh : List ℕ → List ℕ
laid_out_afresh y = cells_of 84 116 (correct_cells rule_one (gaps_by_hand 0 y (replicate 13 0xFF)) 0 [] [])

-- The numbers of sector records: flag, S, KL, DL, the key's place, the data's place, end and gap of each.
unfoldable pub record_numbers : List Listed → List ℕ
record_numbers [] = []
record_numbers (r ∷ rs) = r.flag ∷ r.number ∷ r.key_length ∷ r.data_length ∷ r.key_place ∷ r.data_place ∷ r.end ∷ r.gap ∷ record_numbers rs

-- Those that List gives for what was written and a list of n, or its answer.
unfoldable pub listed_in : ℕ → Judged Pair → List ℕ
listed_in n j = numbers_or (then j (λ p. list n p.track p.marks))
  where
    numbers_or : Judged (List Listed) → List ℕ
    numbers_or (good rs) = record_numbers rs
    numbers_or (refused a) = numbers a

-- The lengths of the pieces of the cells c, or the answer that refuses them.
unfoldable pub pieces_of : List ℕ → List ℕ
pieces_of c = pieces_or (accept_cells c)
  where
    pieces_or : Judged Accepted → List ℕ
    pieces_or (good a) = track_pieces c a.home.place (map listed a.sectors)
    pieces_or (refused a) = numbers a

-- Those of what was written.
unfoldable pub pieces_written : Judged (List ℕ) → List ℕ
pieces_written (good c) = pieces_of c
pieces_written (refused a) = numbers a

-- Number 5's track with sector 2 added behind it, without a key and without data.
unfoldable pub three_sectors : Judged Pair
three_sectors = then two_sectors (λ p. add rule_one p.track p.marks 3906 3906 0 2 [] [])

-- A correction of that track's sector 0: other data of 8 bytes.
unfoldable pub new_zero : Correction
new_zero = record { number = 0; key = []; body = replicate 8 0x43 }

-- A correction of its sector 1: the same key, and other data of 80 bytes.
unfoldable pub new_one : Correction
new_one = record { number = 1; key = replicate 3 0x41; body = replicate 80 0x44 }

-- The correction x of what was written, by a rule.
unfoldable pub corrected_by : GapRule → Correction → Judged Pair → Judged Pair
corrected_by rule x j = then j (λ p. corrected_pair rule p.track p.marks x)

-- The lengths of the pieces of what was written, or its answer.
unfoldable pub pair_pieces : Judged Pair → List ℕ
pair_pieces j = pieces_written (then j (λ p. good (cells p.track p.marks)))

-- Those of number 5's track after one more sector without key and data was added by a rule.
unfoldable pub pieces_added : GapRule → List ℕ
pieces_added rule = pair_pieces (then two_sectors (λ p. add rule p.track p.marks 3906 3906 0 2 [] []))

-- Those of the track with three sectors after both corrections: that of sector 0 by the rule r first, and then that of sector 1 by the rule s;
unfoldable pub zero_then_one : GapRule → GapRule → List ℕ
zero_then_one r s = pair_pieces (corrected_by s new_one (corrected_by r new_zero three_sectors))

-- and in the other order.
unfoldable pub one_then_zero : GapRule → GapRule → List ℕ
one_then_zero r s = pair_pieces (corrected_by r new_zero (corrected_by s new_one three_sectors))
