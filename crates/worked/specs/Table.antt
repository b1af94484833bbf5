-- The worked numbers as one table: what the definitions compute beside what the scope document states; and tables of the second number, of the data block without information, of sector records, of the rule of the gap, of two corrections by two rules, and of altered bits.
use Rattle.std.specs.Prelude.{◌≡◌, ℕ, Bool, true, false, ◌&&◌, List, [], ◌∷◌, ◌++◌, take, replicate, eqb}
use Rattle.crc.specs.Check.{check_bytes}
use Rattle.format.specs.Judged.{answer_of}
use Rattle.format.specs.Opening.{closing}
use Rattle.format.specs.Address.{address_bytes}
use Rattle.format.specs.GapRule.{rule_one, rule_two}
use Rattle.format.specs.Add.{add_cells}
use Rattle.format.specs.Correct.{correct_cells}
use Rattle.worked.specs.Tracks.{address, blank_of, two_sectors, accept_of, numbers, places_of, answer_by_hand, answer_of_zeros, three_by_hand, answer_spoiled, checked_home, altered_at, answer_altered, closed_gap, gaps_by_hand, places_by_hand, answer_without_zero, end_in, added_behind, laid_out_afresh, listed_in, pieces_of, pieces_written, pair_pieces, pieces_added, zero_then_one, one_then_zero}

-- A row of the table.
pub record Case : Type 0 where
  pub computed : List ℕ
  pub stated : List ℕ

-- Two lists of numbers are the same.
unfoldable pub same_numbers : List ℕ → List ℕ → Bool
same_numbers [] [] = true
same_numbers [] (y ∷ ys) = false
same_numbers (x ∷ xs) [] = false
same_numbers (x ∷ xs) (y ∷ ys) = eqb x y && same_numbers xs ys

-- The test of the whole table.
unfoldable pub all_hold : List Case → Bool
all_hold [] = true
all_hold (x ∷ xs) = same_numbers x.computed x.stated && all_hold xs

-- Every row holds.
abbrev pub EachHolds : List Case → Type 0
EachHolds [] = Unit {0}
EachHolds (x ∷ xs) = (x.computed ≡ x.stated) × EachHolds xs

-- Numbers 1 to 4: checks. Number 5: the places of both sectors. Number 6: the largest data at L = 3,906, and one byte more.
unfoldable pub starred : List Case
starred =
    record { computed = check_bytes (0x00 ∷ address_bytes (address 100 7)); stated = 0xFF ∷ 0x9C ∷ [] }
    ∷ record { computed = check_bytes (0x00 ∷ address_bytes (address 0 0)); stated = 0xFF ∷ 0xFF ∷ [] }
    ∷ record { computed = check_bytes (0x80 ∷ 0x00 ∷ 0x64 ∷ 0x00 ∷ 0x07 ∷ 0x01 ∷ 0x00 ∷ 0x00 ∷ 0x50 ∷ []); stated = 0xFE ∷ 0x4C ∷ [] }
    ∷ record { computed = check_bytes (0x41 ∷ []); stated = 0xFF ∷ 0xBE ∷ [] }
    ∷ record { computed = check_bytes (0x41 ∷ 0x42 ∷ []); stated = 0xBE ∷ 0xBD ∷ [] }
    ∷ record { computed = check_bytes (0xC1 ∷ 0xC2 ∷ 0xC3 ∷ []); stated = 0x3D ∷ 0xFD ∷ [] }
    ∷ record { computed = check_bytes (0x00 ∷ []); stated = 0xFF ∷ 0xFF ∷ [] }
    ∷ record { computed = places_of (accept_of (blank_of 3906 8)); stated = 55 ∷ 84 ∷ 84 ∷ 101 ∷ 122 ∷ [] }
    ∷ record { computed = places_of (accept_of two_sectors); stated = 55 ∷ 84 ∷ 84 ∷ 101 ∷ 122 ∷ 122 ∷ 153 ∷ 176 ∷ 265 ∷ 290 ∷ [] }
    ∷ record { computed = numbers (answer_of (blank_of 3906 3800)); stated = 0 ∷ 0 ∷ [] }
    ∷ record { computed = numbers (answer_of (blank_of 3906 3801)); stated = 15 ∷ 0 ∷ [] }
    ∷ []

-- Numbers 6 to 8 without a star. Number 6: the largest data at L = 3,815 and 4,002, and one byte more.
-- Number 7: L out of range; home at 22 or 38 only, and at 23 and 37; cylinder 203 or head 10, and 202 and 9.
-- Number 8: a gap of 20 and 21 before the next opening, of 12 and 13 before index.
unfoldable pub further : List Case
further =
    record { computed = numbers (answer_of (blank_of 3815 3709)); stated = 0 ∷ 0 ∷ [] }
    ∷ record { computed = numbers (answer_of (blank_of 3815 3710)); stated = 15 ∷ 0 ∷ [] }
    ∷ record { computed = numbers (answer_of (blank_of 4002 3896)); stated = 0 ∷ 0 ∷ [] }
    ∷ record { computed = numbers (answer_of (blank_of 4002 3897)); stated = 15 ∷ 0 ∷ [] }
    ∷ record { computed = answer_of_zeros 3814; stated = 1 ∷ 0 ∷ [] }
    ∷ record { computed = answer_of_zeros 3815; stated = 2 ∷ 23 ∷ [] }
    ∷ record { computed = answer_of_zeros 4002; stated = 2 ∷ 23 ∷ [] }
    ∷ record { computed = answer_of_zeros 4003; stated = 1 ∷ 0 ∷ [] }
    ∷ record { computed = answer_by_hand 22 (address 100 7) 21 13; stated = 2 ∷ 23 ∷ [] }
    ∷ record { computed = answer_by_hand 23 (address 100 7) 21 13; stated = 0 ∷ 0 ∷ [] }
    ∷ record { computed = answer_by_hand 37 (address 100 7) 21 13; stated = 0 ∷ 0 ∷ [] }
    ∷ record { computed = answer_by_hand 38 (address 100 7) 21 13; stated = 2 ∷ 23 ∷ [] }
    ∷ record { computed = answer_by_hand 30 (address 203 7) 21 13; stated = 4 ∷ 30 ∷ [] }
    ∷ record { computed = answer_by_hand 30 (address 202 9) 21 13; stated = 0 ∷ 0 ∷ [] }
    ∷ record { computed = answer_by_hand 30 (address 100 10) 21 13; stated = 4 ∷ 30 ∷ [] }
    ∷ record { computed = answer_by_hand 30 (address 100 7) 20 13; stated = 9 ∷ 55 ∷ [] }
    ∷ record { computed = answer_by_hand 30 (address 100 7) 21 12; stated = 9 ∷ 122 ∷ [] }
    ∷ []

-- The second number: a short track as it is; its key with opening, check and closing byte wrong; its data likewise, the check by an information byte; a data block where DL = 0
-- with opening and 00 wrong; two and three parts wrong at once; key and data both wrong.
unfoldable pub faults : List Case
faults =
    record { computed = answer_spoiled []; stated = 0 ∷ 0 ∷ 0 ∷ [] }
    ∷ record { computed = answer_spoiled (157 ∷ []); stated = 10 ∷ 1 ∷ 153 ∷ [] }
    ∷ record { computed = answer_spoiled (162 ∷ []); stated = 10 ∷ 2 ∷ 153 ∷ [] }
    ∷ record { computed = answer_spoiled (164 ∷ []); stated = 10 ∷ 3 ∷ 153 ∷ [] }
    ∷ record { computed = answer_spoiled (176 ∷ []); stated = 11 ∷ 1 ∷ 176 ∷ [] }
    ∷ record { computed = answer_spoiled (182 ∷ []); stated = 11 ∷ 2 ∷ 176 ∷ [] }
    ∷ record { computed = answer_spoiled (188 ∷ []); stated = 11 ∷ 3 ∷ 176 ∷ [] }
    ∷ record { computed = answer_spoiled (246 ∷ []); stated = 11 ∷ 1 ∷ 241 ∷ [] }
    ∷ record { computed = answer_spoiled (247 ∷ []); stated = 11 ∷ 2 ∷ 241 ∷ [] }
    ∷ record { computed = answer_spoiled (163 ∷ 164 ∷ []); stated = 10 ∷ 2 ∷ 153 ∷ [] }
    ∷ record { computed = answer_spoiled (158 ∷ 164 ∷ []); stated = 10 ∷ 1 ∷ 153 ∷ [] }
    ∷ record { computed = answer_spoiled (188 ∷ 185 ∷ 181 ∷ []); stated = 11 ∷ 1 ∷ 176 ∷ [] }
    ∷ record { computed = answer_spoiled (164 ∷ 176 ∷ []); stated = 10 ∷ 3 ∷ 153 ∷ [] }
    ∷ []

-- The data block where DL = 0 may go on: what with; a gap of 21 without FF FF CC, and gaps of 21, 23 and 24 that start with it; the same at index with 13, 15 and 16; FF FF CC twice; with DL = 1 it is
-- gap; with a wrong 00, too short and long enough; three, two, one and none of the three bytes in the span.
-- Then a sector behind such blocks of ten and of seven bytes, and one of ten bytes that is laid out afresh.
unfoldable pub empty_blocks : List Case
empty_blocks =
    record { computed = closing (0x00 ∷ []); stated = 0xFF ∷ 0xFF ∷ 0xCC ∷ [] }
    ∷ record { computed = places_by_hand 0 (replicate 21 0xFF) (replicate 13 0xFF); stated = 55 ∷ 84 ∷ 84 ∷ 91 ∷ 112 ∷ 112 ∷ 143 ∷ 143 ∷ 150 ∷ 171 ∷ [] }
    ∷ record { computed = places_by_hand 0 (closed_gap 18) (replicate 13 0xFF); stated = 9 ∷ 55 ∷ [] }
    ∷ record { computed = places_by_hand 0 (closed_gap 20) (replicate 13 0xFF); stated = 9 ∷ 55 ∷ [] }
    ∷ record { computed = places_by_hand 0 (closed_gap 21) (replicate 13 0xFF); stated = 55 ∷ 84 ∷ 84 ∷ 94 ∷ 115 ∷ 115 ∷ 146 ∷ 146 ∷ 153 ∷ 174 ∷ [] }
    ∷ record { computed = places_by_hand 0 (replicate 21 0xFF) (closed_gap 10); stated = 9 ∷ 112 ∷ [] }
    ∷ record { computed = places_by_hand 0 (replicate 21 0xFF) (closed_gap 12); stated = 9 ∷ 112 ∷ [] }
    ∷ record { computed = places_by_hand 0 (replicate 21 0xFF) (closed_gap 13); stated = 55 ∷ 84 ∷ 84 ∷ 91 ∷ 112 ∷ 112 ∷ 143 ∷ 143 ∷ 153 ∷ 174 ∷ [] }
    ∷ record { computed = places_by_hand 0 (closed_gap 0 ++ closed_gap 18) (replicate 13 0xFF); stated = 55 ∷ 84 ∷ 84 ∷ 94 ∷ 115 ∷ 115 ∷ 146 ∷ 146 ∷ 153 ∷ 174 ∷ [] }
    ∷ record { computed = places_by_hand 1 (closed_gap 18) (replicate 13 0xFF); stated = 55 ∷ 84 ∷ 84 ∷ 94 ∷ 115 ∷ 115 ∷ 146 ∷ 146 ∷ 153 ∷ 174 ∷ [] }
    ∷ record { computed = answer_without_zero (closed_gap 18); stated = 9 ∷ 0 ∷ 55 ∷ [] }
    ∷ record { computed = answer_without_zero (closed_gap 21); stated = 11 ∷ 2 ∷ 84 ∷ [] }
    ∷ record { computed = end_in 33; stated = 33 ∷ [] }
    ∷ record { computed = end_in 32; stated = 30 ∷ [] }
    ∷ record { computed = end_in 31; stated = 30 ∷ [] }
    ∷ record { computed = end_in 30; stated = 30 ∷ [] }
    ∷ record { computed = added_behind (closed_gap 100); stated = 0x00 ∷ 0x00 ∷ 0x00 ∷ 0x00 ∷ 0xFF ∷ 0x0E ∷ 0x00 ∷ 0xFF ∷ 0xFF ∷ 0xCC ∷ (replicate 21 0xFF ++ replicate 4 0x00) }
    ∷ record { computed = added_behind (0xFF ∷ 0xFF ∷ replicate 100 0xA5); stated = 0x00 ∷ 0x00 ∷ 0x00 ∷ 0x00 ∷ 0xFF ∷ 0x0E ∷ 0x00 ∷ (replicate 21 0xFF ++ (replicate 4 0x00 ++ 0xFF ∷ 0x1FF ∷ 0x1FF ∷ [])) }
    ∷ record { computed = laid_out_afresh (closed_gap 21); stated = 0x00 ∷ 0x00 ∷ 0x00 ∷ 0x00 ∷ 0xFF ∷ 0x0E ∷ 0x00 ∷ (replicate 21 0xFF ++ replicate 4 0x00) }
    ∷ []

-- Sector records and the pieces of tracks. Number 5: the records of both sectors, and a list of 66. The pieces of number 5's track; of one with three sectors; with ten bytes of data block
-- where DL = 0, before another sector and at index. The pieces after Add behind a gap of 80 bytes and after Correct before one of 40.
unfoldable pub records : List Case
records =
    record { computed = listed_in 67 (blank_of 3906 8); stated = 0 ∷ 0 ∷ 0 ∷ 8 ∷ 0 ∷ 90 ∷ 101 ∷ 3805 ∷ [] }
    ∷ record { computed = listed_in 67 two_sectors; stated = 0 ∷ 0 ∷ 0 ∷ 8 ∷ 0 ∷ 90 ∷ 101 ∷ 21 ∷ 128 ∷ 1 ∷ 3 ∷ 80 ∷ 159 ∷ 182 ∷ 265 ∷ 3641 ∷ [] }
    ∷ record { computed = listed_in 66 two_sectors; stated = 1 ∷ 0 ∷ [] }
    ∷ record { computed = pair_pieces two_sectors; stated = 30 ∷ 14 ∷ 11 ∷ 18 ∷ 11 ∷ 17 ∷ 21 ∷ 20 ∷ 11 ∷ 12 ∷ 11 ∷ 89 ∷ 3641 ∷ [] }
    ∷ record { computed = pieces_of three_by_hand; stated = 30 ∷ 14 ∷ 11 ∷ 18 ∷ 11 ∷ 17 ∷ 21 ∷ 20 ∷ 11 ∷ 12 ∷ 11 ∷ 13 ∷ 21 ∷ 20 ∷ 11 ∷ 7 ∷ 13 ∷ [] }
    ∷ record { computed = pieces_of (gaps_by_hand 0 (closed_gap 21) (replicate 13 0xFF)); stated = 30 ∷ 14 ∷ 11 ∷ 18 ∷ 11 ∷ 10 ∷ 21 ∷ 20 ∷ 11 ∷ 7 ∷ 13 ∷ [] }
    ∷ record { computed = pieces_of (gaps_by_hand 0 (replicate 21 0xFF) (closed_gap 13)); stated = 30 ∷ 14 ∷ 11 ∷ 18 ∷ 11 ∷ 7 ∷ 21 ∷ 20 ∷ 11 ∷ 10 ∷ 13 ∷ [] }
    ∷ record { computed = pieces_written (add_cells rule_one (gaps_by_hand 0 (replicate 40 0xFF) (replicate 80 0xFF)) 0 2 [] []); stated = 30 ∷ 14 ∷ 11 ∷ 18 ∷ 11 ∷ 7 ∷ 40 ∷ 20 ∷ 11 ∷ 7 ∷ 21 ∷ 20 ∷ 11 ∷ 7 ∷ 21 ∷ [] }
    ∷ record { computed = pieces_written (correct_cells rule_one (gaps_by_hand 0 (replicate 40 0xFF) (replicate 13 0xFF)) 0 [] []); stated = 30 ∷ 14 ∷ 11 ∷ 18 ∷ 11 ∷ 7 ∷ 21 ∷ 20 ∷ 11 ∷ 7 ∷ 32 ∷ [] }
    ∷ []

-- The rule of the gap. One more sector behind number 5's: by rule one, by rule two with 1 and 20, 0 and 1, 2 and 3, 1,000 and 1,000, and with a and b out of range.
unfoldable pub rules : List Case
rules =
    record { computed = pieces_added rule_one; stated = 30 ∷ 14 ∷ 11 ∷ 18 ∷ 11 ∷ 17 ∷ 21 ∷ 20 ∷ 11 ∷ 12 ∷ 11 ∷ 89 ∷ 25 ∷ 20 ∷ 11 ∷ 7 ∷ 3578 ∷ [] }
    ∷ record { computed = pieces_added (rule_two 1 20); stated = 30 ∷ 14 ∷ 11 ∷ 18 ∷ 11 ∷ 17 ∷ 21 ∷ 20 ∷ 11 ∷ 12 ∷ 11 ∷ 89 ∷ 25 ∷ 20 ∷ 11 ∷ 7 ∷ 3578 ∷ [] }
    ∷ record { computed = pieces_added (rule_two 0 1); stated = 30 ∷ 14 ∷ 11 ∷ 18 ∷ 11 ∷ 17 ∷ 21 ∷ 20 ∷ 11 ∷ 12 ∷ 11 ∷ 89 ∷ 21 ∷ 20 ∷ 11 ∷ 7 ∷ 3582 ∷ [] }
    ∷ record { computed = pieces_added (rule_two 2 3); stated = 30 ∷ 14 ∷ 11 ∷ 18 ∷ 11 ∷ 17 ∷ 21 ∷ 20 ∷ 11 ∷ 12 ∷ 11 ∷ 89 ∷ 76 ∷ 20 ∷ 11 ∷ 7 ∷ 3527 ∷ [] }
    ∷ record { computed = pieces_added (rule_two 1000 1000); stated = 30 ∷ 14 ∷ 11 ∷ 18 ∷ 11 ∷ 17 ∷ 21 ∷ 20 ∷ 11 ∷ 12 ∷ 11 ∷ 89 ∷ 104 ∷ 20 ∷ 11 ∷ 7 ∷ 3499 ∷ [] }
    ∷ record { computed = pieces_added (rule_two 0 0); stated = 14 ∷ 0 ∷ [] }
    ∷ record { computed = pieces_added (rule_two 1 1001); stated = 14 ∷ 0 ∷ [] }
    ∷ record { computed = pieces_added (rule_two 4 3); stated = 14 ∷ 0 ∷ [] }
    ∷ []

-- Two corrections by two rules: sector 0 by rule one and then sector 1 by rule two with 1 and 1, and in the other order, give two tracks. By one rule, either of the two, both orders give one.
unfoldable pub two_rules : List Case
two_rules =
    record { computed = zero_then_one rule_one (rule_two 1 1); stated = 30 ∷ 14 ∷ 11 ∷ 18 ∷ 11 ∷ 17 ∷ 21 ∷ 20 ∷ 11 ∷ 12 ∷ 11 ∷ 89 ∷ 104 ∷ 20 ∷ 11 ∷ 7 ∷ 3499 ∷ [] }
    ∷ record { computed = one_then_zero rule_one (rule_two 1 1); stated = 30 ∷ 14 ∷ 11 ∷ 18 ∷ 11 ∷ 17 ∷ 21 ∷ 20 ∷ 11 ∷ 12 ∷ 11 ∷ 89 ∷ 25 ∷ 20 ∷ 11 ∷ 7 ∷ 3578 ∷ [] }
    ∷ record { computed = zero_then_one (rule_two 1 1) (rule_two 1 1); stated = 30 ∷ 14 ∷ 11 ∷ 18 ∷ 11 ∷ 17 ∷ 29 ∷ 20 ∷ 11 ∷ 12 ∷ 11 ∷ 89 ∷ 104 ∷ 20 ∷ 11 ∷ 7 ∷ 3491 ∷ [] }
    ∷ record { computed = one_then_zero (rule_two 1 1) (rule_two 1 1); stated = 30 ∷ 14 ∷ 11 ∷ 18 ∷ 11 ∷ 17 ∷ 29 ∷ 20 ∷ 11 ∷ 12 ∷ 11 ∷ 89 ∷ 104 ∷ 20 ∷ 11 ∷ 7 ∷ 3491 ∷ [] }
    ∷ record { computed = zero_then_one rule_one rule_one; stated = 30 ∷ 14 ∷ 11 ∷ 18 ∷ 11 ∷ 17 ∷ 21 ∷ 20 ∷ 11 ∷ 12 ∷ 11 ∷ 89 ∷ 25 ∷ 20 ∷ 11 ∷ 7 ∷ 3578 ∷ [] }
    ∷ record { computed = one_then_zero rule_one rule_one; stated = 30 ∷ 14 ∷ 11 ∷ 18 ∷ 11 ∷ 17 ∷ 21 ∷ 20 ∷ 11 ∷ 12 ∷ 11 ∷ 89 ∷ 25 ∷ 20 ∷ 11 ∷ 7 ∷ 3578 ∷ [] }
    ∷ []

-- Altered bits. Information and check of number 1's home with the low bits of cylinder and head altered, which are sixteen apart; that the check is that of the altered information; that this is the home of
-- cylinder 101 and head 6.
-- Then Accept's answer, but for the test of L, for the short track as it is; with one of those two bits of home altered, 311 from index, the lowest of byte 38, and with both: home passes, and 8 is for sector 0's count. One bit of a count, of a key and of data
-- altered; sixteen in data and check; two bits sixteen apart in key and check and in data, which is accepted; two fifteen and seventeen apart in data.
unfoldable pub bursts : List Case
bursts =
    record { computed = altered_at (23 ∷ 39 ∷ []) (checked_home 100 7); stated = 0x00 ∷ 0x00 ∷ 0x65 ∷ 0x00 ∷ 0x06 ∷ 0xFF ∷ 0x9C ∷ [] }
    ∷ record { computed = check_bytes (take 5 (altered_at (23 ∷ 39 ∷ []) (checked_home 100 7))); stated = 0xFF ∷ 0x9C ∷ [] }
    ∷ record { computed = checked_home 101 6; stated = 0x00 ∷ 0x00 ∷ 0x65 ∷ 0x00 ∷ 0x06 ∷ 0xFF ∷ 0x9C ∷ [] }
    ∷ record { computed = answer_altered []; stated = 0 ∷ 0 ∷ 0 ∷ [] }
    ∷ record { computed = answer_altered (311 ∷ []); stated = 3 ∷ 0 ∷ 30 ∷ [] }
    ∷ record { computed = answer_altered (311 ∷ 327 ∷ []); stated = 8 ∷ 0 ∷ 55 ∷ [] }
    ∷ record { computed = answer_altered (1087 ∷ []); stated = 7 ∷ 0 ∷ 122 ∷ [] }
    ∷ record { computed = answer_altered (1272 ∷ []); stated = 10 ∷ 2 ∷ 153 ∷ [] }
    ∷ record { computed = answer_altered (1456 ∷ []); stated = 11 ∷ 2 ∷ 176 ∷ [] }
    ∷ record { computed = answer_altered (1480 ∷ 1481 ∷ 1482 ∷ 1483 ∷ 1484 ∷ 1485 ∷ 1486 ∷ 1487 ∷ 1488 ∷ 1489 ∷ 1490 ∷ 1491 ∷ 1492 ∷ 1493 ∷ 1494 ∷ 1495 ∷ []); stated = 11 ∷ 2 ∷ 176 ∷ [] }
    ∷ record { computed = answer_altered (1280 ∷ 1296 ∷ []); stated = 0 ∷ 0 ∷ 0 ∷ [] }
    ∷ record { computed = answer_altered (1456 ∷ 1472 ∷ []); stated = 0 ∷ 0 ∷ 0 ∷ [] }
    ∷ record { computed = answer_altered (1456 ∷ 1471 ∷ []); stated = 11 ∷ 2 ∷ 176 ∷ [] }
    ∷ record { computed = answer_altered (1456 ∷ 1473 ∷ []); stated = 11 ∷ 2 ∷ 176 ∷ [] }
    ∷ []
