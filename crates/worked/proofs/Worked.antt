-- Every row of the table of worked numbers holds.
use mathlib.Core.Path.{◌≡◌, refl, sym, ap, ap₂, ◌∙◌}
use Prim.Native.Nat.{ℕ, ◌<◌}
use native.Mathlib.Omega.{arith}
use mathlib.Core.Bool.{true}
use mathlib.Core.List.{List, [], ◌∷◌}
use lib.ListN.{length}
use lib.Dec.{eqb}
use borrow.Author.Tests.{eqb-true}
use Rattle.crc.specs.Check.{digits, coefficients, divisor, bring_down, remainder, check_bytes}
use Rattle.crc.specs.Burst.{alter_bit}
use Rattle.format.specs.Judged.{Judged, good, refused}
use Rattle.format.specs.Lent.{length_right, marks_legal, lent_for_writing, lent_for_reading, cells, bytes_of, marks_of, both_lent}
use Rattle.format.specs.Opening.{opens, closing, closed_after, check_follows, closing_follows}
use Rattle.format.specs.Flag.{home_flag_right, sequence_right, count_flag_right, names_itself}
use Rattle.format.specs.Address.{address_in, address_bytes, address_in_range, same_address, address_right}
use Rattle.format.specs.Home.{home_from, find_home, home_bytes, home_of, home_fields_right, judge_home_of, judge_home}
use Rattle.format.specs.Count.{count_fits, count_closed, count_address_right, count_fields_right}
use Rattle.format.specs.Block.{key_size, data_offset, empty_size, block_end, least_gap, blocks_fit, test_block, test_empty, block_info, test_key, test_data, key_info, data_info}
use Rattle.format.specs.GapRule.{gap_one, gap_two, rule_one, rule_two, rule_right, wanted_right}
use Rattle.format.specs.Written.{Pair, data_size, count_info, written_block, written_key, written_data, count_opening, written_sector, as_pair, gap_after, reach, written_spans, written_behind}
use Rattle.format.specs.Span.{unmarked_run, runs_to_index, span_length, span_rest, before_opening, later_spans, spans}
use Rattle.format.specs.Sector.{sector_in, settle, judge_count, read_blocks, judge_sector, read_span, content_right}
use Rattle.format.specs.Accept.{judge_marks, read_spans, placed_from, among, judge_numbers, judge_behind, accept_cells, accept, end_of, from_number}
use Rattle.format.specs.Listing.{listed, list}
use Rattle.format.specs.Pieces.{key_pieces, block_length, sector_pieces, record_pieces, track_pieces}
use Rattle.format.specs.Blank.{named_by, blank_right, written_head, blank_sector, blank}
use Rattle.format.specs.Add.{judge_absent, added_flag, added_sector, added_to, add_cells, add}
use Rattle.format.specs.Correct.{with_content, rewritten_from, correct_cells, correct}
use Rattle.base.proofs.Tests.{and_both}
use Rattle.worked.specs.Tracks.{address, blank_of, two_sectors, accept_of, numbers, places_in, places, places_of, sector_of, by_hand, answer_by_hand, answer_of_zeros, three_by_hand, spoiled_at, answer_spoiled, checked_home, altered_at, answer_altered, closed_gap, gaps_by_hand, places_by_hand, answer_without_zero, end_in, cells_of, added_behind, laid_out_afresh, record_numbers, listed_in, pieces_of, pieces_written, three_sectors, new_zero, new_one, corrected_by, pair_pieces, pieces_added, zero_then_one, one_then_zero}
use Rattle.worked.specs.Table.{Case, same_numbers, all_hold, EachHolds, starred, further, faults, empty_blocks, records, rules, two_rules, bursts}
use Rattle.format.specs.Blocks.{part_at, blocks_at, judge_fit}

same_equal : (xs ys : List ℕ) → same_numbers xs ys ≡ true → xs ≡ ys
unfolding same_numbers
same_equal [] [] e = refl
same_equal [] (y ∷ ys) e = absurd (let z : ◌≡◌ {A = ℕ} 0 1 = cc in omega arith)
same_equal (x ∷ xs) [] e = absurd (let z : ◌≡◌ {A = ℕ} 0 1 = cc in omega arith)
same_equal (x ∷ xs) (y ∷ ys) e =
    let h = and_both (eqb x y) (same_numbers xs ys) e in
    ap₂ (λ (z : ℕ) (zs : List ℕ). z ∷ zs) (eqb-true x y h.0) (same_equal xs ys h.1)

-- A table that passes its test has only rows that hold.
pub each_holds : (cs : List Case) → all_hold cs ≡ true → EachHolds cs
unfolding all_hold
each_holds [] e = tt
each_holds (x ∷ cs) e =
    let h = and_both (same_numbers x.computed x.stated) (all_hold cs) e in
    (same_equal x.computed x.stated h.0, each_holds cs h.1)

tables_pass : (all_hold starred ≡ true) × (all_hold further ≡ true) × (all_hold faults ≡ true) × (all_hold empty_blocks ≡ true) × (all_hold records ≡ true) × (all_hold rules ≡ true) × (all_hold two_rules ≡ true) × (all_hold bursts ≡ true)
unfolding digits coefficients divisor bring_down remainder check_bytes
    length_right marks_legal lent_for_writing lent_for_reading cells bytes_of marks_of opens closing closed_after
    home_flag_right sequence_right count_flag_right names_itself address_in address_bytes address_in_range same_address address_right
    home_from find_home home_bytes home_of home_fields_right judge_home_of judge_home count_fits count_closed count_address_right count_fields_right
    key_size data_size data_offset empty_size block_end least_gap blocks_fit check_follows closing_follows test_block test_empty block_info test_key test_data key_info data_info part_at blocks_at judge_fit
    unmarked_run runs_to_index span_length span_rest before_opening later_spans spans sector_in settle judge_count read_blocks judge_sector read_span
    judge_marks read_spans placed_from among judge_numbers judge_behind accept_cells accept
    gap_one count_info written_block written_key written_data count_opening written_sector as_pair gap_after reach written_spans written_behind
    content_right named_by blank_right written_head blank_sector blank both_lent end_of from_number judge_absent added_flag added_sector added_to add_cells add with_content rewritten_from correct_cells
    address blank_of two_sectors accept_of numbers places_in places places_of sector_of by_hand answer_by_hand answer_of_zeros three_by_hand spoiled_at answer_spoiled
    closed_gap gaps_by_hand places_by_hand answer_without_zero end_in cells_of added_behind laid_out_afresh same_numbers all_hold starred further faults empty_blocks
    listed list key_pieces block_length sector_pieces record_pieces track_pieces record_numbers listed_in pieces_of pieces_written records
    gap_two rule_right wanted_right correct three_sectors new_zero new_one corrected_by pair_pieces pieces_added zero_then_one one_then_zero rules two_rules
    alter_bit checked_home altered_at answer_altered bursts
tables_pass = (refl, refl, refl, refl, refl, refl, refl, refl)

-- The starred worked numbers.
pub starred_hold : EachHolds starred
starred_hold = each_holds starred tables_pass.0

-- Those of the numbers 6 to 8 that have no star.
pub further_hold : EachHolds further
further_hold = each_holds further tables_pass.1

-- The table of the second number.
pub faults_hold : EachHolds faults
faults_hold = each_holds faults tables_pass.2

-- The table of the data block where DL = 0.
pub empty_blocks_hold : EachHolds empty_blocks
empty_blocks_hold = each_holds empty_blocks tables_pass.3

-- The table of sector records.
pub records_hold : EachHolds records
records_hold = each_holds records tables_pass.4

-- The table of the rule of the gap.
pub rules_hold : EachHolds rules
rules_hold = each_holds rules tables_pass.5

-- The table of two corrections by two rules.
pub two_rules_hold : EachHolds two_rules
two_rules_hold = each_holds two_rules tables_pass.6

-- The table of altered bits.
pub bursts_hold : EachHolds bursts
bursts_hold = each_holds bursts tables_pass.7

-- What has more than two pieces was written.
pieces_written_lem : (j : Judged Pair) → 2 < length (pair_pieces j) → (p : Pair) × (j ≡ good p)
unfolding pair_pieces pieces_written numbers
pieces_written_lem (good p) h = (p, refl)
pieces_written_lem (refused a) h = absurd (omega arith)

-- By two rules the two orders give two tracks: sector 0 by rule one and sector 1 by rule two with 1 and 1, each done in both orders.
pub two_rules_two_tracks : (p : Pair) × (q : Pair)
    × (corrected_by (rule_two 1 1) new_one (corrected_by rule_one new_zero three_sectors) ≡ good p)
    × (corrected_by rule_one new_zero (corrected_by (rule_two 1 1) new_one three_sectors) ≡ good q)
    × (p ≡ q → ⊥)
unfolding zero_then_one one_then_zero two_rules
two_rules_two_tracks =
    let j : Judged Pair = corrected_by (rule_two 1 1) new_one (corrected_by rule_one new_zero three_sectors) in
    let k : Judged Pair = corrected_by rule_one new_zero (corrected_by (rule_two 1 1) new_one three_sectors) in
    let h = two_rules_hold in
    let p = pieces_written_lem j (omega (arith, ap length h.0)) in
    let q = pieces_written_lem k (omega (arith, ap length h.1.0)) in (
      p.0,
      q.0,
      p.1,
      q.1,
      λ e.
          let z = sym h.0 ∙ ap pair_pieces (p.1 ∙ ap (λ (w : Pair). good w) e ∙ sym q.1) ∙ h.1.0 in
          let y : ◌≡◌ {A = ℕ} 104 25 = cc in
          omega arith,
    )
