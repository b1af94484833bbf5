-- The sectors that remain of an accepted track from a place on, as the writing loops step over them.
use Rattle.std.specs.Prelude.{◌≡◌, ℕ, suc, ◌+◌, ◌-◌, ◌≤◌, ◌<◌, true, List, [], ◌∷◌, length}
use Rattle.base.specs.Pick.{pick}
use Rattle.format.specs.Judged.{good}
use Rattle.format.specs.Lent.{cells}
use Rattle.format.specs.Home.{first_count_place}
use Rattle.format.specs.Span.{joined, none}
use Rattle.format.specs.Accept.{Placed, Accepted, accept, from_number, last_of, sectors_of}
use Rattle.format.specs.GapRule.{GapRule, gap_by, rule_right}
use Rattle.format.specs.Written.{reach, written_spans}
use Rattle.format.specs.Correct.{with_content}
use Rattle.sectors.specs.declared.SectorAt.{SectorAt}
use Rattle.sectors.specs.SectorAt.{last_first_count, sector_at, as_sector_at}
use Rattle.sectors.specs.From.{SectorsFrom, Remaining}

-- The track t with the marks m is accepted, and its sector 0 opens at place `start`.
pub record Readable (t m : List ℕ) (start : ℕ) : Type 0 where
  pub accepted : Accepted
  pub is_accepted : accept t m ≡ good accepted
  pub starts : start ≡ first_count_place accepted.home.place

-- Such a track whose home has the flag f.
pub record ReadableFlag (t m : List ℕ) (start f : ℕ) : Type 0 where
  pub readable : Readable t m start
  pub flag_is : f ≡ readable.accepted.home.flag

-- Such a track on which no sector carries S, with n sectors, the last of them at place `at`.
pub record Addable (t m : List ℕ) (start at n f s : ℕ) : Type 0 where
  pub flagged : ReadableFlag t m start f
  pub absent : from_number s flagged.readable.accepted.sectors ≡ []
  pub last_is : (x : Placed) (xs : List Placed) → SectorsFrom t m start (x ∷ xs) → SectorsFrom t m at (last_of x xs ∷ []) × (n ≡ suc (length xs))

-- The sector x is what is read at place q before index, and sectors remain from there on.
pub record ReadAt (t m : List ℕ) (q : ℕ) (x : SectorAt) : Type 0 where
  pub remaining : Remaining t m q
  pub inside : q < length t
  pub is_read : as_sector_at x ≡ sector_at q (cells t m)

-- The sectors xs in first-written form, which fill n cells.
abbrev pub later_cells : GapRule → ℕ → List Placed → List ℕ
later_cells rule n xs = joined (written_spans (gap_by rule) n (sectors_of xs))

-- There is room for them from place `at` of l cells on; none remain at index.
abbrev pub RoomFor : GapRule → ℕ → ℕ → List Placed → Type 0
RoomFor rule l at [] = at ≡ l
RoomFor rule l at (x ∷ xs) = at + reach (gap_by rule) (sectors_of (x ∷ xs)) ≤ l

-- The sectors from place p of the old track on, all behind sector 0, have room from place `at` of the new one on, by a rule in range.
pub record RemainingRoom (rule : GapRule) (t m : List ℕ) (p at : ℕ) : Type 0 where
  pub remaining : Remaining t m p
  pub behind : last_first_count < p
  pub right : rule_right rule ≡ true
  pub room : RoomFor rule (length t) at remaining.sectors

-- Where the last block of the sectors xs ends, if a block before them ends at `end` and has the gap `gap` behind it.
unfoldable pub farthest : GapRule → ℕ → ℕ → List Placed → ℕ
farthest rule end gap xs = end + pick (none xs) 0 (gap + reach (gap_by rule) (sectors_of xs))

-- Where the last block ends, if the sector x at place q, with the sectors xs behind it, gets a new key and data.
unfoldable pub corrected_end : GapRule → ℕ → List ℕ → List ℕ → Placed → List Placed → ℕ
corrected_end rule q key body x xs = q + reach (gap_by rule) (with_content key body x.sector ∷ sectors_of xs)

-- The cells from there to index of a track of l cells.
unfoldable pub corrected_cells : GapRule → ℕ → ℕ → List ℕ → List ℕ → Placed → List Placed → List ℕ
corrected_cells rule l q key body x xs = joined (written_spans (gap_by rule) (l - q) (with_content key body x.sector ∷ sectors_of xs))
