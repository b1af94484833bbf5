-- Home as it is first written is found at place 30 and passes.
use mathlib.Core.Path.{◌≡◌, refl, ap}
use Prim.Native.Nat.{ℕ, ◌/◌, ◌%◌, ◌≤◌}
use native.Mathlib.Omega.{arith}
use native.Mathlib.Nat.{div-add-mod'}
use mathlib.Core.Bool.{true}
use mathlib.Core.List.{List, [], ◌∷◌, ◌++◌}
use lib.ListN.{length, replicate}
use lib.Dec.{leb, lit<}
use borrow.Author.Tests.{leb-true, lt-ltb, eq-eqb}
use Rattle.crc.specs.Check.{check_bytes}
use Rattle.format.specs.Judged.{good}
use Rattle.format.specs.Lent.{unmarked}
use Rattle.format.specs.Opening.{plain_opening, closing, closed_after}
use Rattle.format.specs.Flag.{home_flag_right}
use Rattle.format.specs.Address.{Address, address_in, address_bytes, address_in_range}
use Rattle.format.specs.Home.{home_from, find_home, home_bytes, home_of, home_fields_right, judge_home_of, judge_home}
use Rattle.format.specs.Written.{home_gap, written_block}
use Rattle.format.specs.Blank.{written_head}
use Rattle.base.proofs.Tests.{and_both}
use Rattle.format.proofs.Cells.Opening.{starts_with_self, unmarked_append, unmarked_cons, unmarked_replicate}
use Rattle.format.proofs.Cells.Field.{unmarked_closing}
use Rattle.format.proofs.Track.Pairs.{bytes_unmarked}

opening_unmarked : unmarked plain_opening ≡ true
unfolding unmarked
opening_unmarked = refl

-- The address in its own bytes.
pub address_back : (f : ℕ) (a : Address) (r : List ℕ) → address_in (f ∷ address_bytes a ++ r) ≡ a
unfolding address_in address_bytes
address_back f a r = λ i. record { cylinder = div-add-mod' a.cylinder 256 i; head = div-add-mod' a.head 256 i }

-- C and H of an address in range.
pub range_bounds : (a : Address) → address_in_range a ≡ true → (a.cylinder ≤ 202) × (a.head ≤ 9)
unfolding address_in_range
range_bounds a e =
    let h = and_both (leb a.cylinder 202) (leb a.head 9) e in
    (leb-true a.cylinder 202 h.0, leb-true a.head 9 h.1)

-- Its bytes are bytes.
pub address_unmarked : (a : Address) → address_in_range a ≡ true → unmarked (address_bytes a) ≡ true
unfolding address_bytes unmarked
address_unmarked a e =
    let h = range_bounds a e in
    rw (
      lt-ltb (a.cylinder / 256) 256 (omega arith),
      lt-ltb (a.cylinder % 256) 256 (omega arith),
      lt-ltb (a.head / 256) 256 (omega arith),
      lt-ltb (a.head % 256) 256 (omega arith),
    )

-- A flag of 0 to 3 is right in home.
pub home_flag : (f : ℕ) → f ≤ 3 → home_flag_right f ≡ true
unfolding home_flag_right
home_flag f h = rw (eq-eqb (f / 128) 0 (omega arith), eq-eqb (f / 64 % 2) 0 (omega arith), eq-eqb (f / 4 % 16) 0 (omega arith))

module _ (f : ℕ) (own : Address) where
  -- The information of home.
  abbrev info : List ℕ
  info = f ∷ address_bytes own

  -- The head ends where sector 0's count starts.
  pub head_length_holds : length (written_head f own) ≡ 55
  unfolding written_head written_block closing check_bytes address_bytes
  head_length_holds = refl

  info_unmarked : f ≤ 3 → address_in_range own ≡ true → unmarked (info ++ closing info) ≡ true
  info_unmarked h e =
      unmarked_append info (closing info) (unmarked_cons f (address_bytes own) (omega arith) (address_unmarked own e)) (unmarked_closing info)

  -- It has no mark.
  pub head_unmarked : f ≤ 3 → address_in_range own ≡ true → unmarked (written_head f own) ≡ true
  unfolding written_head written_block
  head_unmarked h e =
      unmarked_append (replicate 30 0x00) ((plain_opening ++ (info ++ closing info)) ++ home_gap) (unmarked_replicate 30 0x00 (lit< tt))
      (unmarked_append (plain_opening ++ (info ++ closing info)) home_gap
      (unmarked_append plain_opening (info ++ closing info) opening_unmarked (info_unmarked h e))
      (unmarked_replicate 11 0x00 (lit< tt)))

  home_found : (r : List ℕ) → find_home (written_head f own ++ r) ≡ good 30
  unfolding find_home home_from written_head written_block
  home_found r = refl

  home_bytes_lem : (r : List ℕ) → f ≤ 3 → address_in_range own ≡ true → home_bytes 30 (written_head f own ++ r) ≡ info ++ closing info
  unfolding home_bytes written_head written_block address_bytes closing check_bytes
  home_bytes_lem r h e = bytes_unmarked (info ++ closing info) (info_unmarked h e)

  home_of_lem : home_of 30 (info ++ closing info) ≡ record { place = 30; flag = f; address = own }
  unfolding home_of
  home_of_lem = ap (λ (a : Address). record { place = 30; flag = f; address = a }) (address_back f own (closing info))

  info_closed : closed_after 5 (info ++ closing info) ≡ true
  unfolding closed_after address_bytes closing check_bytes
  info_closed = starts_with_self (closing info) []

  -- Home of a track that starts with the written head, whatever follows.
  pub written_home : (r : List ℕ) → f ≤ 3 → address_in_range own ≡ true → judge_home (written_head f own ++ r) ≡ good (record { place = 30; flag = f; address = own })
  unfolding judge_home judge_home_of home_fields_right
  written_home r h e = rw (home_found r, home_bytes_lem r h e, info_closed, home_of_lem, home_flag f h, e)
