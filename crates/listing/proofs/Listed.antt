-- The records that are come to from sector 0's count on are those of List, and their number is at most the list's length.
use mathlib.Core.Path.{◌≡◌, refl, sym, ap, ap₂, ◌∙◌, subst}
use Prim.Native.Nat.{ℕ, ◌+◌, ◌-◌, ◌≤◌}
use native.Mathlib.Omega.{arith}
use mathlib.Core.List.{List, [], ◌∷◌, ◌++◌, map}
use lib.ListN.{length, drop}
use lib.Dec.{leb}
use borrow.Author.Tests.{le-leb, leb-true, leb-false}
use Rattle.format.specs.Answer.{Answer}
use Rattle.format.specs.Judged.{Judged, good, refused}
use Rattle.format.specs.Lent.{cells}
use Rattle.format.specs.Home.{first_count_place}
use Rattle.format.specs.Accept.{Placed, end_of, Accepted, accept}
use Rattle.format.specs.Listing.{Listed, next_place, listed, most_sectors, list}
use Rattle.std.proofs.lemmas.List.{map-append, drop-map}
use Rattle.base.proofs.Tests.{cases}
use Rattle.format.proofs.Track.Sectors.{list_suffices}
use Rattle.format.proofs.Track.ListAccepted.{list_records, list_number, list_refuses, list_short}
use Rattle.sectors.specs.SectorAt.{sector_at}
use Rattle.sectors.specs.From.{SectorsFrom}
use Rattle.sectors.proofs.From.{accepted_steps}
use Rattle.listing.specs.declared.Sector.{Sector}
use Rattle.listing.specs.Run.{run}
use Rattle.listing.specs.Filling.{as_listed, as_records, records_of, filled, as_sector, first_count, first_for}

-- The record of the sector that is come to at place p of the cells c, and the place of the next.
abbrev pub value : List ℕ → ℕ → Sector
value c p = as_sector (sector_at p c)

abbrev pub next : List ℕ → ℕ → ℕ
next c p = (sector_at p c).next

-- What the first of the sectors gives, and where the later ones are.
pub record Come (t m : List ℕ) (p : ℕ) (x : Placed) (xs : List Placed) : Type 0 where
  pub listed_is : as_listed (value (cells t m) p) ≡ listed x
  pub later : SectorsFrom t m (next (cells t m) p) xs

pub come : (t m : List ℕ) (p : ℕ) (x : Placed) (xs : List Placed) → SectorsFrom t m p (x ∷ xs) → Come t m p x xs
unfolding listed
come t m p x xs (v, r) =
    let stop : (sector_at p (cells t m)).next ≡ next_place x = v.next_is ∙ ap (λ (q : ℕ). q + length x.span) (sym v.place_is) in
    let gap_is : (sector_at p (cells t m)).next - (sector_at p (cells t m)).end ≡ next_place x - end_of x = ap₂ (λ (n e : ℕ). n - e) stop v.end_is in
    record {
      listed_is = λ i. record { flag = v.flag_is i; number = v.number_is i; key_length = v.key_length_is i; data_length = v.data_length_is i; key_place = v.key_place_is i; data_place = v.data_place_is i; end = v.end_is i; gap = gap_is i };
      later = subst (λ (k : ℕ). SectorsFrom t m k xs) (sym v.next_is) r;
    }

-- The records that are come to are those of the sectors.
run_listed : (t m : List ℕ) (p : ℕ) (xs : List Placed) → SectorsFrom t m p xs → as_records (run (value (cells t m)) (next (cells t m)) p (length xs)) ≡ map listed xs
run_listed t m p [] h = refl
run_listed t m p (x ∷ xs) h =
    let v = come t m p x xs h in
    ap₂ {C = List Listed} (λ y ys. y ∷ ys) v.listed_is (run_listed t m (next (cells t m) p) xs v.later)

-- What List makes of the lent pair t, m for a list of n.
pub record Listing (n : ℕ) (t m : List ℕ) : Type 0 where
  -- The number of records fits the list, and is 67 at most.
  pub count_fits_holds : length (records_of (list n t m)) ≤ n
  pub count_most : length (records_of (list n t m)) ≤ most_sectors
  -- The records that are come to are its records.
  pub records_are : as_records (run (value (cells t m)) (next (cells t m)) (first_for n t m) (length (records_of (list n t m)))) ≡ records_of (list n t m)

listing_refused : (n : ℕ) (t m : List ℕ) (b : Answer) → list n t m ≡ refused b → Listing n t m
listing_refused n t m b e = record { count_fits_holds = rw e (omega arith); count_most = rw e (omega arith); records_are = rw e refl }

listing_good : (n : ℕ) (t m : List ℕ) (a : Accepted) → most_sectors ≤ n → accept t m ≡ good a → Listing n t m
unfolding first_for first_count
listing_good n t m a l e =
    let g = list_records n t m a l e in
    let k : length (map listed a.sectors) ≡ length a.sectors = list_number a in
    let p : ℕ = first_count_place a.home.place in
    let f : first_for n t m ≡ p = rw (le-leb most_sectors n l, e) in
    record {
      count_fits_holds = rw g (omega (arith, list_suffices t m a e));
      count_most = rw g (omega (arith, list_suffices t m a e));
      records_are = rw g (
          ap₂ (λ (q j : ℕ). as_records (run (value (cells t m)) (next (cells t m)) q j)) f k
          ∙ run_listed t m p a.sectors (accepted_steps t m a e));
    }

pub listing : (n : ℕ) (t m : List ℕ) → Listing n t m
listing n t m = cases (leb most_sectors n)
    (λ e. by_track (accept t m) refl (leb-true most_sectors n e))
    (λ e. listing_refused n t m _ (list_short n t m (leb-false most_sectors n e)))
  where
    by_track : (j : Judged Accepted) → accept t m ≡ j → most_sectors ≤ n → Listing n t m
    by_track (good a) e l = listing_good n t m a l e
    by_track (refused b) e l = listing_refused n t m b (list_refuses n t m b l e)

-- The list at exit: the records that are come to, and behind them what stood there.
pub filled_run : (n : ℕ) (t m : List ℕ) (ys : List Sector)
    → as_records (run (value (cells t m)) (next (cells t m)) (first_for n t m) (length (records_of (list n t m))) ++ drop (length (records_of (list n t m))) ys)
    ≡ filled (list n t m) (as_records ys)
unfolding filled
filled_run n t m ys =
    let k : ℕ = length (records_of (list n t m)) in
    map-append as_listed (run (value (cells t m)) (next (cells t m)) (first_for n t m) k) (drop k ys)
    ∙ ap₂ (λ (r s : List Listed). r ++ s) (listing n t m).records_are (sym (drop-map as_listed k ys))
