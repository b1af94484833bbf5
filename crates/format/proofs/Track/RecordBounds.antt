-- No number of a sector record is greater than the length of its track.
use mathlib.Core.Path.{◌≡◌, subst}
use Prim.Native.Nat.{ℕ, ◌+◌, ◌≤◌}
use native.Mathlib.Omega.{arith}
use mathlib.Core.Bool.{Bool, true, false}
use mathlib.Core.List.{List, [], ◌∷◌}
use lib.ListN.{length}
use lib.Dec.{leb, eqb}
use borrow.Author.Tests.{leb-true, eqb-true}
use Rattle.base.specs.Pick.{pick}
use Rattle.format.specs.Answer.{lent_wrong}
use Rattle.format.specs.Judged.{good}
use Rattle.format.specs.Lent.{length_right, cells}
use Rattle.format.specs.Home.{first_count_place}
use Rattle.format.specs.Span.{none}
use Rattle.format.specs.Accept.{Accepted, accept}
use Rattle.format.specs.Listing.{Listed, most_sectors, list}
use Rattle.format.specs.Pieces.{count_length, key_pieces, block_cells, block_length, total, RecordAt, Following}
use Rattle.base.proofs.Tests.{cases, and_both}
use Rattle.format.proofs.Base.Judged.{then_good, require_good}
use Rattle.format.proofs.Sector.Sizes.{key_size_least}
use Rattle.format.proofs.Sector.BlockEnd.{empty_least}
use Rattle.format.proofs.Track.Pairs.{accepted_pair, lent_length}
use Rattle.format.proofs.Track.Pieces.{key_total, follow_fill, list_layout}

-- The numbers of a record of a track of l bytes are no greater than l.
pub record Within (l : ℕ) (r : Listed) : Type 0 where
  pub key_length_most : r.key_length ≤ l
  pub data_length_most : r.data_length ≤ l
  pub key_place_most : r.key_place ≤ l
  pub data_place_most : r.data_place ≤ l
  pub end_most : r.end ≤ l
  pub gap_most : r.gap ≤ l

-- Those of all of these records.
abbrev pub AllWithin : ℕ → List Listed → Type 0
AllWithin l [] = Unit {0}
AllWithin l (r ∷ rs) = Within l r × AllWithin l rs

block_least : (c : List ℕ) (r : Listed) → r.data_length + 7 ≤ block_length c r
unfolding block_length
block_least c r =
    cases (eqb r.data_length 0)
    (λ e. rw e (omega (arith, eqb-true r.data_length 0 e, empty_least (block_cells c r))))
    (λ e. rw e (omega arith))

key_first : (n a b : ℕ) → a ≤ b → pick (eqb n 0) 0 a ≤ b
key_first n a b l = cases (eqb n 0) (λ e. rw e (omega arith)) (λ e. rw e l)

record_within : (c : List ℕ) (first last : Bool) (p : ℕ) (r : Listed) → RecordAt c first last p r → r.end + r.gap ≤ length c → Within (length c) r
record_within c first last p r v l =
    let k : r.key_length ≤ total (key_pieces r.key_length) = omega (arith, key_total r.key_length, key_size_least r.key_length) in
    let b = block_least c r in
    record {
      key_length_most = omega (arith, v.end_place);
      data_length_most = omega (arith, v.end_place);
      key_place_most = rw v.key_place_holds (key_first r.key_length (p + count_length first + 11 + 6) (length c) (omega (arith, v.end_place)));
      data_place_most = omega (arith, v.data_place_holds, v.end_place);
      end_most = omega arith;
      gap_most = omega arith;
    }

follow_within : (c : List ℕ) (first : Bool) (p : ℕ) (rs : List Listed) → Following c first p rs → AllWithin (length c) rs
follow_within c first p [] e = tt
follow_within c first p (r ∷ rs) (v, e) =
    (record_within c first (none rs) p r v (omega (arith, follow_fill c false (r.end + r.gap) rs e)), follow_within c false (r.end + r.gap) rs e)

-- List's records are such.
pub records_within : (n : ℕ) (t m : List ℕ) (rs : List Listed) → list n t m ≡ good rs → (length t ≤ 4002) × AllWithin (length t) rs
unfolding list length_right
records_within n t m rs e =
    let f = then_good (accept t m) _ rs (require_good (leb most_sectors n) lent_wrong _ rs e).1 in
    let a : Accepted = f.0 in
    let l = lent_length t m (accepted_pair t m a f.1).0 in
    let w = follow_within (cells t m) true (first_count_place a.home.place) rs (list_layout n t m a rs f.1 e).1 in
    (leb-true (length t) 4002 (and_both (leb 3815 (length t)) (leb (length t) 4002) l.1).1, subst (λ (k : ℕ). AllWithin k rs) l.0 w)
