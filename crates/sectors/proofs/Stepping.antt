-- What stepping over a sector of an accepted track tells of it.
use mathlib.Core.Path.{◌≡◌, refl, sym, ap, ◌∙◌}
use Prim.Native.Nat.{ℕ, ◌+◌, ◌≤◌}
use native.Mathlib.Omega.{arith}
use mathlib.Core.Bool.{Bool, true}
use mathlib.Core.List.{List}
use lib.ListN.{length, take, drop}
use lib.Seq.{drop-drop}
use lib.Dec.{eqb}
use borrow.Author.Tests.{eqb-true}
use Rattle.base.specs.Pick.{pick}
use Rattle.format.specs.Lent.{cells}
use Rattle.format.specs.Count.{key_length, data_length}
use Rattle.format.specs.Block.{key_size, data_offset, block_end, least_gap, blocks_fit, block_info, key_info, data_info}
use Rattle.format.specs.Blocks.{blocks_at}
use Rattle.format.specs.Written.{data_size}
use Rattle.format.specs.Span.{runs_to_index, span_length, span_rest}
use Rattle.format.specs.Sector.{opening_length, sector_in}
use Rattle.format.specs.Accept.{Placed, end_of}
use Rattle.format.specs.Listing.{listed}
use Rattle.base.proofs.Tests.{cases}
use Rattle.format.proofs.Sector.Sizes.{gap_least}
use Rattle.format.proofs.Sector.BlockEnd.{offset_is, key_in_offset, data_in_end, written_in_end, end_in_span}
use Rattle.format.proofs.Sector.ReadSector.{fit_key, fit_data}
use Rattle.format.proofs.Sector.Valid.{FitsCount}
use Rattle.sectors.specs.SectorAt.{SectorAt, sector_fields, opens_first, rest_at, sector_at}
use Rattle.sectors.specs.From.{Stepping}
use Rattle.sectors.proofs.Rest.{opening_least, span_rest_place, sector_here}

-- The sector that the span g at place p shows, of which r follows the count's opening.
abbrev pub shown_by : Bool → ℕ → List ℕ → List ℕ → Placed
shown_by first p g r = record { place = p; span = g; sector = sector_in first r }

-- The span g stands at place p and runs up to the next mark, its blocks and the least gap fit, and the numbers of its sector fit the bytes of a count.
module _ (t m : List ℕ) (first : Bool) (p : ℕ) (least : 48 ≤ p) (place : first ≡ opens_first p) (g : List ℕ) (last : Bool) (r : List ℕ) (behind : drop (opening_length first) g ≡ r)
    (size : span_length (opening_length first) (drop p (cells t m)) ≡ length g) (after : span_rest (opening_length first) (drop p (cells t m)) ≡ r)
    (runs : runs_to_index (opening_length first) (drop p (cells t m)) ≡ last) (inside : p + length g ≤ length (cells t m)) (low : p ≤ 4002)
    (long : opening_length first + length r ≡ length g) (fit : blocks_fit last r ≡ true) (numbers : FitsCount (sector_in first r)) where
  abbrev o : ℕ
  o = opening_length first

  -- The opening is the one that the place decides.
  opening_is : o ≡ opening_length (opens_first p)
  opening_is = ap opening_length place

  rest_is : rest_at p (cells t m) ≡ r
  unfolding rest_at
  rest_is = ap (λ (n : ℕ). span_rest n (drop p (cells t m))) (sym opening_is) ∙ after

  step_is : sector_at p (cells t m) ≡ sector_fields (p + o) (p + length g) last r
  step_is = sym (sector_here t m p o (length g) opening_is (sym size) low last (sym runs) r (sym rest_is))

  blocks_inside : block_end r + least_gap last ≤ length r
  blocks_inside = end_in_span r last fit

  -- A place in what follows the opening is one in the track.
  bytes_at : (i n : ℕ) → i + n ≤ length r → take n (drop (p + o + i) t) ≡ take n (drop i r)
  bytes_at i n l =
      span_rest_place t m p o i n (omega (arith, ap length after)) ∙ ap (λ (xs : List ℕ). take n (drop i xs)) after

  key_there : take (length (key_info r)) (drop (pick (eqb (key_length r) 0) 0 (p + o + 23 + 6)) t) ≡ key_info r
  unfolding key_info block_info
  key_there =
      cases (eqb (key_length r) 0)
      (λ e. let z : key_length r ≡ 0 = eqb-true (key_length r) 0 e in rw (fit_key last r fit, z))
      (λ e.
      let n : ℕ = key_length r in
      let l : 29 + n ≤ length r = omega (arith, blocks_inside, key_in_offset r, data_in_end r) in
      let q : p + o + 23 + 6 ≡ p + o + 29 = omega arith in
      rw (fit_key last r fit, e, q) (bytes_at 29 n l ∙ ap (take n) (sym (drop-drop 6 23 r))))

  data_there : take (length (data_info r)) (drop (p + o + data_offset r + 6) t) ≡ data_info r
  unfolding data_info block_info
  data_there =
      let n : ℕ = data_length r in
      let k : ℕ = data_offset r in
      let l : k + 6 + n ≤ length r = omega (arith, blocks_inside, data_in_end r) in
      let q : p + o + k + 6 ≡ p + o + (k + 6) = omega arith in
      rw (fit_data last r fit, q) (bytes_at (k + 6) n l ∙ ap (take n) (sym (drop-drop 6 k r)))

  -- The sector that it shows.
  abbrev shown : Placed
  shown = shown_by first p g r

  key_length_here : length shown.sector.key_bytes ≡ key_length r
  unfolding sector_in
  key_length_here = fit_key last r fit

  data_length_here : length shown.sector.data_bytes ≡ data_length r
  unfolding sector_in
  data_length_here = fit_data last r fit

  key_place_here : (listed shown).key_place ≡ pick (eqb (key_length r) 0) 0 (p + o + 23 + 6)
  unfolding listed sector_in
  key_place_here = ap (λ (n : ℕ). pick (eqb n 0) 0 (p + o + 23 + 6)) key_length_here

  data_place_here : (listed shown).data_place ≡ p + o + data_offset r + 6
  unfolding listed sector_in
  data_place_here = ap (λ (n : ℕ). p + o + 23 + 6 + key_size n) key_length_here ∙ omega (arith, offset_is r)

  end_here : end_of shown ≡ p + o + block_end r
  unfolding end_of blocks_at sector_in
  end_here = ap (λ (xs : List ℕ). p + o + block_end xs) behind

  key_below : (listed shown).key_place + key_length r ≤ p + o + data_offset r + 6
  key_below =
      cases (eqb (key_length r) 0)
      (λ e. omega (arith, eqb-true (key_length r) 0 e, rw e at key_place_here))
      (λ e. omega (arith, key_in_offset r, rw e at key_place_here))

  key_shown : take (length shown.sector.key_bytes) (drop (listed shown).key_place t) ≡ shown.sector.key_bytes
  unfolding sector_in
  key_shown = ap (λ (q : ℕ). take (length (key_info r)) (drop q t)) key_place_here ∙ key_there

  data_shown : take (length shown.sector.data_bytes) (drop (listed shown).data_place t) ≡ shown.sector.data_bytes
  unfolding sector_in
  data_shown = ap (λ (q : ℕ). take (length (data_info r)) (drop q t)) data_place_here ∙ data_there

  end_sizes : p + opening_length (opens_first p) + 23 + key_size (length shown.sector.key_bytes) + data_size (length shown.sector.data_bytes) ≤ end_of shown
  end_sizes =
      let k = ap key_size key_length_here in
      let d = ap data_size data_length_here in
      omega (arith, k, d, end_here, opening_is, offset_is r, written_in_end r)

  -- Then the sector that it shows stands there.
  pub stepping_made : Stepping t m p (shown_by first p g r) last
  unfolding sector_fields sector_in
  stepping_made =
      record {
        place_is = refl;
        place_least = least;
        first_is = place;
        flag_is = ap (λ (z : SectorAt). z.flag) step_is;
        number_is = ap (λ (z : SectorAt). z.number) step_is;
        address_is = ap (λ (z : SectorAt). z.address) step_is;
        key_length_is = ap (λ (z : SectorAt). z.key_length) step_is ∙ sym key_length_here;
        data_length_is = ap (λ (z : SectorAt). z.data_length) step_is ∙ sym data_length_here;
        key_place_is = ap (λ (z : SectorAt). z.key_place) step_is ∙ sym key_place_here;
        data_place_is = ap (λ (z : SectorAt). z.data_place) step_is ∙ sym data_place_here;
        end_is = ap (λ (z : SectorAt). z.end) step_is ∙ sym end_here;
        next_is = ap (λ (z : SectorAt). z.next) step_is;
        last_is = ap (λ (z : SectorAt). z.last) step_is;
        key_bytes_holds = key_shown;
        data_bytes_holds = data_shown;
        key_fits = omega (arith, numbers.key_fits);
        data_fits = omega (arith, numbers.data_fits);
        key_inside = omega (arith, key_length_here, data_place_here, key_below);
        data_inside = omega (arith, data_length_here, data_place_here, end_here, data_in_end r);
        end_size = end_sizes;
        gap_inside = omega (arith, end_here, blocks_inside, long);
        end_inside = omega (arith, end_here, blocks_inside, long, gap_least last);
        span_least = omega (arith, opening_least first, blocks_inside, long, gap_least last, key_in_offset r, data_in_end r);
        span_inside = inside;
      }
