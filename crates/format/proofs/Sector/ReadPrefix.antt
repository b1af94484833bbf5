-- Two spans that agree up to the end of the block read the same, whatever gap follows it, but for the bytes that the block takes from it.
use mathlib.Core.Path.{◌≡◌, sym, ap, ◌∙◌}
use Prim.Native.Nat.{ℕ, ◌+◌, ◌≤◌}
use native.Mathlib.Omega.{arith}
use mathlib.Core.Bool.{Bool, true}
use mathlib.Core.List.{List, ◌++◌}
use lib.ListN.{length, drop, length-append, length-drop}
use lib.Seq.{drop-append-le}
use lib.Dec.{leb, eqb}
use borrow.Author.Tests.{leb-true, leb-false, le-leb, lt-leb}
use Rattle.format.specs.Answer.{span_too_short}
use Rattle.format.specs.Judged.{good, require}
use Rattle.format.specs.Opening.{starts_with, plain_opening}
use Rattle.format.specs.Address.{address_in}
use Rattle.format.specs.Home.{Home}
use Rattle.format.specs.Count.{Settled, count_address, key_length, data_length, count_fits, count_closed, count_fields_right}
use Rattle.format.specs.Block.{data_offset, block_end, least_gap, blocks_fit, test_key, test_data, key_info, data_info}
use Rattle.format.specs.Gap.{taken_from}
use Rattle.format.specs.Sector.{Sector, opening_length, is_first, sector_in, read_span}
use Rattle.base.proofs.Tests.{cases}
use Rattle.format.proofs.Sector.BlockEnd.{key_in_offset, key_block_in_offset, data_in_end, block_in_end, count_in_lem, byte_same, key_length_same, data_length_same, offset_same, end_taken}
use Rattle.format.proofs.Cells.Local.{starts_local, closed_local, block_local, empty_local, info_local}
use Rattle.format.proofs.Sector.ReadSector.{rest_of, read_inv, read_make, read_short}

-- The blocks behind the opening end within xs: what follows xs does not matter to them.
module _ (xs ys zs : List ℕ) (ends : block_end (xs ++ ys) ≤ length xs) where
  abbrev r : List ℕ
  r = xs ++ ys

  address_same : count_address (xs ++ zs) ≡ count_address (xs ++ ys)
  unfolding address_in
  address_same = rw (byte_same xs ys zs ends 1 (omega arith), byte_same xs ys zs ends 2 (omega arith), byte_same xs ys zs ends 3 (omega arith), byte_same xs ys zs ends 4 (omega arith))

  closed_same : count_closed (xs ++ zs) ≡ count_closed (xs ++ ys)
  unfolding count_closed
  closed_same = closed_local xs ys zs 9 0 (omega (arith, count_in_lem xs ys zs ends))

  fields_same : (h : Home) (i : ℕ) (x : Settled) → count_fields_right h i x (xs ++ zs) ≡ count_fields_right h i x (xs ++ ys)
  unfolding count_fields_right
  fields_same h i x = rw (byte_same xs ys zs ends 0 (omega arith), address_same)

  key_same : test_key (xs ++ zs) ≡ test_key (xs ++ ys)
  unfolding test_key
  key_same =
      rw (key_length_same xs ys zs ends)
      (cases (eqb (key_length r) 0)
      (λ e. rw e)
      (λ e. rw (e, block_local xs ys zs (key_length r) 23 (omega (arith, data_in_end r, key_block_in_offset r e)))))

  data_same : test_data (xs ++ zs) ≡ test_data (xs ++ ys)
  unfolding test_data
  data_same =
      let o : ℕ = data_offset r in
      rw (data_length_same xs ys zs ends, offset_same xs ys zs ends)
      (cases (eqb (data_length r) 0)
      (λ e. rw (e, empty_local xs ys zs o (omega (arith, data_in_end r))))
      (λ e. rw (e, block_local xs ys zs (data_length r) o (omega (arith, block_in_end r e)))))

  key_info_same : key_info (xs ++ zs) ≡ key_info (xs ++ ys)
  unfolding key_info
  key_info_same = rw (key_length_same xs ys zs ends) (info_local xs ys zs (key_length r) 23 (omega (arith, data_in_end r, key_in_offset r)))

  data_info_same : data_info (xs ++ zs) ≡ data_info (xs ++ ys)
  unfolding data_info
  data_info_same = rw (data_length_same xs ys zs ends, offset_same xs ys zs ends) (info_local xs ys zs (data_length r) (data_offset r) (omega (arith, data_in_end r)))

  sector_same : (first : Bool) → sector_in first (xs ++ zs) ≡ sector_in first (xs ++ ys)
  unfolding sector_in
  sector_same first = rw (byte_same xs ys zs ends 0 (omega arith), byte_same xs ys zs ends 5 (omega arith), address_same, key_info_same, data_info_same)

-- The spans w ++ y and w ++ z in position i.
module _ (i : ℕ) (w y z : List ℕ) where
  -- The length of the opening.
  abbrev o : ℕ
  o = opening_length (is_first i)

  carried : {X : Type 0} (f : List ℕ → X) → o ≤ length w → f (drop o w ++ z) ≡ f (drop o w ++ y) → f (drop o (w ++ z)) ≡ f (drop o (w ++ y))
  carried f l e = ap f (drop-append-le o w z l) ∙ e ∙ sym (ap f (drop-append-le o w y l))

  -- Where w ends with the block, the blocks and the least gap fit in w ++ z if z has that gap behind the bytes that the block takes from it.
  fit_gap : (final : Bool) → o ≤ length w → block_end (drop o w ++ y) ≡ length (drop o w)
      → blocks_fit final (drop o (w ++ z)) ≡ leb (taken_from (drop o w) z + least_gap final) (length z)
  unfolding blocks_fit
  fit_gap final l e =
      let xs : List ℕ = drop o w in
      let n : ℕ = taken_from xs z + least_gap final in
      let end : block_end (drop o (w ++ z)) ≡ length xs + taken_from xs z = ap block_end (drop-append-le o w z l) ∙ end_taken xs y z e in
      let size : length (drop o (w ++ z)) ≡ length xs + length z = ap length (drop-append-le o w z l) ∙ length-append xs z in
      rw (end, size)
      (cases (leb n (length z))
      (λ t. le-leb (length xs + taken_from xs z + least_gap final) (length xs + length z) (omega (arith, leb-true n (length z) t)) ∙ sym t)
      (λ f. lt-leb (length xs + taken_from xs z + least_gap final) (length xs + length z) (omega (arith, leb-false n (length z) f)) ∙ sym f))

  -- The gap's bytes are free: what is read from w ++ y, where w ends with the block, is read from w ++ z, whatever z holds and whether it runs to index or not,
  -- if z has the least gap behind the bytes that the block takes from it; else the answer is 9.
  pub read_gap : (h : Home) (x : Settled) (p q : ℕ) (last final : Bool) (s : Sector) → read_span h i x p last (w ++ y) ≡ good s
      → opening_length (is_first i) + block_end (rest_of i (w ++ y)) ≡ length w
      → read_span h i x q final (w ++ z) ≡ require (leb (taken_from (rest_of i w) z + least_gap final) (length z)) (span_too_short q) (good s)
  unfolding count_fits
  read_gap h x p q last final s e ends =
      let v = read_inv h i x p last (w ++ y) s e in
      let l : o ≤ length w = omega arith in
      let xs : List ℕ = drop o w in
      let here : block_end (xs ++ y) ≡ length xs = omega (arith, ap block_end (drop-append-le o w y l), length-drop o w) in
      let inside : block_end (xs ++ y) ≤ length xs = omega arith in
      let enough : 30 ≤ length xs = count_in_lem xs y z inside in
      let opened : i ≡ 0 → starts_with plain_opening (w ++ z) ≡ true = λ j. starts_local w y z plain_opening 0 (omega (arith, length-drop o w)) ∙ v.opened j in
      let fits : count_fits (drop o (w ++ z)) ≡ true = le-leb 12 (length (drop o (w ++ z))) (omega (arith, length-drop o w, length-drop o (w ++ z), length-append w z)) in
      let closed : count_closed (drop o (w ++ z)) ≡ true = carried count_closed l (closed_same xs y z inside) ∙ v.count_closed_holds in
      let fields : count_fields_right h i x (drop o (w ++ z)) ≡ true = carried (count_fields_right h i x) l (fields_same xs y z inside h i x) ∙ v.fields_right in
      cases (leb (taken_from xs z + least_gap final) (length z))
      (λ t. rw t
      (read_make h i x q final (w ++ z) s
      (record {
        opened = opened;
        count_fits_holds = fits;
        count_closed_holds = closed;
        fields_right = fields;
        blocks_fit_holds = fit_gap final l here ∙ t;
        key_right = carried test_key l (key_same xs y z inside) ∙ v.key_right;
        data_right = carried test_data l (data_same xs y z inside) ∙ v.data_right;
        sector_is = v.sector_is ∙ sym (carried (sector_in (is_first i)) l (sector_same xs y z inside (is_first i)));
      })))
      (λ f. rw f (read_short h i x q final (w ++ z) opened fits closed fields (fit_gap final l here ∙ f)))
