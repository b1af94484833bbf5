-- Key and data block of a span that ends before they open.
use mathlib.Core.Path.{◌≡◌}
use Prim.Native.Nat.{ℕ, ◌+◌, ◌<◌}
use native.Mathlib.Omega.{arith}
use mathlib.Core.List.{List}
use lib.ListN.{length, drop, length-drop}
use lib.Dec.{eqb}
use borrow.Author.Tests.{eq-eqb, ne_eqb}
use Rattle.format.specs.Opening.{plain_opening}
use Rattle.format.specs.Fault.{opening_wrong, faulty}
use Rattle.format.specs.Count.{key_length, data_length}
use Rattle.format.specs.Block.{data_offset, empty_closing, empty_size, block_end, test_block, test_empty, test_key, test_data}
use Rattle.base.proofs.Tests.{cases}
use Rattle.format.proofs.Cells.Opening.{starts_short}

-- A block of fewer than six bytes is at fault in its opening.
block_short : (n : ℕ) (c : List ℕ) → length c < 6 → faulty opening_wrong ≡ test_block n c
unfolding test_block
block_short n c h = rw (starts_short plain_opening c h)

-- So is one where DL = 0.
empty_short : (c : List ℕ) → length c < 6 → faulty opening_wrong ≡ test_empty c
unfolding test_empty
empty_short c h = rw (starts_short plain_opening c h)

-- In fewer than seven bytes nothing stands behind its 00.
pub size_short : (c : List ℕ) → length c < 7 → empty_size c ≡ 7
unfolding empty_size
size_short c h = rw (starts_short empty_closing (drop 7 c) (omega (arith, length-drop 7 c)))

module _ (r : List ℕ) where
  -- In a span of fewer than 23 bytes no key opens.
  pub key_short : (key_length r ≡ 0 → ⊥) → length r < 23 → faulty opening_wrong ≡ test_key r
  unfolding test_key
  key_short k h = rw (ne_eqb (key_length r) 0 k) (block_short (key_length r) (drop 23 r) (omega (arith, length-drop 23 r)))

  -- In one that ends before the data block's offset this does not open,
  pub data_short : length r < data_offset r → faulty opening_wrong ≡ test_data r
  unfolding test_data
  data_short h =
      let c : List ℕ = drop (data_offset r) r in
      let l : length c < 6 = omega (arith, length-drop (data_offset r) r) in
      cases (eqb (data_length r) 0) (λ e. rw e (empty_short c l)) (λ e. rw e (block_short (data_length r) c l))

  -- and ends seven bytes behind it where DL = 0.
  pub end_short : data_length r ≡ 0 → length r < data_offset r → data_offset r + 7 ≡ block_end r
  unfolding block_end
  end_short z h = rw (eq-eqb (data_length r) 0 z, size_short (drop (data_offset r) r) (omega (arith, length-drop (data_offset r) r)))
