-- What the measures of the bytes behind a count's opening say, one by one.
use mathlib.Core.Path.{◌≡◌, ap}
use Prim.Native.Nat.{ℕ}
use mathlib.Core.List.{List}
use Rattle.format.specs.Count.{key_length, data_length}
use Rattle.format.specs.Block.{data_offset, block_end}
use Rattle.sector.specs.Measured.{Measured, measured_in, as_measured}
use Rattle.sector.specs.declared.blocks.Measured.{Measured as MeasuredCode}

-- The measures b are those of r.
module _ (b : MeasuredCode) (r : List ℕ) (e : as_measured b ≡ measured_in r) where
  -- KL.
  pub key_length_in : b.key_length ≡ key_length r
  unfolding measured_in
  key_length_in = ap (λ (m : Measured). m.key_length) e

  -- DL.
  pub data_length_in : b.data_length ≡ data_length r
  unfolding measured_in
  data_length_in = ap (λ (m : Measured). m.data_length) e

  -- Where the data block opens.
  pub data_offset_in : b.data_offset ≡ data_offset r
  unfolding measured_in
  data_offset_in = ap (λ (m : Measured). m.data_offset) e

  -- Where it ends.
  pub end_in_lem : b.end ≡ block_end r
  unfolding measured_in
  end_in_lem = ap (λ (m : Measured). m.end) e
