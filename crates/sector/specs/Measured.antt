-- What follows a count's opening, measured.
use Rattle.std.specs.Prelude.{ℕ, List}
use Rattle.format.specs.Count.{key_length, data_length}
use Rattle.format.specs.Block.{data_offset, block_end}
use Rattle.sector.specs.declared.blocks.Measured.{Measured as MeasuredCode}

-- KL, DL, and the offsets at which the data block opens and ends.
pub record Measured : Type 0 where
  pub key_length : ℕ
  pub data_length : ℕ
  pub data_offset : ℕ
  pub end : ℕ

-- The measures of r, which follows a count's opening.
unfoldable pub measured_in : List ℕ → Measured
measured_in r =
    record { key_length = key_length r; data_length = data_length r; data_offset = data_offset r; end = block_end r }

-- What a value of the code says.
abbrev pub as_measured : MeasuredCode → Measured
as_measured b =
    record {
      key_length = b.key_length;
      data_length = b.data_length;
      data_offset = b.data_offset;
      end = b.end;
    }
