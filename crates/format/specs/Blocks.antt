-- What follows a count's opening as one value: each block with the answer that refuses it, and where the blocks end.
use Rattle.std.specs.Prelude.{ℕ, ◌+◌, Bool, List, eqb}
use Rattle.base.specs.Pick.{pick}
use Rattle.format.specs.Layout.{plain_length}
use Rattle.format.specs.Fault.{Fault, Tested}
use Rattle.format.specs.Answer.{Answer, span_too_short, key_wrong, data_wrong}
use Rattle.format.specs.Judged.{Judged, good, require, require_sound}
use Rattle.format.specs.Count.{key_length, data_length}
use Rattle.format.specs.Block.{key_offset, data_offset, block_end, blocks_fit, test_key, test_data, key_info, data_info}

-- A part of the lent track.
pub record Part : Type 0 where
  pub start : ℕ
  pub size : ℕ

-- The part of n bytes from place p on; an empty part may lie anywhere and is put at 0.
unfoldable pub part_at : ℕ → ℕ → Part
part_at p n = record { start = pick (eqb n 0) 0 p; size = n }

-- Which part of a sector is asked for.
pub data Wanted : Type 0 where
  the_key the_data : Wanted

-- Where the key or the data block opens behind the count's opening, of which r is what follows.
abbrev pub offset_of : Wanted → List ℕ → ℕ
offset_of the_key r = key_offset
offset_of the_data r = data_offset r

-- Its length by the count.
abbrev pub length_of : Wanted → List ℕ → ℕ
length_of the_key r = key_length r
length_of the_data r = data_length r

-- Its information.
abbrev pub info_of : Wanted → List ℕ → List ℕ
info_of the_key r = key_info r
info_of the_data r = data_info r

-- Its test.
abbrev pub test_of : Wanted → List ℕ → Tested
test_of the_key r = test_key r
test_of the_data r = test_data r

-- The answer that refuses it at place p, where f is at fault.
abbrev pub wrong_at : Wanted → Fault → ℕ → Answer
wrong_at the_key f p = key_wrong f p
wrong_at the_data f p = data_wrong f p

-- The part that the information of the key or of the data takes in r, which follows a count's opening from place q on.
abbrev pub part_in : Wanted → ℕ → List ℕ → Part
part_in the_key q r = part_at (q + key_offset + plain_length) (key_length r)
part_in the_data q r = part_at (q + data_offset r + plain_length) (data_length r)

-- What follows a count's opening: the key and the data block, each as the part that its information takes or the answer that refuses it, and the place at which the data block ends.
pub record Blocks : Type 0 where
  pub key : Judged Part
  pub body : Judged Part
  pub end : ℕ

-- The blocks in r, which follows a count's opening from place q on: 10 for the key, 11 for the data block, each at the place where it opens.
unfoldable pub blocks_at : ℕ → List ℕ → Blocks
blocks_at q r =
    record {
      key = require_sound (test_key r) (λ f. key_wrong f (q + key_offset)) (good (part_in the_key q r));
      body = require_sound (test_data r) (λ f. data_wrong f (q + data_offset r)) (good (part_in the_data q r));
      end = q + block_end r;
    }

-- The block that is asked for.
abbrev pub wanted_part : Wanted → Blocks → Judged Part
wanted_part the_key b = b.key
wanted_part the_data b = b.body

-- The blocks of the count at p, where `last` says that the span runs to index: 9 where they and the least gap do not lie in it.
unfoldable pub judge_fit : ℕ → Bool → List ℕ → Judged (Unit {0})
judge_fit p last r = require (blocks_fit last r) (span_too_short p) (good tt)
