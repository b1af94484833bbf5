-- A track that Accept accepted, after a burst in one of its fields: Accept refuses it for that field's check.
use mathlib.Core.Path.{◌≡◌, sym, ap, ◌∙◌}
use Prim.Native.Nat.{ℕ, ◌+◌}
use native.Mathlib.Omega.{arith}
use mathlib.Core.List.{List, ◌++◌}
use Rattle.base.specs.Lists.{Member}
use Rattle.crc.proofs.Burst.{burst_length}
use Rattle.format.specs.Judged.{good, refused}
use Rattle.format.specs.Lent.{cells}
use Rattle.format.specs.Home.{judge_home}
use Rattle.format.specs.Blocks.{Wanted, the_key, offset_of, length_of}
use Rattle.format.specs.Accept.{Placed, placed_rest, Accepted, accept_cells, accept}
use Rattle.format.specs.Burst.{Field, of_home, of_count, of_block, HasField, info_place, check_answer, checked_on, BurstIn}
use Rattle.format.proofs.Sector.BlocksJudged.{block_fits}
use Rattle.format.proofs.Sector.ReadsAs.{accepted_by}
use Rattle.format.proofs.Track.Pairs.{accepted_pair}
use Rattle.format.proofs.Bursts.AlteredBytes.{CellParts}
use Rattle.format.proofs.Bursts.AlteredHome.{home_parts}
use Rattle.format.proofs.Bursts.AlteredSector.{AlteredSector, altered_sector}
use Rattle.format.proofs.Bursts.HomeBurst.{home_burst}
use Rattle.format.proofs.Bursts.SectorBurst.{BlockRead, unclosed_accept, block_accept, count_burst, block_burst}

-- The track t with marks m, accepted as a, and u after a burst in one of its fields.
module _ (t m u : List ℕ) (a : Accepted) (e : accept t m ≡ good a) where
  -- In home: it is refused by 3.
  accept_home : BurstIn a of_home t u → accept u m ≡ refused (check_answer a of_home)
  unfolding accept accept_cells
  accept_home b =
      let c : CellParts (info_place a of_home) 7 t u m = home_parts t m u a e b.bytes b.same (burst_length 16 (checked_on a of_home t) (checked_on a of_home u) b.burst) in
      let ys : List ℕ = checked_on a of_home t in
      let zs : List ℕ = checked_on a of_home u in
      let judged : judge_home (c.front ++ (ys ++ c.back)) ≡ good a.home = ap judge_home (sym c.old_is) ∙ (accepted_by (cells t m) a (accepted_pair t m a e).1).home_judged in
      let wrong : judge_home (cells u m) ≡ refused (check_answer a of_home) =
      ap judge_home c.new_is ∙ home_burst a.home c.front ys zs c.back c.front_size c.old_size c.new_size c.old_unmarked b.bytes judged b.burst in
      rw (c.lent, wrong)

  -- The count of the sector y, as altered.
  pub altered_count : (y : Placed) → Member y a.sectors → BurstIn a (of_count y) t u → AlteredSector t m u a y (info_place a (of_count y)) 0 11
  altered_count y k b =
      altered_sector t m u a e y k (info_place a (of_count y)) 0 11 (omega arith) (λ last f. omega (arith, block_fits the_key last (placed_rest y) f)) b.bytes b.same
      (burst_length 16 (checked_on a (of_count y) t) (checked_on a (of_count y) u) b.burst)

  -- Its key or its data block, as altered.
  pub altered_block : (w : Wanted) (y : Placed) → HasField a (of_block w y) → BurstIn a (of_block w y) t u
      → AlteredSector t m u a y (info_place a (of_block w y)) (offset_of w (placed_rest y) + 6) (length_of w (placed_rest y) + 2)
  altered_block w y k b =
      altered_sector t m u a e y k.0 (info_place a (of_block w y)) (offset_of w (placed_rest y) + 6) (length_of w (placed_rest y) + 2) (omega arith)
      (λ last f. omega (arith, block_fits w last (placed_rest y) f)) b.bytes b.same (burst_length 16 (checked_on a (of_block w y) t) (checked_on a (of_block w y) u) b.burst)

  -- What is read of it.
  pub block_reads : (w : Wanted) (y : Placed) (k : HasField a (of_block w y)) (b : BurstIn a (of_block w y) t u)
      → BlockRead t m u a y (info_place a (of_block w y)) (offset_of w (placed_rest y) + 6) (length_of w (placed_rest y) + 2) (altered_block w y k b) w
  block_reads w y k b = block_burst t m u a y (info_place a (of_block w y)) w (altered_block w y k b) k.1 b.burst

  -- Accept refuses u for the check of the field that the burst is in, whichever it is: by 3, 7, 10 or 11 at its opening.
  pub accept_burst : (f : Field) → HasField a f → BurstIn a f t u → accept u m ≡ refused (check_answer a f)
  accept_burst of_home k b = accept_home b
  accept_burst (of_count y) k b =
      let v = altered_count y k b in
      unclosed_accept t m u a y (info_place a (of_count y)) 0 11 v (count_burst t m u a y (info_place a (of_count y)) v b.burst)
  accept_burst (of_block w y) k b =
      block_accept t m u a y (info_place a (of_block w y)) (offset_of w (placed_rest y) + 6) (length_of w (placed_rest y) + 2) (altered_block w y k b) w (block_reads w y k b)
