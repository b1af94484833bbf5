-- The chain: from a call that writes a sector to the drive's bit cells and back to Find, and from bit cells to the sectors and back.
use mathlib.Core.Path.{refl, subst}
use Prim.Native.Nat.{ℕ}
use mathlib.Core.List.{List}
use Rattle.format.specs.Written.{Pair}
use Rattle.format.specs.Find.{content_of}
use Rattle.format.specs.Blocks.{Wanted, the_key, the_data}
use Rattle.format.proofs.Find.FindAccepted.{find_content}
use Rattle.bitcells.specs.ToCells.{written_cells}
use Rattle.bitcells.proofs.RoundTrip.{written_back}
use Rattle.roundtrip.specs.Chain.{Found, ThroughCells, Chain}
use Rattle.roundtrip.proofs.AcceptedCells.{accepted_sent}
use Rattle.roundtrip.proofs.WrittenSector.{HasSector, written_sector_lem}

module _ (q : Pair) (s : ℕ) (key body : List ℕ) (v : HasSector q s key body) where
  -- Find hands out the key and the data of the sector that was written.
  found_written : (w : Wanted) → Found s w q.track q.marks (content_of w v.placed.sector)
  found_written w =
      subst (λ (n : ℕ). Found n w q.track q.marks (content_of w v.placed.sector)) v.holds.number_is
      (find_content q.track q.marks v.accepted v.accepted_is v.placed v.member w)

  -- A pair with the written sector comes back from bit cells with it.
  through_cells : ThroughCells q s key body
  through_cells =
      let t : List ℕ = q.track in
      let m : List ℕ = q.marks in
      let r = accepted_sent t m v.accepted v.bytes v.accepted_is in
      record {
        cell_bytes_holds = written_cells t m;
        sent = r.0;
        pair_read = q;
        read = r.1;
        same = refl;
        key_found = subst (Found s the_key t m) v.holds.key_is (found_written the_key);
        data_found = subst (Found s the_data t m) v.holds.data_is (found_written the_data);
      }

-- The chain holds, whatever the rule of the gap.
pub chain : Chain
chain =
    record {
      out_and_in = λ s key body q n uk ub w. through_cells q s key body (written_sector_lem s key body q n uk ub w);
      in_and_out = λ x l k q a b e acc. record { found = find_content q.track q.marks a acc; sent = (written_back x l k b q e).4 };
    }
