-- What the chain of calls from the record to the drive's bit cells and back is to give.
use Rattle.std.specs.Prelude.{◌≡◌, ℕ, ◌*◌, ◌<◌, true, List, length}
use Rattle.crc.specs.Halves.{AllBytes}
use Rattle.format.specs.Judged.{good}
use Rattle.format.specs.Lent.{unmarked}
use Rattle.format.specs.Address.{Address}
use Rattle.format.specs.Accept.{Placed, Accepted, accept}
use Rattle.format.specs.GapRule.{GapRule}
use Rattle.format.specs.Written.{Pair}
use Rattle.format.specs.Blank.{blank}
use Rattle.format.specs.Add.{add}
use Rattle.format.specs.Correct.{correct}
use Rattle.format.specs.Find.{part_of, find, content_of}
use Rattle.format.specs.Blocks.{Wanted, the_key, the_data, Part}
use Rattle.base.specs.Lists.{Member}
use Rattle.bitcells.specs.FromCells.{from_cells}
use Rattle.bitcells.specs.ToCells.{to_cells}

-- Find of the part w of the sector s on the track t with the marks m is done and hands out the bytes xs.
abbrev pub Found : ℕ → Wanted → List ℕ → List ℕ → List ℕ → Type 0
Found s w t m xs = (part : Part) × (find s w t m ≡ good part) × (part_of t part ≡ xs)

-- A call that writes the sector s with this key and data, by whatever rule of the gap, is done and leaves the pair q; every element of the old track of Add and Correct is a byte.
pub data Wrote (s : ℕ) (key body : List ℕ) (q : Pair) : Type 0 where
  by_blank : (l k : ℕ) (own : Address) (flag : ℕ) (partner : Address) → blank l k own flag partner s key body ≡ good q → Wrote s key body q
  by_add : (rule : GapRule) (t m : List ℕ) (l k b7 : ℕ) → unmarked t ≡ true → add rule t m l k b7 s key body ≡ good q → Wrote s key body q
  by_correct : (rule : GapRule) (t m : List ℕ) (l k : ℕ) → unmarked t ≡ true → correct rule t m l k s key body ≡ good q → Wrote s key body q

-- The pair q is sent to bit cells, the pair that is read from them is q, and Find hands out this key and data of the sector s on it.
pub record ThroughCells (q : Pair) (s : ℕ) (key body : List ℕ) : Type 0 where
  pub cell_bytes_holds : List ℕ
  pub sent : to_cells q.track q.marks (2 * length q.track) ≡ good cell_bytes_holds
  pub pair_read : Pair
  pub read : from_cells cell_bytes_holds (length q.track) (length q.track) ≡ good pair_read
  pub same : pair_read ≡ q
  pub key_found : Found s the_key pair_read.track pair_read.marks key
  pub data_found : Found s the_data pair_read.track pair_read.marks body

-- On the pair q, read from the cell bytes x and accepted as a, Find hands out the key and data of each sector, and q is sent to x.
pub record BackToCells (x : List ℕ) (q : Pair) (a : Accepted) : Type 0 where
  pub found : (y : Placed) → Member y a.sectors → (w : Wanted) → Found y.sector.number w q.track q.marks (content_of w y.sector)
  pub sent : to_cells q.track q.marks (length x) ≡ good x

-- The whole chain: whatever a call writes comes back from bit cells with its key and data, and an accepted
-- track that comes from bit cells hands out its sectors and goes back to them.
pub record Chain : Type 0 where
  pub out_and_in : (s : ℕ) (key body : List ℕ) (q : Pair) → s < 256 → unmarked key ≡ true → unmarked body ≡ true → Wrote s key body q
      → ThroughCells q s key body
  pub in_and_out : (x : List ℕ) (l k : ℕ) (q : Pair) (a : Accepted) → AllBytes x → from_cells x l k ≡ good q → accept q.track q.marks ≡ good a
      → BackToCells x q a
