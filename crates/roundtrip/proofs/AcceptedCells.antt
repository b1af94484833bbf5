-- Every accepted track can be sent to bit cells: its marks stand on FF only.
use mathlib.Core.Path.{◌≡◌}
use Prim.Native.Nat.{ℕ, zero, suc, ◌+◌, ◌*◌, ◌<◌}
use native.Mathlib.Nat.{le_of_suc-le-suc}
use native.Mathlib.Omega.{arith}
use mathlib.Core.Bool.{true}
use mathlib.Core.List.{List, [], ◌∷◌}
use lib.ListN.{length}
use lib.Dec.{ltb}
use borrow.Author.Tests.{ltb-true, eqb-true}
use Rattle.crc.specs.Halves.{AllBytes}
use Rattle.format.specs.Judged.{good}
use Rattle.format.specs.Lent.{cells, unmarked}
use Rattle.format.specs.Accept.{Accepted, first_count_end, accept}
use Rattle.base.proofs.Tests.{cases, and_both}
use Rattle.format.proofs.Sector.ReadsAs.{accepted_by}
use Rattle.format.proofs.Track.Pairs.{accepted_pair, cell_recordable, cells_recordable, recordable_marks}
use Rattle.bitcells.specs.FromCells.{from_cells}
use Rattle.bitcells.specs.ToCells.{written_cells, to_cells}
use Rattle.bitcells.specs.Legal.{MarkedFF}
use Rattle.bitcells.proofs.RoundTrip.{read_back}

-- The byte of a marked cell that can be recorded is FF.
marked_cell : (b k : ℕ) → b < 256 → cell_recordable (b + 256 * k) ≡ true → k ≡ 1 → b ≡ 0xFF
unfolding cell_recordable
marked_cell b k l e h =
    cases (ltb (b + 256 * k) 256)
    (λ q. absurd (omega (arith, ltb-true (b + 256 * k) 256 q)))
    (λ q. omega (arith, eqb-true (b + 256 * k) 0x1FF (rw q at e)))

-- Of a pair whose cells can be recorded, every marked byte is FF.
marked_pair : (t m : List ℕ) → unmarked t ≡ true → cells_recordable (cells t m) ≡ true → MarkedFF t m
unfolding cells unmarked cells_recordable
marked_pair [] m u e i l h = absurd (omega arith)
marked_pair (b ∷ t) [] u e i l h = absurd (omega arith)
marked_pair (b ∷ t) (k ∷ m) u e zero l h =
    marked_cell b k (ltb-true b 256 (and_both (ltb b 256) (unmarked t) u).0) (and_both (cell_recordable (b + 256 * k)) (cells_recordable (cells t m)) e).0 h
marked_pair (b ∷ t) (k ∷ m) u e (suc i) l h =
    marked_pair t m (and_both (ltb b 256) (unmarked t) u).1 (and_both (cell_recordable (b + 256 * k)) (cells_recordable (cells t m)) e).1 i (le_of_suc-le-suc l) h

-- Every marked byte of an accepted track is FF.
pub accepted_marked : (t m : List ℕ) (a : Accepted) → unmarked t ≡ true → accept t m ≡ good a → MarkedFF t m
accepted_marked t m a u e =
    let c : List ℕ = cells t m in
    let b = accepted_by c a (accepted_pair t m a e).1 in
    marked_pair t m u (recordable_marks (first_count_end a.home.place) 0 0 c b.marks_judged)

-- Unmarked cells are bytes.
unmarked_all : (xs : List ℕ) → unmarked xs ≡ true → AllBytes xs
unfolding unmarked AllBytes
unmarked_all [] e = tt
unmarked_all (x ∷ xs) e =
    let h = and_both (ltb x 256) (unmarked xs) e in
    (ltb-true x 256 h.0, unmarked_all xs h.1)

-- Every accepted track goes to bit cells, and they are read as the same track and marks.
pub accepted_sent : (t m : List ℕ) (a : Accepted) → unmarked t ≡ true → accept t m ≡ good a
    → (to_cells t m (2 * length t) ≡ good (written_cells t m))
    × (from_cells (written_cells t m) (length t) (length t) ≡ good (record { track = t; marks = m }))
accepted_sent t m a u e = read_back t m (accepted_pair t m a e).0 (unmarked_all t u) (accepted_marked t m a u e)
