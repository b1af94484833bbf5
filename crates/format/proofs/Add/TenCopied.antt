-- Add behind a data block of ten bytes copies all ten.
use mathlib.Core.Path.{◌≡◌, sym, ap, ◌∙◌}
use Prim.Native.Nat.{ℕ, ◌+◌, ◌-◌, ◌<◌}
use native.Mathlib.Omega.{arith}
use mathlib.Core.Bool.{true}
use mathlib.Core.List.{List, ◌∷◌}
use lib.ListN.{take, drop}
use borrow.Author.Tests.{eq-eqb}
use Rattle.base.proofs.Lists.{drop_take}
use Rattle.format.specs.Judged.{good}
use Rattle.format.specs.Lent.{unmarked}
use Rattle.format.specs.Opening.{starts_with}
use Rattle.format.specs.Count.{data_length}
use Rattle.format.specs.Block.{data_offset, empty_closing, empty_size, block_end}
use Rattle.format.specs.Blocks.{blocks_at}
use Rattle.format.specs.Accept.{Placed, placed_rest, placed_start, Accepted, accept, end_of, last_of}
use Rattle.format.specs.GapRule.{GapRule}
use Rattle.format.specs.Written.{Pair}
use Rattle.format.specs.Add.{add}
use Rattle.format.proofs.Add.AddPair.{add_pair}

-- The place at which the data block of a placed sector opens.
abbrev pub block_opens : Placed → ℕ
block_opens x = placed_start x + data_offset (placed_rest x)

-- Its data block has ten bytes: DL = 0, and FF FF CC stands in its span behind the place of the 00.
abbrev pub HasTen : Placed → Type 0
HasTen x = (data_length (placed_rest x) ≡ 0) × (starts_with empty_closing (drop 7 (drop (data_offset (placed_rest x)) (placed_rest x))) ≡ true)

-- Then it ends ten bytes behind the place at which it opens.
pub ten_end : (x : Placed) → HasTen x → end_of x ≡ block_opens x + 10
unfolding end_of blocks_at block_end empty_size
ten_end x v = rw (eq-eqb (data_length (placed_rest x)) 0 v.0, v.1) (omega arith)

-- Ten bytes of two lists agree where all up to their end do.
ten_same : (xs ys : List ℕ) (n e : ℕ) → e ≡ n + 10 → take e xs ≡ take e ys → take 10 (drop n xs) ≡ take 10 (drop n ys)
ten_same xs ys n e q same =
    let k : e - n ≡ 10 = omega arith in
    ap (λ (j : ℕ). take j (drop n xs)) (sym k) ∙ sym (drop_take n e xs) ∙ ap (drop n) same ∙ drop_take n e ys ∙ ap (λ (j : ℕ). take j (drop n ys)) k

-- What Add writes has the ten bytes of the old last block where they stood, and their marks.
pub ten_copied : (rule : GapRule) (t m : List ℕ) (l k b7 s : ℕ) (key body : List ℕ)
    → unmarked t ≡ true → unmarked key ≡ true → unmarked body ≡ true → s < 256
    → (a : Accepted) → accept t m ≡ good a → (x : Placed) (xs : List Placed) → a.sectors ≡ x ∷ xs → HasTen (last_of x xs)
    → (q : Pair) → add rule t m l k b7 s key body ≡ good q
    → (take 10 (drop (block_opens (last_of x xs)) q.track) ≡ take 10 (drop (block_opens (last_of x xs)) t))
    × (take 10 (drop (block_opens (last_of x xs)) q.marks) ≡ take 10 (drop (block_opens (last_of x xs)) m))
ten_copied rule t m l k b7 s key body ut uk ub n a acc x xs f v q e =
    let z = add_pair rule t m l k b7 s key body ut uk ub n a acc q e in
    let y : Placed = last_of x xs in (
      ten_same q.track t (block_opens y) (end_of y) (ten_end y v) (rw f at z.6),
      ten_same q.marks m (block_opens y) (end_of y) (ten_end y v) (rw f at z.7),
    )
