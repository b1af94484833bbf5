-- The end of the data block that is read: its bounds, which bytes that follow are its own, and that a written block reads back with it.
use mathlib.Core.Path.{◌≡◌, refl, sym, ap, ◌∙◌}
use Prim.Native.Nat.{ℕ, zero, suc, ◌+◌, ◌≤◌, ◌<◌}
use native.Mathlib.Omega.{arith}
use mathlib.Core.Bool.{Bool, true, false, ◌&&◌}
use mathlib.Core.List.{List, [], ◌∷◌, ◌++◌}
use lib.ListN.{length, drop, replicate, get_or, get_or-append}
use lib.Seq.{drop_at, drop-drop}
use lib.Dec.{eqb, eqb-suc-zero}
use borrow.Author.Tests.{leb-true, eqb-true, eq-eqb, ne_eqb}
use Rattle.base.specs.Pick.{pick}
use Rattle.format.specs.Opening.{starts_with}
use Rattle.format.specs.Count.{key_length, data_length}
use Rattle.format.specs.Block.{key_offset, key_size, data_offset, empty_closing, empty_size, block_end, least_gap, blocks_fit}
use Rattle.format.specs.Gap.{taken_from}
use Rattle.format.specs.Written.{written_data, data_size}
use Rattle.base.proofs.Tests.{cases, and_right}
use Rattle.format.proofs.Cells.Local.{starts_local}
use Rattle.format.proofs.Sector.Sizes.{key_size_least, key_size_most}

-- A data block where DL = 0 takes at least seven bytes,
pub empty_least : (c : List ℕ) → 7 ≤ empty_size c
unfolding empty_size
empty_least c = cases (starts_with empty_closing (drop 7 c)) (λ e. rw e (omega arith)) (λ e. rw e (omega arith))

-- and at most ten.
pub empty_most : (c : List ℕ) → empty_size c ≤ 10
unfolding empty_size
empty_most c = cases (starts_with empty_closing (drop 7 c)) (λ e. rw e (omega arith)) (λ e. rw e (omega arith))

-- A gap of FF does not start with FF FF CC.
pub filled_open : (m : ℕ) → starts_with empty_closing (replicate m 0xFF) ≡ false
filled_open zero = refl
filled_open (suc zero) = refl
filled_open (suc (suc zero)) = refl
filled_open (suc (suc (suc m))) = refl

-- What follows a count's opening.
module _ (r : List ℕ) where
  -- The data block opens behind the count, a gap, and what the key takes.
  pub offset_is : data_offset r ≡ key_offset + key_size (key_length r)
  unfolding data_offset
  offset_is = refl

  -- So it opens behind the bytes of the key.
  pub key_in_offset : key_offset + key_length r ≤ data_offset r
  key_in_offset = omega (arith, offset_is, key_size_least (key_length r))

  -- Behind its check, its closing byte and a gap too, where KL > 0.
  pub key_block_in_offset : eqb (key_length r) 0 ≡ false → key_offset + key_length r + 20 ≤ data_offset r
  unfolding data_offset key_size
  key_block_in_offset e = rw e (omega arith)

  -- It opens within the first 299 bytes.
  pub offset_lt : get_or r 6 0 < 256 → data_offset r < 299
  offset_lt h = omega (arith, offset_is, key_size_most (key_length r))

  -- Its opening and information lie before its end, and one byte more.
  pub data_in_end : data_offset r + data_length r + 7 ≤ block_end r
  unfolding block_end
  data_in_end =
      cases (eqb (data_length r) 0)
      (λ e. rw e (omega (arith, eqb-true (data_length r) 0 e, empty_least (drop (data_offset r) r))))
      (λ e. rw e (omega arith))

  -- So do its check and closing byte, where DL > 0.
  pub block_in_end : eqb (data_length r) 0 ≡ false → data_offset r + data_length r + 9 ≤ block_end r
  unfolding block_end
  block_in_end e = rw e (omega arith)

  -- It takes no less than a written block with as much information.
  pub written_in_end : data_offset r + data_size (data_length r) ≤ block_end r
  unfolding block_end data_size
  written_in_end = cases (eqb (data_length r) 0) (λ e. rw e (omega (arith, empty_least (drop (data_offset r) r)))) (λ e. rw e (omega arith))

  -- It ends within 65,844 bytes.
  pub end_lt : get_or r 6 0 < 256 → get_or r 7 0 < 256 → get_or r 8 0 < 256 → block_end r < 65844
  unfolding block_end
  end_lt h k l =
      cases (eqb (data_length r) 0) (λ e. rw e (omega (arith, offset_lt h, empty_most (drop (data_offset r) r)))) (λ e. rw e (omega (arith, offset_lt h)))

  -- Blocks that fit end before the least gap.
  pub end_in_span : (last : Bool) → blocks_fit last r ≡ true → block_end r + least_gap last ≤ length r
  unfolding blocks_fit
  end_in_span last e = leb-true (block_end r + least_gap last) (length r) e

  -- Where a written data block stands at its offset, and FF FF CC does not follow, it ends where that block does.
  pub end_written_lem : (d R : List ℕ) → data_length r ≡ length d → drop (data_offset r) r ≡ written_data d ++ R → starts_with empty_closing R ≡ false
      → block_end r ≡ data_offset r + data_size (length d)
  unfolding block_end data_size empty_size written_data
  end_written_lem [] R e w f = rw (e, w, f)
  end_written_lem (x ∷ xs) R e w f = rw (e, eqb-suc-zero (length xs))

-- What follows xs does not matter to the count in it:
module _ (xs zs : List ℕ) (enough : 30 ≤ length xs) where
  -- its bytes,
  byte_alone : (j : ℕ) → j < 30 → get_or (xs ++ zs) j 0 ≡ get_or xs j 0
  byte_alone j h = get_or-append xs zs 0 j (omega arith)

  -- KL,
  key_length_alone : key_length (xs ++ zs) ≡ key_length xs
  key_length_alone = byte_alone 6 (omega arith)

  -- DL,
  length_alone : data_length (xs ++ zs) ≡ data_length xs
  length_alone = rw (byte_alone 7 (omega arith), byte_alone 8 (omega arith))

  -- and where the data block opens.
  offset_alone : data_offset (xs ++ zs) ≡ data_offset xs
  unfolding data_offset
  offset_alone = rw key_length_alone

-- The blocks end within xs: whether ys or zs follows xs does not matter.
module _ (xs ys zs : List ℕ) (ends : block_end (xs ++ ys) ≤ length xs) where
  -- The least that lies before the end.
  pub count_in_lem : 30 ≤ length xs
  count_in_lem = omega (arith, data_in_end (xs ++ ys), key_in_offset (xs ++ ys))

  -- The bytes of the count.
  pub byte_same : (j : ℕ) → j < 30 → get_or (xs ++ zs) j 0 ≡ get_or (xs ++ ys) j 0
  byte_same j h = byte_alone xs zs count_in_lem j h ∙ sym (byte_alone xs ys count_in_lem j h)

  -- KL.
  pub key_length_same : key_length (xs ++ zs) ≡ key_length (xs ++ ys)
  key_length_same = key_length_alone xs zs count_in_lem ∙ sym (key_length_alone xs ys count_in_lem)

  -- DL.
  pub data_length_same : data_length (xs ++ zs) ≡ data_length (xs ++ ys)
  data_length_same = length_alone xs zs count_in_lem ∙ sym (length_alone xs ys count_in_lem)

  -- Where the data block opens.
  pub offset_same : data_offset (xs ++ zs) ≡ data_offset (xs ++ ys)
  offset_same = offset_alone xs zs count_in_lem ∙ sym (offset_alone xs ys count_in_lem)

-- A data block where DL = 0, which opens at o and ends with xs, takes three bytes from what follows if it has seven in xs and FF FF CC follows.
empty_taken : (xs ys zs : List ℕ) (o : ℕ) → o + empty_size (drop o (xs ++ ys)) ≡ length xs
    → o + empty_size (drop o (xs ++ zs)) ≡ length xs + pick (eqb (length xs) (o + 7) && starts_with empty_closing zs) 3 0
unfolding empty_size
empty_taken xs ys zs o e =
    cases (starts_with empty_closing (drop 7 (drop o (xs ++ ys))))
    (λ t.
    let l : o + 10 ≡ length xs = rw t at e in
    let here : starts_with empty_closing (drop 7 (drop o (xs ++ zs))) ≡ true =
    ap (starts_with empty_closing) (drop-drop 7 o (xs ++ zs)) ∙ starts_local xs ys zs empty_closing (o + 7) (omega arith)
    ∙ sym (ap (starts_with empty_closing) (drop-drop 7 o (xs ++ ys))) ∙ t in
    rw (here, ne_eqb (length xs) (o + 7) (λ q. omega arith)) (omega arith))
    (λ f.
    let l : o + 7 ≡ length xs = rw f at e in
    let behind : drop 7 (drop o (xs ++ zs)) ≡ zs = drop-drop 7 o (xs ++ zs) ∙ drop_at xs zs (o + 7) (sym l) in
    rw (behind, eq-eqb (length xs) (o + 7) (sym l)) (cases (starts_with empty_closing zs) (λ t. rw t (omega arith)) (λ t. rw t (omega arith))))

-- Where xs ends with the block, whatever follows it there, the block ends with xs whatever follows, but for the bytes that it takes from that.
pub end_taken : (xs ys zs : List ℕ) → block_end (xs ++ ys) ≡ length xs → block_end (xs ++ zs) ≡ length xs + taken_from xs zs
unfolding block_end taken_from
end_taken xs ys zs ends =
    let l : 30 ≤ length xs = count_in_lem xs ys zs (omega arith) in
    let before = rw (length_alone xs ys l, offset_alone xs ys l) at ends in
    rw (length_alone xs zs l, offset_alone xs zs l)
    (cases (eqb (data_length xs) 0)
    (λ e. rw e (empty_taken xs ys zs (data_offset xs) (rw e at before)))
    (λ e. rw e (omega (arith, rw e at before))))

-- It takes none where DL > 0,
pub taken_data : (xs zs : List ℕ) → (data_length xs ≡ 0 → ⊥) → taken_from xs zs ≡ 0
unfolding taken_from
taken_data xs zs n = rw (ne_eqb (data_length xs) 0 n)

-- none where it has ten bytes,
pub taken_ten : (xs zs : List ℕ) → length xs ≡ data_offset xs + 10 → taken_from xs zs ≡ 0
unfolding taken_from
taken_ten xs zs e =
    let n : eqb (length xs) (data_offset xs + 7) ≡ false = ne_eqb (length xs) (data_offset xs + 7) (λ q. omega arith) in
    rw (n, and_right (eqb (data_length xs) 0) {b = false} refl)

-- none where another gap than one with FF FF CC in front follows,
pub taken_other : (xs zs : List ℕ) → starts_with empty_closing zs ≡ false → taken_from xs zs ≡ 0
unfolding taken_from
taken_other xs zs f = rw (and_right (eqb (data_length xs) 0) (and_right (eqb (length xs) (data_offset xs + 7)) f))

-- and else three.
pub taken_three : (xs zs : List ℕ) → data_length xs ≡ 0 → length xs ≡ data_offset xs + 7 → starts_with empty_closing zs ≡ true → taken_from xs zs ≡ 3
unfolding taken_from
taken_three xs zs d e t = rw (eq-eqb (data_length xs) 0 d, eq-eqb (length xs) (data_offset xs + 7) e, t)
