-- A burst in the key or the data block of a sector: what is read from the bytes behind the count's opening, which are r before and z after it.
use mathlib.Core.Path.{◌≡◌, refl, sym, ap, ap₂, ◌∙◌}
use Prim.Native.Nat.{ℕ, ◌+◌, ◌-◌, ◌≤◌, ◌<◌}
use native.Mathlib.Omega.{arith}
use mathlib.Core.Bool.{Bool, true, false}
use mathlib.Core.List.{List, ◌++◌}
use lib.ListN.{length, take, drop, get_or, get_or-append, length-append}
use lib.Seq.{take_at, drop_at, drop-append-add, drop-drop}
use lib.Dec.{eqb}
use borrow.Author.Tests.{ne_eqb, eqb-true}
use Rattle.base.proofs.Tests.{cases}
use Rattle.crc.specs.Check.{coefficients}
use Rattle.crc.specs.Burst.{Burst}
use Rattle.format.specs.Opening.{starts_with, plain_opening, check_follows}
use Rattle.format.specs.Fault.{sound, faulty, check_wrong}
use Rattle.format.specs.Address.{address_in}
use Rattle.format.specs.Home.{Home}
use Rattle.format.specs.Count.{Settled, count_number, key_length, data_length, count_closed, count_fields_right}
use Rattle.format.specs.Block.{data_offset, empty_size, block_end, blocks_fit, test_block, test_key}
use Rattle.format.specs.Blocks.{Wanted, the_key, the_data, offset_of, length_of, test_of}
use Rattle.format.proofs.Base.Judged.{demand_sound}
use Rattle.format.proofs.Cells.Local.{starts_local, closed_local, block_local}
use Rattle.format.proofs.Sector.BlocksJudged.{test_block_lem}
use Rattle.format.proofs.Sector.BlockEnd.{key_in_offset, key_block_in_offset}
use Rattle.format.proofs.Bursts.Field.{burst_unchecked}

-- The key or the data block w in r: before the information stand xs, then information and check ys, or zs after the burst, and then what follows.
module _ (w : Wanted) (xs ys zs back : List ℕ) (off : length xs ≡ offset_of w (xs ++ (ys ++ back)) + 6)
    (size : length ys ≡ length_of w (xs ++ (ys ++ back)) + 2) (same : length zs ≡ length ys) where
  -- What follows the count's opening before and after.
  abbrev r : List ℕ
  r = xs ++ (ys ++ back)

  abbrev z : List ℕ
  z = xs ++ (zs ++ back)

  -- The information starts behind the count.
  info_least : 29 ≤ length xs
  info_least = go w off
    where
      go : (v : Wanted) → length xs ≡ offset_of v r + 6 → 29 ≤ length xs
      go the_key e = omega arith
      go the_data e = omega (arith, key_in_offset r)

  -- So the bytes of the count are the same,
  byte_kept : (j : ℕ) → j < 29 → get_or z j 0 ≡ get_or r j 0
  byte_kept j h = get_or-append xs (zs ++ back) 0 j (omega (arith, info_least)) ∙ sym (get_or-append xs (ys ++ back) 0 j (omega (arith, info_least)))

  -- S,
  pub number_kept : count_number z ≡ count_number r
  number_kept = byte_kept 5 (omega arith)

  -- KL,
  key_length_kept : key_length z ≡ key_length r
  key_length_kept = byte_kept 6 (omega arith)

  -- DL,
  data_length_kept : data_length z ≡ data_length r
  data_length_kept = rw (byte_kept 7 (omega arith), byte_kept 8 (omega arith))

  -- check and closing byte,
  pub closed_kept : count_closed z ≡ count_closed r
  unfolding count_closed
  closed_kept = closed_local xs (ys ++ back) (zs ++ back) 9 0 (omega (arith, info_least))

  -- flag, C and H.
  pub fields_kept : (h : Home) (i : ℕ) (x : Settled) → count_fields_right h i x z ≡ count_fields_right h i x r
  unfolding count_fields_right address_in
  fields_kept h i x = rw (byte_kept 0 (omega arith), byte_kept 1 (omega arith), byte_kept 2 (omega arith), byte_kept 3 (omega arith), byte_kept 4 (omega arith))

  -- There are as many bytes.
  length_kept : length z ≡ length r
  length_kept = omega (arith, length-append xs (zs ++ back), length-append zs back, length-append xs (ys ++ back), length-append ys back)

  -- The data block opens where it did.
  offset_kept : data_offset z ≡ data_offset r
  unfolding data_offset
  offset_kept = rw key_length_kept

  -- What stands behind information and check is the same.
  behind_kept : (j : ℕ) → length xs + length ys ≤ j → drop j z ≡ drop j r
  behind_kept j l =
      let k : ℕ = j - (length xs + length ys) in
      let a : (vs : List ℕ) → length vs ≡ length ys → drop j (xs ++ (vs ++ back)) ≡ drop k back = λ vs e.
      let at : j ≡ length xs + (length vs + k) = omega arith in
      ap (λ (n : ℕ). drop n (xs ++ (vs ++ back))) at ∙ drop-append-add xs (vs ++ back) (length vs + k) ∙ drop-append-add vs back k in
      a zs same ∙ sym (a ys refl)

  -- The blocks end where they did, where this one has information.
  end_kept : (length_of w r ≡ 0 → ⊥) → block_end z ≡ block_end r
  unfolding block_end
  end_kept n =
      rw (offset_kept, data_length_kept)
      (cases (eqb (data_length r) 0)
      (λ e. rw e (ap (λ (c : List ℕ). data_offset r + empty_size c) (go w off size n e)))
      (λ e. rw e))
    where
      go : (v : Wanted) → length xs ≡ offset_of v r + 6 → length ys ≡ length_of v r + 2 → (length_of v r ≡ 0 → ⊥) → eqb (data_length r) 0 ≡ true → drop (data_offset r) z ≡ drop (data_offset r) r
      go the_key a b k e = behind_kept (data_offset r) (omega (arith, key_block_in_offset r (ne_eqb (key_length r) 0 k)))
      go the_data a b k e = absurd (k (eqb-true (data_length r) 0 e))

  -- So they fit as before.
  pub blocks_kept : (last : Bool) → (length_of w r ≡ 0 → ⊥) → blocks_fit last z ≡ blocks_fit last r
  unfolding blocks_fit
  blocks_kept last n = rw (end_kept n, length_kept)

  -- The block opens where it did, with a length as before.
  pub place_kept : (offset_of w z ≡ offset_of w r) × (length_of w z ≡ length_of w r)
  place_kept = go w
    where
      go : (v : Wanted) → (offset_of v z ≡ offset_of v r) × (length_of v z ≡ length_of v r)
      go the_key = (refl, key_length_kept)
      go the_data = (offset_kept, data_length_kept)

  -- The key before a data block is as it was.
  pub key_kept : w ≡ the_data → test_key z ≡ test_key r
  unfolding test_key
  key_kept d =
      let o : length xs ≡ data_offset r + 6 = off ∙ ap (λ (v : Wanted). offset_of v r + 6) d in
      rw key_length_kept
      (cases (eqb (key_length r) 0)
      (λ e. rw e)
      (λ e. rw (e, block_local xs (ys ++ back) (zs ++ back) (key_length r) 23 (omega (arith, key_block_in_offset r e)))))

  -- After a burst in its information or check a block that was sound has a wrong check.
  pub burst_tested : (length_of w r ≡ 0 → ⊥) → test_of w r ≡ sound → Burst 16 (coefficients ys) (coefficients zs) → test_of w z ≡ faulty check_wrong
  unfolding test_block
  burst_tested n e b =
      let o : ℕ = offset_of w r in
      let k : ℕ = length_of w r in
      let p = place_kept in
      let t : test_block k (drop o r) ≡ sound = sym (test_block_lem w r (ne_eqb k 0 n)) ∙ e in
      let opened = demand_sound (starts_with plain_opening (drop o r)) _ _ t in
      let check = demand_sound (check_follows k (drop 6 (drop o r))) _ _ opened.1 in
      let info : (vs : List ℕ) → drop 6 (drop o (xs ++ (vs ++ back))) ≡ vs ++ back = λ vs. drop-drop 6 o (xs ++ (vs ++ back)) ∙ drop_at xs (vs ++ back) (o + 6) off in
      let moved : Burst 16 (coefficients (take (k + 2) (ys ++ back))) (coefficients (take (k + 2) (zs ++ back))) =
      rw (take_at ys back (k + 2) size, take_at zs back (k + 2) (same ∙ size)) b in
      let wrong : check_follows k (zs ++ back) ≡ false = burst_unchecked k (ys ++ back) (zs ++ back) (ap (check_follows k) (sym (info ys)) ∙ check.0) moved in
      let still : starts_with plain_opening (drop o z) ≡ true = starts_local xs (ys ++ back) (zs ++ back) plain_opening o (omega arith) ∙ opened.0 in
      test_block_lem w z (ne_eqb (length_of w z) 0 (λ q. n (sym p.1 ∙ q)))
      ∙ ap₂ (λ (i j : ℕ). test_block j (drop i z)) p.0 p.1
      ∙ rw (still, info zs, wrong)
