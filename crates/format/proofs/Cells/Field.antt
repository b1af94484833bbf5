-- A written block: its information reads back, its check and closing byte agree, and its size is the block's.
use mathlib.Core.Path.{◌≡◌, refl, sym, ap, ◌∙◌}
use Prim.Native.Nat.{ℕ, ◌+◌, ◌/◌, ◌%◌, ◌<◌}
use mathlib.Core.Bool.{true, ◌&&◌}
use mathlib.Core.List.{List, [], ◌∷◌, ◌++◌, append_assoc}
use lib.ListN.{length, take, drop, length-append}
use lib.Seq.{take_at, drop_at, drop-drop}
use lib.Dec.{eqb, eqb-suc-zero}
use native.Mathlib.Omega.{arith}
use borrow.Author.Tests.{lt-ltb}
use Rattle.base.specs.Pick.{pick}
use Rattle.crc.specs.Check.{check_of, check_bytes}
use Rattle.crc.proofs.Check.{check_lt}
use Rattle.format.specs.Lent.{unmarked}
use Rattle.format.specs.Opening.{starts_with, plain_opening, closing, closed_after, check_follows, closing_follows}
use Rattle.format.specs.Fault.{sound}
use Rattle.format.specs.Block.{key_size, test_block, test_empty, block_info}
use Rattle.format.specs.Written.{data_size, inner_gap, written_block, written_key, written_data}
use Rattle.base.proofs.Tests.{and_both, and_make}
use Rattle.format.proofs.Base.Judged.{demand_sound}
use Rattle.format.proofs.Cells.Opening.{starts_with_self, starts_append, unmarked_append}

-- A field is closed by three bytes.
pub length_closing : (xs : List ℕ) → length (closing xs) ≡ 3
unfolding closing check_bytes
length_closing xs = refl

-- They are unmarked.
pub unmarked_closing : (xs : List ℕ) → unmarked (closing xs) ≡ true
unfolding closing check_bytes unmarked
unmarked_closing xs =
    let h : check_of xs < 65536 = check_lt xs in
    rw (lt-ltb (check_of xs / 256) 256 (omega arith), lt-ltb (check_of xs % 256) 256 (omega arith))

-- Information is closed by its closing bytes.
pub closed_field : (xs r : List ℕ) → closed_after (length xs) (xs ++ (closing xs ++ r)) ≡ true
unfolding closed_after
closed_field xs r =
    rw (take_at xs (closing xs ++ r) (length xs) refl, drop_at xs (closing xs ++ r) (length xs) refl) (starts_with_self (closing xs) r)

-- A field is closed where its check follows it, and the closing byte that.
pub closed_parts : (n : ℕ) (c : List ℕ) → closed_after n c ≡ (check_follows n c && closing_follows n c)
unfolding closed_after closing check_follows closing_follows check_bytes
closed_parts n c =
    starts_append (check_bytes (take n c)) (0xCC ∷ []) (drop n c)
    ∙ ap (λ (r : List ℕ). starts_with (check_bytes (take n c)) (drop n c) && starts_with (0xCC ∷ []) r) (drop-drop 2 n c)

-- A sound block opens and is closed.
pub block_parts : (n : ℕ) (c : List ℕ) → test_block n c ≡ sound → (starts_with plain_opening c ≡ true) × (closed_after n (drop 6 c) ≡ true)
unfolding test_block
block_parts n c e =
    let o = demand_sound (starts_with plain_opening c) _ _ e in
    let k = demand_sound (check_follows n (drop 6 c)) _ _ o.1 in
    let l = demand_sound (closing_follows n (drop 6 c)) _ _ k.1 in
    (o.0, closed_parts n (drop 6 c) ∙ and_make k.0 l.0)

-- A block that opens and is closed is sound.
pub block_made : (n : ℕ) (c : List ℕ) → starts_with plain_opening c ≡ true → closed_after n (drop 6 c) ≡ true → test_block n c ≡ sound
unfolding test_block
block_made n c o k =
    let b = and_both (check_follows n (drop 6 c)) (closing_follows n (drop 6 c)) (sym (closed_parts n (drop 6 c)) ∙ k) in
    rw (o, b.0, b.1)

-- A written block is sound, whatever follows it.
pub block_right : (xs r : List ℕ) → test_block (length xs) (written_block xs ++ r) ≡ sound
unfolding written_block
block_right xs r = block_made (length xs) (written_block xs ++ r) refl (rw (append_assoc xs (closing xs) r) (closed_field xs r))

-- The information of a written block reads back.
pub block_info_lem : (xs r : List ℕ) → block_info (length xs) (written_block xs ++ r) ≡ xs
unfolding block_info written_block
block_info_lem xs r = rw (append_assoc xs (closing xs) r) (take_at xs (closing xs ++ r) (length xs) refl)

-- A block takes nine bytes more than its information.
pub length_block : (xs : List ℕ) → length (written_block xs) ≡ length xs + 9
unfolding written_block
length_block xs = simp (length-append, length_closing) (omega arith)

-- A block of unmarked information is unmarked.
pub unmarked_block : (xs : List ℕ) → unmarked xs ≡ true → unmarked (written_block xs) ≡ true
unfolding written_block unmarked
unmarked_block xs e = unmarked_append xs (closing xs) e (unmarked_closing xs)

-- A written key is sound, or there is none; a gap and r follow it.
pub key_right_written : (k r : List ℕ) → pick (eqb (length k) 0) sound (test_block (length k) (drop 11 (written_key k ++ (inner_gap ++ r)))) ≡ sound
unfolding written_key
key_right_written [] r = refl
key_right_written (x ∷ xs) r = rw (eqb-suc-zero (length xs)) (block_right (x ∷ xs) (inner_gap ++ r))

-- Its information reads back.
pub key_info_written : (k r : List ℕ) → block_info (length k) (drop 11 (written_key k ++ (inner_gap ++ r))) ≡ k
unfolding written_key block_info
key_info_written [] r = refl
key_info_written (x ∷ xs) r = block_info_lem (x ∷ xs) (inner_gap ++ r)

-- It takes what a key of its length takes.
pub length_key : (k : List ℕ) → length (written_key k) ≡ key_size (length k)
unfolding written_key key_size
length_key [] = refl
length_key (x ∷ xs) = rw (eqb-suc-zero (length xs)) (omega (arith, length_block (x ∷ xs)))

-- It is unmarked where its information is.
pub unmarked_key : (k : List ℕ) → unmarked k ≡ true → unmarked (written_key k) ≡ true
unfolding written_key unmarked
unmarked_key [] e = refl
unmarked_key (x ∷ xs) e = unmarked_block (x ∷ xs) e

-- A written data block is sound; r follows it.
pub data_right_written : (d r : List ℕ) → pick (eqb (length d) 0) (test_empty (written_data d ++ r)) (test_block (length d) (written_data d ++ r)) ≡ sound
unfolding written_data test_empty
data_right_written [] r = refl
data_right_written (x ∷ xs) r = rw (eqb-suc-zero (length xs)) (block_right (x ∷ xs) r)

-- Its information reads back too.
pub data_info_written : (d r : List ℕ) → block_info (length d) (written_data d ++ r) ≡ d
unfolding written_data block_info
data_info_written [] r = refl
data_info_written (x ∷ xs) r = block_info_lem (x ∷ xs) r

-- It takes what a data block of its length takes.
pub length_data : (d : List ℕ) → length (written_data d) ≡ data_size (length d)
unfolding written_data data_size
length_data [] = refl
length_data (x ∷ xs) = rw (eqb-suc-zero (length xs)) (length_block (x ∷ xs))

-- It is unmarked where its data is.
pub unmarked_data : (d : List ℕ) → unmarked d ≡ true → unmarked (written_data d) ≡ true
unfolding written_data unmarked
unmarked_data [] e = refl
unmarked_data (x ∷ xs) e = unmarked_block (x ∷ xs) e
