-- What is looked at before the end of xs does not see what follows xs.
use mathlib.Core.Path.{◌≡◌}
use Prim.Native.Nat.{ℕ, ◌+◌, ◌≤◌}
use native.Mathlib.Omega.{arith}
use mathlib.Core.List.{List, [], ◌∷◌, ◌++◌}
use lib.ListN.{length, take, drop, length-drop}
use lib.Seq.{take-append-le, drop-append-le, drop-drop}
use Rattle.crc.specs.Check.{check_bytes}
use Rattle.format.specs.Opening.{starts_with, plain_opening, closing, closed_after, check_follows, closing_follows}
use Rattle.format.specs.Block.{test_block, test_empty, block_info}
use Rattle.format.proofs.Cells.Opening.{starts_with_append}
use Rattle.format.proofs.Cells.Field.{length_closing}

module _ (xs ys zs : List ℕ) where
  -- Whether the list o stands at place j.
  pub starts_local : (o : List ℕ) (j : ℕ) → j + length o ≤ length xs → starts_with o (drop j (xs ++ zs)) ≡ starts_with o (drop j (xs ++ ys))
  starts_local o j h =
      let l : length o ≤ length (drop j xs) = omega (arith, length-drop j xs) in
      rw (drop-append-le j xs ys (omega arith), drop-append-le j xs zs (omega arith), starts_with_append o (drop j xs) ys l, starts_with_append o (drop j xs) zs l)

  -- The n cells from place j on.
  pub take_local : (n j : ℕ) → j + n ≤ length xs → take n (drop j (xs ++ zs)) ≡ take n (drop j (xs ++ ys))
  take_local n j h =
      let l : n ≤ length (drop j xs) = omega (arith, length-drop j xs) in
      rw (drop-append-le j xs ys (omega arith), drop-append-le j xs zs (omega arith), take-append-le n (drop j xs) ys l, take-append-le n (drop j xs) zs l)

  -- Whether the n bytes from place j on are closed rightly.
  pub closed_local : (n j : ℕ) → j + n + 3 ≤ length xs → closed_after n (drop j (xs ++ zs)) ≡ closed_after n (drop j (xs ++ ys))
  unfolding closed_after
  closed_local n j h =
      let c : List ℕ = closing (take n (drop j (xs ++ ys))) in
      rw (take_local n j (omega arith), drop-drop n j (xs ++ zs), drop-drop n j (xs ++ ys))
      (starts_local c (j + n) (omega (arith, length_closing (take n (drop j (xs ++ ys))))))

  -- Whether their check follows them.
  check_local : (n j : ℕ) → j + n + 2 ≤ length xs → check_follows n (drop j (xs ++ zs)) ≡ check_follows n (drop j (xs ++ ys))
  unfolding check_follows check_bytes
  check_local n j h =
      rw (take_local n j (omega arith), drop-drop n j (xs ++ zs), drop-drop n j (xs ++ ys))
      (starts_local (check_bytes (take n (drop j (xs ++ ys)))) (j + n) (omega arith))

  -- Whether the closing byte follows that.
  closing_local : (n j : ℕ) → j + n + 3 ≤ length xs → closing_follows n (drop j (xs ++ zs)) ≡ closing_follows n (drop j (xs ++ ys))
  unfolding closing_follows
  closing_local n j h =
      rw (drop-drop (n + 2) j (xs ++ zs), drop-drop (n + 2) j (xs ++ ys)) (starts_local (0xCC ∷ []) (j + (n + 2)) (omega arith))

  -- A block of n information bytes, with its opening, check and closing byte.
  pub block_local : (n j : ℕ) → j + n + 9 ≤ length xs → test_block n (drop j (xs ++ zs)) ≡ test_block n (drop j (xs ++ ys))
  unfolding test_block
  block_local n j h =
      rw (starts_local plain_opening j (omega arith), drop-drop 6 j (xs ++ zs), drop-drop 6 j (xs ++ ys), check_local n (j + 6) (omega arith), closing_local n (j + 6) (omega arith))

  -- A data block where DL = 0.
  pub empty_local : (j : ℕ) → j + 7 ≤ length xs → test_empty (drop j (xs ++ zs)) ≡ test_empty (drop j (xs ++ ys))
  unfolding test_empty
  empty_local j h =
      rw (starts_local plain_opening j (omega arith), drop-drop 6 j (xs ++ zs), drop-drop 6 j (xs ++ ys), starts_local (0x00 ∷ []) (j + 6) (omega arith))

  -- Its information.
  pub info_local : (n j : ℕ) → j + n + 6 ≤ length xs → block_info n (drop j (xs ++ zs)) ≡ block_info n (drop j (xs ++ ys))
  unfolding block_info
  info_local n j h = rw (drop-drop 6 j (xs ++ zs), drop-drop 6 j (xs ++ ys), take_local n (j + 6) (omega arith))
