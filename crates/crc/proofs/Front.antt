-- The bytes left in front as one word: moved up behind zeros, they have their own remainder.
use mathlib.Core.Path.{◌≡◌, refl, sym, ap, ap₂, ◌∙◌}
use Prim.Native.Nat.{ℕ, zero, suc, ◌+◌, ◌-◌, ◌*◌, ◌%◌, ◌^◌, ◌≤◌, ◌<◌}
use native.Mathlib.Omega.{arith}
use native.Mathlib.Nat.{zero-add, pow-suc}
use mathlib.Core.List.{List, [], ◌∷◌, ◌++◌}
use lib.Dec.{lit<}
use lib.ListN.{length, get_or, take, drop, replicate, take-append-drop, length-append, length-replicate}
use lib.Seq.{take-append-le, length-take-le, get_or-take}
use Rattle.crc.specs.Check.{coefficients, remainder}
use Rattle.crc.specs.Halves.{AllBytes}
use Rattle.crc.specs.Word.{word, word_at, lanes}
use Rattle.crc.proofs.Bytes.{all_bytes}
use Rattle.crc.proofs.Turn.{bring_byte}
use Rattle.crc.proofs.Cut.{drop_eight}
use Rattle.crc.proofs.Lanes.{lanes_word, word_of_lem}

-- Bytes in two parts side by side: the second part stands above the first.
word_append : (bs cs : List ℕ) → word (bs ++ cs) ≡ word bs + word cs * 256 ^ length bs
unfolding word
word_append [] cs = omega arith
word_append (b ∷ bs) cs =
    let p : 256 ^ suc (length bs) ≡ 256 ^ length bs * 256 = pow-suc 256 (length bs) in
    ap (λ (w : ℕ). b + w * 256) (word_append bs cs) ∙ rw p (regroup b (word bs) (word cs) (256 ^ length bs))
  where
    regroup : (a u v q : ℕ) → a + (u + v * q) * 256 ≡ a + u * 256 + v * (q * 256)
    regroup a u v q = omega arith

-- Zeros make 0.
word_zeros_lem : (k : ℕ) → word (replicate k 0) ≡ 0
unfolding word
word_zeros_lem zero = refl
word_zeros_lem (suc k) = omega (arith, word_zeros_lem k)

-- Bytes make a number of as many bytes.
word_lt : (bs : List ℕ) → AllBytes bs → word bs < 256 ^ length bs
unfolding word AllBytes
word_lt [] h = lit< tt
word_lt (b ∷ bs) h = rw (pow-suc 256 (length bs)) (omega (arith, word_lt bs h.1))

-- Zeros in front of bytes change no remainder.
zeros_remainder : (k : ℕ) (bs : List ℕ) → remainder 0 (coefficients (replicate k 0 ++ bs)) ≡ remainder 0 (coefficients bs)
unfolding coefficients
zeros_remainder zero bs = refl
zeros_remainder (suc k) bs = bring_byte 0 0 0 (coefficients (replicate k 0 ++ bs)) (lit< tt) (lit< tt) (lit< tt) ∙ zeros_remainder k bs

-- A word moved up by one byte, and then by all but n of the others, keeps its n lowest bytes, as its highest.
moved : (n x a b : ℕ) → n < 8 → x ≡ a + b * 256 ^ n → a < 256 ^ n → x * 2 ^ 8 % 2 ^ 64 * 2 ^ (56 - 8 * n) % 2 ^ 64 ≡ a * 256 ^ (8 - n)
moved zero x a b h e l = omega arith
moved (suc zero) x a b h e l = omega arith
moved (suc (suc zero)) x a b h e l = omega arith
moved (suc (suc (suc zero))) x a b h e l = omega arith
moved (suc (suc (suc (suc zero)))) x a b h e l = omega arith
moved (suc (suc (suc (suc (suc zero))))) x a b h e l = omega arith
moved (suc (suc (suc (suc (suc (suc zero)))))) x a b h e l = omega arith
moved (suc (suc (suc (suc (suc (suc (suc zero))))))) x a b h e l = omega arith
moved (suc (suc (suc (suc (suc (suc (suc (suc n)))))))) x a b h e l = absurd (omega arith)

-- Zeros before bytes are bytes.
zeros_bytes : (k : ℕ) (bs : List ℕ) → AllBytes bs → AllBytes (replicate k 0 ++ bs)
unfolding AllBytes
zeros_bytes zero bs h = h
zeros_bytes (suc k) bs h = (lit< tt, zeros_bytes k bs h)

-- The bytes s, of which the first n are left in front.
module _ (s : List ℕ) (n : ℕ) (byte : (i : ℕ) → get_or s i 0 < 256) (hn : n < 8) (hs : 8 ≤ length s) where
  -- They are n,
  count : length (take n s) ≡ n
  count = length-take-le n s (omega arith)

  -- and each is a byte.
  all : AllBytes (take n s)
  all = all_bytes (take n s) (λ i l. rw (get_or-take n s i 0 (omega (arith, count))) (byte i))

  -- The first eight bytes moved up are the first n behind zeros.
  pub front_moved : (x : ℕ) → x ≡ word_at s 0 → x * 2 ^ 8 % 2 ^ 64 * 2 ^ (56 - 8 * n) % 2 ^ 64 ≡ word (replicate (8 - n) 0 ++ take n s)
  front_moved x so =
      let bs : List ℕ = get_or s 0 0 ∷ get_or s 1 0 ∷ get_or s 2 0 ∷ get_or s 3 0 ∷ get_or s 4 0 ∷ get_or s 5 0 ∷ get_or s 6 0 ∷ get_or s 7 0 ∷ [] in
      let first : take n s ≡ take n bs = ap (take n) (drop_eight s 8 0 refl hs) ∙ take-append-le n bs (drop 8 s) (omega arith) in
      let whole : x ≡ word (take n bs ++ drop n bs) =
      so
      ∙ word_of_lem (get_or s 0 0) (get_or s 1 0) (get_or s 2 0) (get_or s 3 0) (get_or s 4 0) (get_or s 5 0) (get_or s 6 0) (get_or s 7 0)
      ∙ ap word (sym (take-append-drop n bs)) in
      let parts : x ≡ word (take n s) + word (drop n bs) * 256 ^ length (take n s) =
      whole ∙ ap (λ (r : List ℕ). word (r ++ drop n bs)) (sym first) ∙ word_append (take n s) (drop n bs) in
      let low : word (take n s) < 256 ^ length (take n s) = word_lt (take n s) all in
      let behind : word (replicate (8 - n) 0 ++ take n s) ≡ word (take n s) * 256 ^ (8 - n) =
      word_append (replicate (8 - n) 0) (take n s)
      ∙ ap₂ (λ (z k : ℕ). z + word (take n s) * 256 ^ k) (word_zeros_lem (8 - n)) (length-replicate {A = ℕ} (8 - n) 0)
      ∙ zero-add (word (take n s) * 256 ^ (8 - n)) in
      moved n x (word (take n s)) (word (drop n bs)) hn (rw count at parts) (rw count at low) ∙ sym behind

  -- The lanes of that word are the remainder of the first n.
  pub front_lanes : lanes 4 (word (replicate (8 - n) 0 ++ take n s)) ≡ remainder 0 (coefficients (take n s))
  front_lanes =
      let eight : length (replicate (8 - n) 0 ++ take n s) ≡ 4 * 2 =
      length-append (replicate (8 - n) 0) (take n s) ∙ ap₂ ◌+◌ (length-replicate {A = ℕ} (8 - n) 0) count ∙ omega arith in
      lanes_word 4 (replicate (8 - n) 0 ++ take n s) eight (zeros_bytes (8 - n) (take n s) all) ∙ zeros_remainder (8 - n) (take n s)
