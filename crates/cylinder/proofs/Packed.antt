-- Packing undoes unpacking of marks, and unpacking packing; the spare bits.
use mathlib.Core.Path.{◌≡◌, refl, sym, ap, ◌∙◌, subst}
use Prim.Native.Nat.{ℕ, zero, suc, ◌+◌, ◌*◌, ◌/◌, ◌%◌, ◌≤◌, ◌<◌}
use native.Mathlib.Nat.{add-zero}
use native.Mathlib.Omega.{arith}
use mathlib.Core.Bool.{true}
use mathlib.Core.List.{List}
use lib.ListN.{length, get_or, get_or-eq_default}
use lib.Dec.{ltb}
use borrow.Author.Tests.{ltb-true, ltb-false}
use Rattle.base.proofs.Indexed.{length_list, get_d_list, list_is}
use Rattle.base.proofs.Tests.{cases}
use Rattle.crc.specs.Halves.{AllBytes}
use Rattle.crc.proofs.Bytes.{all_bytes, byte_at}
use Rattle.format.specs.Lent.{marks_legal}
use Rattle.format.proofs.Base.Marks.{mark_at_lem, marks_at}
use Rattle.cylinder.specs.Packed.{packed_size, octet, octet_at, packed, bit_of, mark_at, unpacked, spare_clear}
use Rattle.cylinder.proofs.Decides.{decides_spares}

-- The bytes of marks are as many as those marks take.
pub length_packed : (m : List ℕ) → length (packed m) ≡ packed_size (length m)
unfolding packed
length_packed m = length_list (λ (j : ℕ). octet_at m (j * 8)) (packed_size (length m))

-- The first l marks of packed bytes are l.
pub length_unpacked : (l : ℕ) (bs : List ℕ) → length (unpacked l bs) ≡ l
unfolding unpacked
length_unpacked l bs = length_list (mark_at bs) l

-- A bit is 0 or 1.
bit_small : (x k : ℕ) → bit_of x k < 2
unfolding bit_of
bit_small x zero = omega arith
bit_small x (suc zero) = omega arith
bit_small x (suc (suc zero)) = omega arith
bit_small x (suc (suc (suc zero))) = omega arith
bit_small x (suc (suc (suc (suc zero)))) = omega arith
bit_small x (suc (suc (suc (suc (suc zero))))) = omega arith
bit_small x (suc (suc (suc (suc (suc (suc zero)))))) = omega arith
bit_small x (suc (suc (suc (suc (suc (suc (suc k))))))) = omega arith

-- Bit k of the byte of eight marks is mark k.
bit_octet : (f : ℕ → ℕ) (k : ℕ) → k < 8 → bit_of (octet (f 0) (f 1) (f 2) (f 3) (f 4) (f 5) (f 6) (f 7)) k ≡ f k % 2
unfolding bit_of octet
bit_octet f zero h = omega arith
bit_octet f (suc zero) h = omega arith
bit_octet f (suc (suc zero)) h = omega arith
bit_octet f (suc (suc (suc zero))) h = omega arith
bit_octet f (suc (suc (suc (suc zero)))) h = omega arith
bit_octet f (suc (suc (suc (suc (suc zero))))) h = omega arith
bit_octet f (suc (suc (suc (suc (suc (suc zero)))))) h = omega arith
bit_octet f (suc (suc (suc (suc (suc (suc (suc zero))))))) h = omega arith
bit_octet f (suc (suc (suc (suc (suc (suc (suc (suc k)))))))) h = absurd (omega arith)

-- Mark k of the eight from place p on is bit k of their byte.
bit_at : (m : List ℕ) (p k : ℕ) → k < 8 → bit_of (octet_at m p) k ≡ get_or m (p + k) 0 % 2
unfolding octet_at
bit_at m p k h = rw add-zero at (bit_octet (λ j. get_or m (p + j) 0) k h)

-- The mark at place i of the bytes of m is the one in m, and 0 where there is none.
mark_packed : (m : List ℕ) (i : ℕ) → i < packed_size (length m) * 8 → mark_at (packed m) i ≡ get_or m i 0 % 2
unfolding mark_at packed
mark_packed m i h =
    let f : ℕ → ℕ = λ j. octet_at m (j * 8) in
    let e : i / 8 * 8 + i % 8 ≡ i = omega arith in
    ap (λ (x : ℕ). bit_of x (i % 8)) (get_d_list f (packed_size (length m)) (i / 8) 0 (omega arith))
    ∙ bit_at m (i / 8 * 8) (i % 8) (omega arith)
    ∙ ap (λ (p : ℕ). get_or m p 0 % 2) e

-- Legal marks that are packed and unpacked are the same marks.
pub unpacked_packed : (m : List ℕ) → marks_legal m ≡ true → unpacked (length m) (packed m) ≡ m
unfolding unpacked
unpacked_packed m e =
    list_is (mark_at (packed m)) m (length m) 0 refl (λ i h. mark_packed m i (omega arith) ∙ omega (arith, mark_at_lem m e i h))

-- The byte of eight marks is a byte.
octet_small : (a b c d e f g h : ℕ) → octet a b c d e f g h < 256
unfolding octet
octet_small a b c d e f g h = omega arith

-- Packed marks are bytes.
pub packed_bytes : (m : List ℕ) → AllBytes (packed m)
unfolding packed octet_at
packed_bytes m =
    all_bytes (packed m) (λ i h.
    let g : i < packed_size (length m) = omega (arith, length_packed m) in
    subst (λ (x : ℕ). x < 256) (sym (get_d_list (λ j. octet_at m (j * 8)) (packed_size (length m)) i 0 g)) (octet_small _ _ _ _ _ _ _ _))

-- What is unpacked are legal marks.
pub unpacked_legal : (l : ℕ) (bs : List ℕ) → marks_legal (unpacked l bs) ≡ true
unfolding unpacked mark_at
unpacked_legal l bs =
    marks_at (unpacked l bs) (λ i h.
    let g : i < l = omega (arith, length_unpacked l bs) in
    omega (arith, get_d_list (mark_at bs) l i 0 g, bit_small (get_or bs (i / 8) 0) (i % 8)))

-- The spare bits of packed marks are clear.
pub spare_packed : (m : List ℕ) → spare_clear (length m) (packed m) ≡ true
spare_packed m =
    (decides_spares (length m) (packed m)).passed (λ i h k.
    mark_packed m i k ∙ omega (arith, get_or-eq_default m 0 {n = i} h))

-- The mark at place k of byte j is bit k of that byte.
pub mark_in_lem : (bs : List ℕ) (j k : ℕ) → k < 8 → mark_at bs (j * 8 + k) ≡ bit_of (get_or bs j 0) k
unfolding mark_at
mark_in_lem bs j k h =
    let d : (j * 8 + k) / 8 ≡ j = omega arith in
    let r : (j * 8 + k) % 8 ≡ k = omega arith in
    rw (d, r)

-- A number that is halved seven times, down to its top bit, is the sum of its bits with their weights.
halved : (x q r s t u v a b c d e f g h : ℕ) → x ≡ q * 2 + h → q ≡ r * 2 + g → r ≡ s * 2 + f → s ≡ t * 2 + e → t ≡ u * 2 + d → u ≡ v * 2 + c → v ≡ a * 2 + b
    → a * 128 + b * 64 + c * 32 + d * 16 + e * 8 + f * 4 + g * 2 + h ≡ x
halved x q r s t u v a b c d e f g h e0 e1 e2 e3 e4 e5 e6 = omega arith

-- A bit is its own remainder by 2.
bit_left : (x : ℕ) → x % 2 % 2 ≡ x % 2
bit_left x = omega arith

-- A byte is the byte of its eight bits.
octet_bits : (x : ℕ) → x < 256 → octet (bit_of x 0) (bit_of x 1) (bit_of x 2) (bit_of x 3) (bit_of x 4) (bit_of x 5) (bit_of x 6) (bit_of x 7) ≡ x
unfolding bit_of octet
octet_bits x h =
    simp bit_left
    (halved x (x / 2) (x / 4) (x / 8) (x / 16) (x / 32) (x / 64) (x / 128 % 2) (x / 64 % 2) (x / 32 % 2) (x / 16 % 2) (x / 8 % 2) (x / 4 % 2) (x / 2 % 2) (x % 2)
    (omega arith) (omega arith) (omega arith) (omega arith) (omega arith) (omega arith) (omega arith))

module _ (l : ℕ) (bs : List ℕ) (size : length bs ≡ packed_size l) (bytes : AllBytes bs) (clear : spare_clear l bs ≡ true) where
  -- Mark k of the eight of byte j, 0 behind the first l, is bit k of that byte.
  bit_is : (j k : ℕ) → j < length bs → k < 8 → get_or (unpacked l bs) (j * 8 + k) 0 ≡ bit_of (get_or bs j 0) k
  unfolding unpacked
  bit_is j k h n =
      cases (ltb (j * 8 + k) l)
      (λ e. get_d_list (mark_at bs) l (j * 8 + k) 0 (ltb-true _ _ e) ∙ mark_in_lem bs j k n)
      (λ e.
      let g : l ≤ j * 8 + k = ltb-false _ _ e in
      get_or-eq_default (unpacked l bs) 0 (omega (arith, length_unpacked l bs))
      ∙ sym ((decides_spares l bs).pass clear (j * 8 + k) g (omega arith))
      ∙ mark_in_lem bs j k n)

  -- The byte of these eight is byte j.
  octet_is : (j : ℕ) → j < length bs → octet_at (unpacked l bs) (j * 8) ≡ get_or bs j 0
  unfolding octet_at
  octet_is j h =
      let b : (k : ℕ) → k < 8 → get_or (unpacked l bs) (j * 8 + k) 0 ≡ bit_of (get_or bs j 0) k = λ k n. bit_is j k h n in
      let z : get_or (unpacked l bs) (j * 8) 0 ≡ bit_of (get_or bs j 0) 0 = rw add-zero at (b 0 (omega arith)) in
      rw (z, b 1 (omega arith), b 2 (omega arith), b 3 (omega arith), b 4 (omega arith), b 5 (omega arith), b 6 (omega arith), b 7 (omega arith))
      (octet_bits (get_or bs j 0) (byte_at bs bytes j h))

  -- Bytes with clear spare bits that are unpacked and packed are the same bytes.
  pub packed_unpacked : packed (unpacked l bs) ≡ bs
  unfolding packed
  packed_unpacked =
      list_is (λ j. octet_at (unpacked l bs) (j * 8)) bs (packed_size (length (unpacked l bs))) 0 (size ∙ ap packed_size (sym (length_unpacked l bs)))
      (λ j h. octet_is j (omega (arith, length_unpacked l bs)))
