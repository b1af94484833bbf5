-- Bytes that are judged by blocks: what each block is, what one look at its clocks or its marks tells, and how the search goes on behind it.
use mathlib.Core.Path.{◌≡◌, refl, sym, ap, ap₂, ◌∙◌}
use Prim.Native.Nat.{ℕ, zero, suc, ◌+◌, ◌*◌, ◌/◌, ◌<◌}
use native.Mathlib.Omega.{arith}
use mathlib.Core.Bool.{true}
use mathlib.Core.List.{List, [], ◌∷◌}
use lib.Bits.{bit_and}
use lib.Dec.{eqb}
use borrow.Author.Tests.{eqb-true, eq-eqb}
use lib.ListN.{length, get_or, take, drop}
use Rattle.std.specs.List.{list_all}
use Rattle.std.specs.Simd.{first_chunks}
use Rattle.std.proofs.lemmas.List.{take-append-drop, drop-drop, get_or-take, get_or-drop}
use Rattle.std.proofs.lemmas.Nat.{and_mask}
use Rattle.base.proofs.Lists.{part_length}
use Rattle.base.proofs.Tests.{and_both}
use Rattle.format.specs.Answer.{Answer}
use Rattle.format.specs.Judged.{good, refused, then}
use Rattle.pattern.specs.Pattern.{recordable, legal_pattern}
use Rattle.bitcells.specs.Each.{each_pattern, each_byte, judge_each}
use Rattle.bitcells.proofs.Each.{length_pattern, get_d_pattern, pattern_append, length_each, each_append}
use Rattle.bitcells.proofs.FirstFault.{judge_append}
use Rattle.pattern.proofs.Masks.{legal_clocked}

-- Block i of blocks of n elements.
pub block_at : {A : Type 0} (n k : ℕ) (xs : List A) (i : ℕ) (d : List A) → i < k → get_or (first_chunks n k xs) i d ≡ take n (drop (n * i) xs)
block_at n zero xs i d h = absurd (omega arith)
block_at n (suc k) xs zero d h = let e : 0 ≡ n * 0 = omega arith in ap (λ (a : ℕ). take n (drop a xs)) e
block_at n (suc k) xs (suc i) d h =
    let e : n + n * i ≡ n * suc i = omega arith in
    block_at n k (drop n xs) i d (omega arith) ∙ ap (take n) (drop-drop (n * i) n xs ∙ ap (λ (a : ℕ). drop a xs) e)

-- An element of the part of n elements from place a on.
pub part_at : (x : List ℕ) (a n i : ℕ) → i < n → get_or (take n (drop a x)) i 0 ≡ get_or x (a + i) 0
part_at x a n i h = get_or-take n (drop a x) i 0 h ∙ get_or-drop a x i 0

-- What f gives for the two cell bytes of a track byte, as the code reads them.
pub pair_is : {A : Type 0} (f : ℕ → ℕ → A) (x : List ℕ) (ps : List (List ℕ)) (i : ℕ) (d : A) → ps ≡ first_chunks 2 (length x / 2) x → i < length x / 2
    → f (get_or (get_or ps i []) 0 0) (get_or (get_or ps i []) 1 0) ≡ get_or (each_pattern f x) i d
pair_is f x ps i d e h =
    let b : get_or ps i [] ≡ take 2 (drop (2 * i) x) = ap (λ (z : List (List ℕ)). get_or z i []) e ∙ block_at 2 (length x / 2) x i [] h in
    let u : get_or (get_or ps i []) 0 0 ≡ get_or x (2 * i) 0 = ap (λ (z : List ℕ). get_or z 0 0) b ∙ part_at x (2 * i) 2 0 (omega arith) ∙ ap (λ (z : ℕ). get_or x z 0) (omega arith) in
    let v : get_or (get_or ps i []) 1 0 ≡ get_or x (2 * i + 1) 0 = ap (λ (z : List ℕ). get_or z 1 0) b ∙ part_at x (2 * i) 2 1 (omega arith) in
    ap₂ f u v ∙ sym (get_d_pattern f x i d (omega arith))

-- Track bytes whose cell bytes have all their clocks have legal patterns.
pub clocked_legal : (p : ℕ) (x : List ℕ) → ((i : ℕ) → i < length x → get_or x i 0 < 256) → list_all (λ b. eqb (bit_and b 0xAA) 0xAA) x ≡ true
    → judge_each p (each_pattern legal_pattern x) ≡ good tt
unfolding judge_each each_pattern
clocked_legal p [] bytes e = refl
clocked_legal p (x ∷ []) bytes e = refl
clocked_legal p (x ∷ y ∷ xs) bytes e =
    let a = and_both (eqb (bit_and x 0xAA) 0xAA) _ e in
    let b = and_both (eqb (bit_and y 0xAA) 0xAA) _ a.1 in
    let h : legal_pattern x y ≡ true = legal_clocked x y (bytes 0 (omega arith)) (bytes 1 (omega arith)) (eqb-true (bit_and x 0xAA) 0xAA a.0) ∙ b.0 in
    rw h (clocked_legal (suc p) xs (λ i l. bytes (suc (suc i)) (omega arith)) b.1)

-- Bytes whose marks are all 0 can be recorded.
pub unmarked_recordable : (p : ℕ) (t m : List ℕ) → ((i : ℕ) → i < length m → get_or m i 0 < 256) → list_all (λ b. eqb (bit_and b 0xFF) 0) m ≡ true
    → judge_each p (each_byte recordable t m) ≡ good tt
unfolding judge_each each_byte recordable
unmarked_recordable p [] m bytes e = refl
unmarked_recordable p (b ∷ t) [] bytes e = refl
unmarked_recordable p (b ∷ t) (k ∷ m) bytes e =
    let a = and_both (eqb (bit_and k 0xFF) 0) _ e in
    let l = bytes 0 (omega arith) in
    let z : k ≡ 0 = omega (arith, and_mask k 8, eqb-true (bit_and k 0xFF) 0 a.0) in
    rw (eq-eqb k 0 z) (unmarked_recordable (suc p) t m (λ i l. bytes (suc i) (omega arith)) a.1)

-- A block of thirty-two elements is the next of those that are left behind k blocks.
block_is : (x : List ℕ) (bs : List (List ℕ)) (k : ℕ) → bs ≡ first_chunks 32 (length x / 32) x → k < length x / 32 → take 32 (drop (32 * k) x) ≡ get_or bs k []
block_is x bs k e h = sym (ap (λ (z : List (List ℕ)). get_or z k []) e ∙ block_at 32 (length x / 32) x k [] h)

-- What is left behind it.
left_is : (x : List ℕ) (k : ℕ) → drop 32 (drop (32 * k) x) ≡ drop (32 * (k + 1)) x
left_is x k = drop-drop 32 (32 * k) x ∙ ap (λ (a : ℕ). drop a x) (omega arith)

module _ (x : List ℕ) (bs : List (List ℕ)) (k : ℕ) (e : bs ≡ first_chunks 32 (length x / 32) x) (h : k < length x / 32) where
  -- Block k of the cell bytes is searched for an illegal pattern, and then what follows it.
  cells_next : judge_each (16 * k) (each_pattern legal_pattern (drop (32 * k) x))
      ≡ then (judge_each (16 * k) (each_pattern legal_pattern (get_or bs k []))) (λ _. judge_each (16 * (k + 1)) (each_pattern legal_pattern (drop (32 * (k + 1)) x)))
  cells_next =
      let y : List ℕ = drop (32 * k) x in
      let b : List ℕ = take 32 y in
      let n : length b ≡ 32 = part_length (32 * k) 32 x (omega arith) in
      let f : 16 * k + length (each_pattern legal_pattern b) ≡ 16 * (k + 1) = omega (arith, n, length_pattern legal_pattern b) in
      ap (λ (z : List ℕ). judge_each (16 * k) (each_pattern legal_pattern z)) (sym (take-append-drop 32 y))
      ∙ ap (judge_each (16 * k)) (pattern_append legal_pattern 16 b (drop 32 y) n)
      ∙ judge_append (16 * k) (each_pattern legal_pattern b) (each_pattern legal_pattern (drop 32 y))
      ∙ ap₂ (λ (a : ℕ) (z : List ℕ). then (judge_each (16 * k) (each_pattern legal_pattern b)) (λ _. judge_each a (each_pattern legal_pattern z))) f (left_is x k)
      ∙ ap (λ (z : List ℕ). then (judge_each (16 * k) (each_pattern legal_pattern z)) (λ _. judge_each (16 * (k + 1)) (each_pattern legal_pattern (drop (32 * (k + 1)) x)))) (block_is x bs k e h)

  -- It goes on behind the block where that has only legal ones,
  pub cells_pass : judge_each (16 * k) (each_pattern legal_pattern (get_or bs k [])) ≡ good tt
      → judge_each (16 * k) (each_pattern legal_pattern (drop (32 * k) x)) ≡ judge_each (16 * (k + 1)) (each_pattern legal_pattern (drop (32 * (k + 1)) x))
  cells_pass j = cells_next ∙ rw j

  -- and ends in it where it has another.
  pub cells_stop : (a : Answer) → judge_each (16 * k) (each_pattern legal_pattern (get_or bs k [])) ≡ refused a → judge_each (16 * k) (each_pattern legal_pattern (drop (32 * k) x)) ≡ refused a
  cells_stop a j = cells_next ∙ rw j

  -- The cell bytes of the block are bytes.
  pub block_bytes : ((i : ℕ) → get_or x i 0 < 256) → (i : ℕ) → i < length (get_or bs k []) → get_or (get_or bs k []) i 0 < 256
  block_bytes bytes i l =
      let b = block_is x bs k e h in
      let n : length (get_or bs k []) ≡ 32 = ap length (sym b) ∙ part_length (32 * k) 32 x (omega arith) in
      let g : get_or (get_or bs k []) i 0 ≡ get_or x (32 * k + i) 0 = ap (λ (z : List ℕ). get_or z i 0) (sym b) ∙ part_at x (32 * k) 32 i (omega arith) in
      omega (arith, bytes (32 * k + i))

module _ (t m : List ℕ) (bs : List (List ℕ)) (k : ℕ) (s : length m ≡ length t) (e : bs ≡ first_chunks 32 (length m / 32) m) (h : k < length m / 32) where
  -- The bytes beside block k of the marks are searched for a marked one that is not FF, and then what follows them.
  bytes_next : judge_each (32 * k) (each_byte recordable (drop (32 * k) t) (drop (32 * k) m))
      ≡ then (judge_each (32 * k) (each_byte recordable (take 32 (drop (32 * k) t)) (get_or bs k [])))
      (λ _. judge_each (32 * (k + 1)) (each_byte recordable (drop (32 * (k + 1)) t) (drop (32 * (k + 1)) m)))
  bytes_next =
      let y : List ℕ = drop (32 * k) t in
      let z : List ℕ = drop (32 * k) m in
      let a : List ℕ = take 32 y in
      let b : List ℕ = take 32 z in
      let na : length a ≡ 32 = part_length (32 * k) 32 t (omega arith) in
      let nb : length b ≡ 32 = part_length (32 * k) 32 m (omega arith) in
      let f : 32 * k + length (each_byte recordable a b) ≡ 32 * (k + 1) = omega (arith, na, nb, length_each recordable a b) in
      ap₂ (λ (u v : List ℕ). judge_each (32 * k) (each_byte recordable u v)) (sym (take-append-drop 32 y)) (sym (take-append-drop 32 z))
      ∙ ap (judge_each (32 * k)) (each_append recordable a (drop 32 y) b (drop 32 z) (omega arith))
      ∙ judge_append (32 * k) (each_byte recordable a b) (each_byte recordable (drop 32 y) (drop 32 z))
      ∙ ap (λ (n : ℕ). then (judge_each (32 * k) (each_byte recordable a b)) (λ _. judge_each n (each_byte recordable (drop 32 y) (drop 32 z)))) f
      ∙ ap₂ (λ (u v : List ℕ). then (judge_each (32 * k) (each_byte recordable a b)) (λ _. judge_each (32 * (k + 1)) (each_byte recordable u v))) (left_is t k) (left_is m k)
      ∙ ap (λ (v : List ℕ). then (judge_each (32 * k) (each_byte recordable a v)) (λ _. judge_each (32 * (k + 1)) (each_byte recordable (drop (32 * (k + 1)) t) (drop (32 * (k + 1)) m)))) (block_is m bs k e h)

  -- It goes on behind them where all can be recorded,
  pub bytes_pass : judge_each (32 * k) (each_byte recordable (take 32 (drop (32 * k) t)) (get_or bs k [])) ≡ good tt
      → judge_each (32 * k) (each_byte recordable (drop (32 * k) t) (drop (32 * k) m)) ≡ judge_each (32 * (k + 1)) (each_byte recordable (drop (32 * (k + 1)) t) (drop (32 * (k + 1)) m))
  bytes_pass j = bytes_next ∙ rw j

  -- and ends among them where one cannot.
  pub bytes_stop : (a : Answer) → judge_each (32 * k) (each_byte recordable (take 32 (drop (32 * k) t)) (get_or bs k [])) ≡ refused a
      → judge_each (32 * k) (each_byte recordable (drop (32 * k) t) (drop (32 * k) m)) ≡ refused a
  bytes_stop a j = bytes_next ∙ rw j
