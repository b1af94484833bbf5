-- The bytes of marks that are taken eight at a time.
use Rattle.std.proofs.Common.{◌≡◌, ℕ, zero, suc, ◌+◌, ◌-◌, ◌*◌, ◌/◌, ◌<◌, List, [], ◌++◌, length, get_or, take, drop, replicate, refl, sym, ap, ◌∙◌, arith, length-drop}
use Rattle.std.proofs.Math.Nat.{add-zero, zero-mul, suc-mul}
use Rattle.std.proofs.Math.ListN.{get_or-append, get_or-eq_default}
use Rattle.std.proofs.lemmas.List.{get_or-take, get_or-drop, get_or-append-add, drop-drop}
use Rattle.std.specs.Simd.{first_chunks}
use borrow.Author.Tests.{ltb-true, ltb-false}
use lib.Dec.{ltb}
use Rattle.base.proofs.Tests.{cases}
use Rattle.cylinder.specs.Packed.{octet_at}

-- Chunk i of k chunks of n elements.
chunk_at : (n k i : ℕ) (xs : List ℕ) → i < k → get_or (first_chunks n k xs) i [] ≡ take n (drop (i * n) xs)
chunk_at n zero i xs h = absurd (omega arith)
chunk_at n (suc k) zero xs h = rw (zero-mul n)
chunk_at n (suc k) (suc i) xs h =
    let e : n + i * n ≡ suc i * n = omega (arith, suc-mul i n) in
    chunk_at n k i (drop n xs) (omega arith) ∙ ap (take n) (drop-drop (i * n) n xs ∙ ap (λ (j : ℕ). drop j xs) e)

-- Eight elements that are those from place p on have their byte.
octet_same : (xs m : List ℕ) (p : ℕ) → ((j : ℕ) → j < 8 → get_or xs j 0 ≡ get_or m (p + j) 0) → octet_at xs 0 ≡ octet_at m p
unfolding octet_at
octet_same xs m p h =
    let e : get_or xs 0 0 ≡ get_or m p 0 = h 0 (omega arith) ∙ ap (λ (k : ℕ). get_or m k 0) (add-zero p) in
    rw (e, h 1 (omega arith), h 2 (omega arith), h 3 (omega arith), h 4 (omega arith), h 5 (omega arith), h 6 (omega arith), h 7 (omega arith))

-- The byte of a chunk of eight marks,
pub octet_chunk : (m : List ℕ) (i : ℕ) → i < length m / 8 → octet_at (get_or (first_chunks 8 (length m / 8) m) i []) 0 ≡ octet_at m (i * 8)
octet_chunk m i h =
    ap (λ (xs : List ℕ). octet_at xs 0) (chunk_at 8 (length m / 8) i m h)
    ∙ octet_same (take 8 (drop (i * 8) m)) m (i * 8) (λ j k. get_or-take 8 (drop (i * 8) m) j 0 k ∙ get_or-drop (i * 8) m j 0)

-- Every element of zeros is 0.
zeros_at : (n i : ℕ) → get_or {A = ℕ} (replicate n 0) i 0 ≡ 0
zeros_at zero i = refl {A = ℕ}
zeros_at (suc n) zero = refl {A = ℕ}
zeros_at (suc n) (suc i) = zeros_at n i

-- and that of the marks behind the last of them, with 0 for each that is not there.
pub octet_rest : (m : List ℕ) (p r : ℕ) → octet_at (drop p m ++ drop r (replicate 8 0)) 0 ≡ octet_at m p
octet_rest m p r =
    let rest = drop p m in
    let z = drop r (replicate 8 0) in
    octet_same (rest ++ z) m p (λ j k.
    cases (ltb j (length rest))
    (λ e. get_or-append rest z 0 j (ltb-true j (length rest) e) ∙ get_or-drop p m j 0)
    (λ e.
    let g = ltb-false j (length rest) e in
    let q : j ≡ length rest + (j - length rest) = omega arith in
    rw q (get_or-append-add rest z (j - length rest) 0 ∙ get_or-drop r (replicate 8 0) (j - length rest) 0 ∙ zeros_at 8 (r + (j - length rest)))
    ∙ sym (get_or-eq_default m 0 {n = p + j} (omega (arith, length-drop p m)))))
