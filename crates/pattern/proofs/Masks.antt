-- The clocks of a cell byte are the bits of AA: what the code's masks and digits say of a pattern.
use mathlib.Core.Path.{◌≡◌, refl, sym, ap, ap₂, ◌∙◌}
use Prim.Native.Nat.{ℕ, zero, suc, ◌+◌, ◌*◌, ◌/◌, ◌%◌, ◌<◌}
use native.Mathlib.Omega.{arith}
use mathlib.Core.Bool.{Bool, true, false, ◌&&◌}
use lib.Bits.{bit_and}
use lib.Dec.{eqb}
use borrow.Author.Tests.{eqb-true, eqb-false, eq-eqb, ne_eqb}
use Rattle.crc.specs.Check.{digits}
use Rattle.crc.specs.Division.{value}
use Rattle.base.proofs.Tests.{cases, and_both}
use Rattle.pattern.specs.Pattern.{alternating, bit_cells, first_cells, second_cells, clock_cells, data_cells, clocks_in, data_in, legal_pattern}
use Rattle.pattern.proofs.Inverse.{bit, first_read, second_read}

-- The test f holds of every number below n.
below : ℕ → (ℕ → Bool) → Bool
below zero f = true
below (suc n) f = f n && below n f

below_each : (n : ℕ) (f : ℕ → Bool) → below n f ≡ true → (x : ℕ) → x < n → f x ≡ true
unfolding below
below_each zero f e x l = absurd (omega arith)
below_each (suc n) f e x l =
    let h = and_both (f n) (below n f) e in
    cases (eqb x n)
    (λ q. ap f (eqb-true x n q) ∙ h.0)
    (λ q. let ne = eqb-false x n q in below_each n f h.1 x (omega arith))

-- The four clock bits of a cell byte.
abbrev clock_bits : ℕ → ℕ
clock_bits x = x / 128 % 2 * 128 + x / 32 % 2 * 32 + x / 8 % 2 * 8 + x / 2 % 2 * 2

-- The mask AA takes them out.
mask_clocks : (x : ℕ) → x < 256 → bit_and x 0xAA ≡ clock_bits x
unfolding below
mask_clocks x l = eqb-true (bit_and x 0xAA) (clock_bits x) (below_each 256 (λ z. eqb (bit_and z 0xAA) (clock_bits z)) refl x l)

-- The cell bytes of FF without its first five clocks are 55 7F.
first_marked : first_cells 7 255 ≡ 0x55
unfolding first_cells bit_cells alternating digits value
first_marked = refl

second_marked : second_cells 7 255 ≡ 0x7F
unfolding second_cells bit_cells alternating digits value
second_marked = refl

marked_read : (eqb (clocks_in 0x55 0x7F) 7 && eqb (data_in 0x55 0x7F) 255) ≡ true
unfolding clocks_in data_in clock_cells data_cells digits value
marked_read = refl

module _ (x y : ℕ) (hx : x < 256) (hy : y < 256) where
  -- All eight clocks are present exactly where both masks leave AA.
  pub clocks_all : bit_and x 0xAA ≡ 0xAA → bit_and y 0xAA ≡ 0xAA → clocks_in x y ≡ 255
  unfolding clocks_in clock_cells digits value
  clocks_all p q =
      omega (arith, sym (mask_clocks x hx) ∙ p, sym (mask_clocks y hy) ∙ q, bit (x / 128), bit (x / 32), bit (x / 8), bit (x / 2), bit (y / 128), bit (y / 32), bit (y / 8), bit (y / 2))

  pub all_clocks_lem : clocks_in x y ≡ 255 → (bit_and x 0xAA ≡ 0xAA) × (bit_and y 0xAA ≡ 0xAA)
  unfolding clocks_in clock_cells digits value
  all_clocks_lem e = (
    mask_clocks x hx ∙ omega (arith, e, bit (x / 128), bit (x / 32), bit (x / 8), bit (x / 2), bit (y / 128), bit (y / 32), bit (y / 8), bit (y / 2)),
    mask_clocks y hy ∙ omega (arith, e, bit (x / 128), bit (x / 32), bit (x / 8), bit (x / 2), bit (y / 128), bit (y / 32), bit (y / 8), bit (y / 2)),
  )

  -- Where a clock is missing, only 55 7F is legal: FF without its first five clocks.
  pub legal_other : (clocks_in x y ≡ 255 → ⊥) → legal_pattern x y ≡ (eqb x 0x55 && eqb y 0x7F)
  unfolding legal_pattern value
  legal_other ne =
      rw (ne_eqb (clocks_in x y) 255 ne)
      (cases (eqb (clocks_in x y) 7 && eqb (data_in x y) 255)
      (λ e. let s = same e in rw (e, eq-eqb x 0x55 s.0, eq-eqb y 0x7F s.1))
      (λ e. rw e (sym (differ e))))
    where
      same : (eqb (clocks_in x y) 7 && eqb (data_in x y) 255) ≡ true → (x ≡ 0x55) × (y ≡ 0x7F)
      same e =
          let a = and_both (eqb (clocks_in x y) 7) (eqb (data_in x y) 255) e in
          let c = eqb-true (clocks_in x y) 7 a.0 in
          let d = eqb-true (data_in x y) 255 a.1 in
          (sym (first_read x y hx) ∙ ap₂ first_cells c d ∙ first_marked, sym (second_read x y hy) ∙ ap₂ second_cells c d ∙ second_marked)

      differ : (eqb (clocks_in x y) 7 && eqb (data_in x y) 255) ≡ false → (eqb x 0x55 && eqb y 0x7F) ≡ false
      differ e =
          cases (eqb x 0x55)
          (λ p. cases (eqb y 0x7F)
          (λ q. absurd (let z = sym e ∙ ap₂ (λ (u v : ℕ). eqb (clocks_in u v) 7 && eqb (data_in u v) 255) (eqb-true x 0x55 p) (eqb-true y 0x7F q) ∙ marked_read in let w : ◌≡◌ {A = ℕ} 0 1 = cc in omega arith))
          (λ q. rw (p, q)))
          (λ p. rw p)

  -- Where the first four clocks are present, the other four decide.
  pub legal_clocked : bit_and x 0xAA ≡ 0xAA → legal_pattern x y ≡ eqb (bit_and y 0xAA) 0xAA
  unfolding legal_pattern value
  legal_clocked p =
      cases (eqb (bit_and y 0xAA) 0xAA)
      (λ e. rw (e, clocks_all p (eqb-true (bit_and y 0xAA) 0xAA e)))
      (λ e.
      let ne = eqb-false (bit_and y 0xAA) 0xAA e in
      let other : x ≡ 0x55 → ⊥ = λ q. let z : ◌≡◌ {A = ℕ} 0 0xAA = sym (ap (λ (u : ℕ). bit_and u 0xAA) q) ∙ p in omega arith in
      rw e (legal_other (λ c. ne (all_clocks_lem c).1) ∙ rw (ne_eqb x 0x55 other)))

  -- Where one of them is missing, only 55 7F is legal.
  pub legal_missing : (bit_and x 0xAA ≡ 0xAA → ⊥) → legal_pattern x y ≡ (eqb x 0x55 && eqb y 0x7F)
  legal_missing ne = legal_other (λ c. ne (all_clocks_lem c).0)
