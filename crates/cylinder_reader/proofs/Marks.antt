-- Marks that are written the bits of a byte at a time, and bits that are spare.
use Rattle.std.proofs.Common.{◌≡◌, ℕ, ◌+◌, ◌-◌, ◌*◌, ◌/◌, ◌%◌, ◌<◌, ◌≤◌, true, false, List, [], ◌∷◌, ◌++◌, get_or, sym, ap, ◌∙◌, arith}
use borrow.Author.Tests.{eq-eqb, ne_eqb}
use lib.Dec.{eqb}
use Rattle.base.specs.Indexed.{list_to}
use Rattle.base.specs.Laid.{laid_over, laid_at}
use Rattle.base.proofs.Indexed.{each_holds, one_fails, join_same}
use Rattle.base.proofs.Laid.{over_next}
use Rattle.base.proofs.Filling.{list_append}
use Rattle.cylinder.specs.Packed.{packed_size, bit_of, mark_at, unpacked, spare_clear}
use Rattle.cylinder.proofs.Packed.{length_unpacked, mark_in_lem}

-- The first r bits of byte i are laid behind the marks of the i bytes before it, which lie over the front.
pub bits_laid : (bs : List ℕ) (i r : ℕ) (old new last : List ℕ) → r ≤ 8 → new ≡ laid_over (unpacked (i * 8) bs) old → last ≡ laid_at (i * 8) (list_to (bit_of (get_or bs i 0)) r) new
    → last ≡ laid_over (unpacked (i * 8 + r) bs) old
unfolding unpacked
bits_laid bs i r old new last h f g =
    let p = i * 8 in
    let x = get_or bs i 0 in
    let b : list_to (bit_of x) r ≡ list_to (λ j. mark_at bs (p + j)) r =
    join_same (λ k. bit_of x k ∷ []) (λ k. mark_at bs (p + k) ∷ []) r (λ k l. ap (λ (y : ℕ). y ∷ []) (sym (mark_in_lem bs i k (omega arith)))) in
    over_next p (unpacked p bs) (list_to (bit_of x) r) old new last (sym (length_unpacked p bs)) f g
    ∙ ap (λ (l : List ℕ). laid_over l old) (ap (λ (l : List ℕ). unpacked p bs ++ l) b ∙ sym (list_append (mark_at bs) p r))

-- Where l is a number of whole bytes no bit is spare,
pub spares_none : (bs : List ℕ) (l : ℕ) → l % 8 ≡ 0 → true ≡ spare_clear l bs
unfolding spare_clear
spares_none bs l h =
    let e : packed_size l * 8 - l ≡ 0 = omega arith in
    sym (each_holds (λ j. eqb (mark_at bs (l + j)) 0) (packed_size l * 8 - l) (λ k g. absurd (omega arith)))

-- and else those of the last byte behind the first l % 8 are.
spare_at : (bs : List ℕ) (l k : ℕ) → l % 8 + k < 8 → mark_at bs (l + k) ≡ bit_of (get_or bs (l / 8) 0) (l % 8 + k)
spare_at bs l k h =
    let e : l + k ≡ l / 8 * 8 + (l % 8 + k) = omega arith in
    ap (mark_at bs) e ∙ mark_in_lem bs (l / 8) (l % 8 + k) h

-- Where each of them is 0 all are clear,
pub spares_pass : (bs : List ℕ) (l : ℕ) → (l % 8 ≡ 0 → ⊥) → ((k : ℕ) → l % 8 ≤ k → k < 8 → bit_of (get_or bs (l / 8) 0) k ≡ 0) → true ≡ spare_clear l bs
unfolding spare_clear
spares_pass bs l h f =
    sym (each_holds (λ j. eqb (mark_at bs (l + j)) 0) (packed_size l * 8 - l) (λ k g.
    let m : l % 8 + k < 8 = omega arith in
    eq-eqb _ _ (spare_at bs l k m ∙ f (l % 8 + k) (omega arith) m)))

-- and where one is not they are not.
pub spares_fail : (bs : List ℕ) (l k : ℕ) → (l % 8 ≡ 0 → ⊥) → l % 8 ≤ k → k < 8 → (bit_of (get_or bs (l / 8) 0) k ≡ 0 → ⊥) → false ≡ spare_clear l bs
unfolding spare_clear
spares_fail bs l k o i g f =
    let d : l % 8 + (k - l % 8) ≡ k = omega arith in
    let n : k - l % 8 < packed_size l * 8 - l = omega arith in
    sym (one_fails (λ j. eqb (mark_at bs (l + j)) 0) (packed_size l * 8 - l) (k - l % 8) n
    (ne_eqb _ _ (λ e. f (ap (bit_of (get_or bs (l / 8) 0)) (sym d) ∙ sym (spare_at bs l (k - l % 8) (omega arith)) ∙ e))))
