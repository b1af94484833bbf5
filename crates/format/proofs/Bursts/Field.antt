-- A field of n information bytes, whatever n is: after a burst in information or check the check does not follow, and the field is not closed; after two bits sixteen apart are altered it does follow.
use mathlib.Core.Path.{◌≡◌, refl, sym, ap, ◌∙◌}
use Prim.Native.Nat.{ℕ, suc, ◌+◌, ◌/◌, ◌%◌, ◌≤◌}
use native.Mathlib.Omega.{arith}
use mathlib.Core.Bool.{true, false, ◌&&◌}
use mathlib.Core.List.{List, [], ◌∷◌, ◌++◌}
use lib.ListN.{length, take, drop, get_or, length-take, length-drop}
use lib.Seq.{take-add, take_at, drop-cons}
use Rattle.base.proofs.Tests.{cases, false-true, and_both, and_make}
use Rattle.crc.specs.Check.{coefficients, check_of, check_bytes, agrees}
use Rattle.crc.specs.Burst.{Burst, TwoApart}
use Rattle.crc.proofs.Coefficients.{coefficients_length}
use Rattle.crc.proofs.Agreement.{agrees_stored, stored_agrees}
use Rattle.crc.proofs.Burst.{burst_caught}
use Rattle.crc.proofs.TwoApart.{two_apart_agree}
use Rattle.format.specs.Lent.{unmarked}
use Rattle.format.specs.Opening.{closed_after, check_follows, closing_follows}
use Rattle.format.proofs.Cells.Opening.{starts_with_self, starts_with_front, starts_length, unmarked_at}
use Rattle.format.proofs.Cells.Field.{closed_parts}

-- Where the check follows n information bytes, the first n + 2 are the information and its check.
checked_is : (n : ℕ) (c : List ℕ) → check_follows n c ≡ true → take (n + 2) c ≡ take n c ++ check_bytes (take n c)
unfolding check_follows check_bytes
checked_is n c e =
    take-add n 2 c
    ∙ ap (λ (r : List ℕ). take n c ++ r) (ap (take 2) (starts_with_front (check_bytes (take n c)) (drop n c) e) ∙ take_at (check_bytes (take n c)) (drop 2 (drop n c)) 2 refl)

-- After a burst in information or check the check does not follow,
pub burst_unchecked : (n : ℕ) (c d : List ℕ) → check_follows n c ≡ true → Burst 16 (coefficients (take (n + 2) c)) (coefficients (take (n + 2) d)) → check_follows n d ≡ false
unfolding check_bytes
burst_unchecked n c d e b =
    cases (check_follows n d)
    (λ f.
    let bs : List ℕ = take n c in
    let cs : List ℕ = take n d in
    let moved : Burst 16 (coefficients (bs ++ check_bytes bs)) (coefficients (cs ++ check_bytes cs)) = rw (checked_is n c e, checked_is n d f) at b in
    let caught = burst_caught bs cs (check_of bs / 256) (check_of bs % 256) (check_of cs / 256) (check_of cs % 256) (stored_agrees bs _ _ refl) moved in
    false-true (sym caught ∙ stored_agrees cs _ _ refl))
    (λ f. f)

-- and the field is not closed.
pub burst_unclosed : (n : ℕ) (c d : List ℕ) → closed_after n c ≡ true → Burst 16 (coefficients (take (n + 2) c)) (coefficients (take (n + 2) d)) → closed_after n d ≡ false
burst_unclosed n c d e b =
    let k = and_both (check_follows n c) (closing_follows n c) (sym (closed_parts n c) ∙ e) in
    closed_parts n d ∙ ap (λ t. t && closing_follows n d) (burst_unchecked n c d k.0 b)

-- What gets through: two bits of information and check that are sixteen apart, wherever they stand. If bytes stand in the check's place the check follows as before,
pub two_apart_checked : (n : ℕ) (c d : List ℕ) (i : ℕ) → check_follows n c ≡ true → unmarked (take 2 (drop n d)) ≡ true
    → TwoApart 16 i (coefficients (take (n + 2) c)) (coefficients (take (n + 2) d)) → check_follows n d ≡ true
unfolding check_follows check_bytes
two_apart_checked n c d i e u a =
    let bs : List ℕ = take n c in
    let cs : List ℕ = take n d in
    let high : ℕ = get_or d n 0 in
    let low : ℕ = get_or d (suc n) 0 in
    let enough : 2 ≤ length (drop n c) = starts_length (check_bytes bs) (drop n c) e in
    let long : n + 2 ≤ length d = omega (arith, a.same_length, coefficients_length (take (n + 2) c), coefficients_length (take (n + 2) d), length-take (n + 2) c, length-take (n + 2) d, length-drop n c) in
    let rest : drop n d ≡ high ∷ low ∷ drop (suc (suc n)) d = drop-cons d n 0 (omega arith) ∙ ap (λ (r : List ℕ). high ∷ r) (drop-cons d (suc n) 0 (omega arith)) in
    let both : take (n + 2) d ≡ cs ++ high ∷ low ∷ [] = take-add n 2 d ∙ ap (λ (r : List ℕ). cs ++ take 2 r) rest in
    let bytes : unmarked (high ∷ low ∷ []) ≡ true = ap (λ (r : List ℕ). unmarked (take 2 r)) (sym rest) ∙ u in
    let agree : agrees cs high low ≡ true = two_apart_agree bs cs (check_of bs / 256) (check_of bs % 256) high low i (stored_agrees bs _ _ refl) (unmarked_at (high ∷ low ∷ []) 0 bytes) (unmarked_at (high ∷ low ∷ []) 1 bytes)
    (rw (checked_is n c e, both) at a) in
    rw (agrees_stored cs high low agree, rest) (starts_with_self (high ∷ low ∷ []) (drop (suc (suc n)) d))

-- and if the closing byte does too, the field is closed as before.
pub two_apart_closed : (n : ℕ) (c d : List ℕ) (i : ℕ) → closed_after n c ≡ true → unmarked (take 2 (drop n d)) ≡ true → closing_follows n d ≡ true
    → TwoApart 16 i (coefficients (take (n + 2) c)) (coefficients (take (n + 2) d)) → closed_after n d ≡ true
two_apart_closed n c d i e u f a =
    let k = and_both (check_follows n c) (closing_follows n c) (sym (closed_parts n c) ∙ e) in
    closed_parts n d ∙ and_make (two_apart_checked n c d i k.0 u a) f
