-- When the count of a written sector is within the rule: its bytes, its flag, its address.
use mathlib.Core.Path.{◌≡◌, refl}
use Prim.Native.Nat.{ℕ, suc, ◌+◌, ◌*◌, ◌/◌, ◌%◌, ◌≤◌, ◌<◌}
use native.Mathlib.Omega.{arith}
use mathlib.Core.Bool.{true, not}
use lib.ListN.{length}
use lib.Dec.{leb, eqb}
use borrow.Author.Tests.{leb-true, eq-eqb, ne_eqb, eqb-true}
use Rattle.format.specs.Lent.{unmarked}
use Rattle.format.specs.Flag.{names_itself, sequence_right, count_flag_right}
use Rattle.format.specs.Address.{Address, address_in_range, same_address, address_right}
use Rattle.format.specs.Sector.{Sector, content_right}
use Rattle.format.specs.Written.{count_info}
use Rattle.format.specs.Add.{added_flag}
use Rattle.base.proofs.Tests.{cases, and_both}
use Rattle.format.proofs.Sector.Valid.{info_unmarked}

-- An address that counts may name is in range.
pub right_in_range : (f : ℕ) (own a : Address) → address_in_range own ≡ true → address_right f own a ≡ true → address_in_range a ≡ true
unfolding address_right same_address address_in_range
right_in_range f own a r e =
    cases (names_itself f)
    (λ n.
    let s = and_both (eqb a.cylinder own.cylinder) (eqb a.head own.head) (rw n at e) in
    rw (eqb-true a.cylinder own.cylinder s.0, eqb-true a.head own.head s.1) r)
    (λ n. (and_both (address_in_range a) (not (same_address a own)) (rw n at e)).0)

-- The bytes of a count are bytes, where flag, C, H and S fit their bytes and the content is within the rule.
pub count_unmarked : (s : Sector) → s.flag < 256 → s.address.cylinder < 65536 → s.address.head < 65536 → s.number < 256
    → content_right s.key_bytes s.data_bytes ≡ true → unmarked (count_info s) ≡ true
unfolding content_right
count_unmarked s f c h n r =
    let k : ℕ = length s.key_bytes in
    let d : ℕ = length s.data_bytes in
    let w = and_both (leb k 255) (leb d 65535) r in
    let kl : k ≤ 255 = leb-true k 255 w.0 in
    let dl : d ≤ 65535 = leb-true d 65535 w.1 in
    info_unmarked s (record { flag_fits = f; cylinder_fits = c; head_fits = h; number_fits = n; key_fits = omega arith; data_fits = omega arith })

-- The flag of home is right in sector 0.
pub first_flag : (f : ℕ) → f ≤ 3 → count_flag_right f 0 f ≡ true
unfolding count_flag_right sequence_right
first_flag f h =
    rw (
      eq-eqb (f % 4) (f % 4) refl,
      eq-eqb (f / 4 % 16) 0 (omega arith),
      eq-eqb (f / 128) 0 (omega arith),
      eq-eqb (f / 64 % 2) 0 (omega arith),
    )

-- The flag of an added sector is a byte.
pub added_flag_small : (f i b7 : ℕ) → b7 ≤ 1 → added_flag f i b7 < 256
unfolding added_flag
added_flag_small f i b7 h = omega arith

-- The flag of an added sector is right in its position.
pub added_flag_lem : (f i b7 : ℕ) → b7 ≤ 1 → count_flag_right f (suc i) (added_flag f (suc i) b7) ≡ true
unfolding count_flag_right sequence_right added_flag
added_flag_lem f i b7 h =
    let u : ℕ = suc i % 2 in
    let c : ℕ = f % 4 in
    let g : ℕ = u * 128 + b7 * 64 + c in
    rw (
      eq-eqb (g % 4) c (omega arith),
      eq-eqb (g / 4 % 16) 0 (omega arith),
      eq-eqb (g / 128) u (omega arith),
      ne_eqb (suc i) 0 (λ q. omega arith),
    )
