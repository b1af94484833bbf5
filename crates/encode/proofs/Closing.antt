-- The numbers of two bytes as they are written, the high byte first: what closes information, and the information of home and of a count.
use mathlib.Core.Path.{◌≡◌, ap, ◌∙◌}
use Prim.Native.Nat.{ℕ, ◌/◌, ◌%◌, ◌<◌}
use native.Mathlib.Omega.{arith}
use mathlib.Core.List.{List, [], ◌∷◌}
use lib.ListN.{length, get_or}
use Rattle.std.specs.Int.{w16, to_be_bytes}
use Rattle.crc.specs.Check.{check_of, check_bytes}
use Rattle.format.specs.Address.{Address, address_bytes}
use Rattle.format.specs.Opening.{closing}
use Rattle.format.specs.Sector.{Sector}
use Rattle.format.specs.Written.{count_info}

-- The two bytes of a number.
two_bytes : (n : ℕ) (bs : List ℕ) → n < 65536 → bs ≡ to_be_bytes w16 n → (get_or bs 0 0 ≡ n / 256) × (get_or bs 1 0 ≡ n % 256)
two_bytes n bs h e =
    let high : n / 256 % 256 ≡ n / 256 = omega arith in
    (ap (λ (l : List ℕ). get_or l 0 0) e ∙ high, ap (λ (l : List ℕ). get_or l 1 0) e)

-- The check's two bytes and CC close the information.
pub closing_stored : (xs : List ℕ) (r : ℕ) (bs : List ℕ) → r < 65536 → bs ≡ to_be_bytes w16 r → r ≡ check_of xs
    → ◌≡◌ {A = List ℕ} (get_or bs 0 0 ∷ get_or bs 1 0 ∷ 0xCC ∷ []) (closing xs)
unfolding closing check_bytes
closing_stored xs r bs h b e =
    let two = two_bytes r bs h b in
    rw (two.0, two.1, e)

-- The two bytes of C and the two of H are those of an address.
pub address_stored : (a : Address) (cs hs : List ℕ) → a.cylinder < 65536 → cs ≡ to_be_bytes w16 a.cylinder → a.head < 65536 → hs ≡ to_be_bytes w16 a.head
    → ◌≡◌ {A = List ℕ} (get_or cs 0 0 ∷ get_or cs 1 0 ∷ get_or hs 0 0 ∷ get_or hs 1 0 ∷ []) (address_bytes a)
unfolding address_bytes
address_stored a cs hs f c g h =
    let two = two_bytes a.cylinder cs f c in
    let more = two_bytes a.head hs g h in
    rw (two.0, two.1, more.0, more.1)

-- And with the flag, S, KL and the two bytes of DL those of a count.
pub count_stored : (s : Sector) (cs hs ds : List ℕ) → s.address.cylinder < 65536 → cs ≡ to_be_bytes w16 s.address.cylinder → s.address.head < 65536 → hs ≡ to_be_bytes w16 s.address.head
    → length s.data_bytes < 65536 → ds ≡ to_be_bytes w16 (length s.data_bytes)
    → ◌≡◌ {A = List ℕ} (s.flag ∷ get_or cs 0 0 ∷ get_or cs 1 0 ∷ get_or hs 0 0 ∷ get_or hs 1 0 ∷ s.number ∷ length s.key_bytes ∷ get_or ds 0 0 ∷ get_or ds 1 0 ∷ []) (count_info s)
unfolding count_info
count_stored s cs hs ds f c g h k d =
    let two = two_bytes (length s.data_bytes) ds k d in
    rw (← address_stored s.address cs hs f c g h, two.0, two.1)
