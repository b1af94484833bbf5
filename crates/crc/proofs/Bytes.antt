-- Which lists hold bytes only.
use Prim.Native.Nat.{ℕ, zero, suc, ◌<◌}
use native.Mathlib.Omega.{arith}
use mathlib.Core.List.{List, [], ◌∷◌, reverse_aux}
use lib.ListN.{length, get_or}
use Rattle.crc.specs.Halves.{AllBytes}

-- A list whose element at every place is a byte holds bytes only.
pub all_bytes : (bs : List ℕ) → ((i : ℕ) → i < length bs → get_or bs i 0 < 256) → AllBytes bs
unfolding AllBytes
all_bytes [] h = tt
all_bytes (b ∷ bs) h = (h 0 (omega arith), all_bytes bs (λ i l. h (suc i) (omega arith)))

-- The element at every place of a list that holds bytes only is a byte.
pub byte_at : (bs : List ℕ) → AllBytes bs → (i : ℕ) → i < length bs → get_or bs i 0 < 256
unfolding AllBytes
byte_at [] h i l = absurd (omega arith)
byte_at (b ∷ bs) h zero l = h.0
byte_at (b ∷ bs) h (suc i) l = byte_at bs h.1 i (omega arith)

-- Bytes put in reverse before bytes are bytes.
pub all_reverse : (bs acc : List ℕ) → AllBytes bs → AllBytes acc → AllBytes (reverse_aux bs acc)
unfolding AllBytes
all_reverse [] acc hb ha = ha
all_reverse (b ∷ bs) acc hb ha = all_reverse bs (b ∷ acc) hb.1 (hb.0, ha)
