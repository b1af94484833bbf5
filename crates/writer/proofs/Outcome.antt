-- What the judgement of the room tells, and an outcome under another name.
use mathlib.Core.Path.{◌≡◌, sym, ap, ◌∙◌}
use Prim.Native.Nat.{ℕ, ◌+◌, ◌≤◌, ◌<◌}
use native.Mathlib.Omega.{arith}
use mathlib.Core.Bool.{Bool, true}
use mathlib.Core.List.{List}
use lib.Dec.{leb}
use borrow.Author.Tests.{leb-true, leb-false}
use Rattle.base.specs.Pick.{pick}
use Rattle.format.specs.declared.Refusal.{Refusal}
use Rattle.format.specs.Answer.{Answer, as_refusal, done, room_missing}
use Rattle.format.specs.Judged.{Judged}
use Rattle.format.specs.Block.{least_gap}
use Rattle.format.specs.Written.{Pair, after, leaves}
use Rattle.format.proofs.Base.Judged.{refusal_number}
use Rattle.base.proofs.Tests.{cases}

-- Where there is room, the last block ends 13 bytes before index or earlier.
pub room_done : (end l : ℕ) → done ≡ pick (leb (end + least_gap true) l) done room_missing → end + 13 ≤ l
unfolding least_gap
room_done end l e =
    cases (leb (end + 13) l)
    (λ b. leb-true (end + 13) l b)
    (λ b. absurd (omega (arith, ap (λ (a : Answer). a.number) (e ∙ ap (λ (t : Bool). pick t done room_missing) b))))

-- Where there is not, it ends later, and the answer is 15.
pub room_short : (x : Refusal) (end l : ℕ) → as_refusal x ≡ pick (leb (end + least_gap true) l) done room_missing → (l < end + 13) × (as_refusal x ≡ room_missing)
unfolding least_gap
room_short x end l e =
    cases (leb (end + 13) l)
    (λ b. absurd (refusal_number x (ap (λ (a : Answer). a.number) (e ∙ ap (λ (t : Bool). pick t done room_missing) b))))
    (λ b. (leb-false (end + 13) l b, e ∙ ap (λ (t : Bool). pick t done room_missing) b))

-- What a call leaves by its outcome under one name it leaves under another.
pub after_same : (j k : Judged Pair) (r : Answer) (t m t' m' : List ℕ) → k ≡ j → after r t' m' ≡ leaves j t m → after r t' m' ≡ leaves k t m
after_same j k r t m t' m' e h = h ∙ ap (λ (z : Judged Pair). leaves z t m) (sym e)
