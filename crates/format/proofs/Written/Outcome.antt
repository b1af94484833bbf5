-- What stands after a call that writes a pair, by what it gives.
use mathlib.Core.Path.{◌≡◌, sym, ap, ◌∙◌}
use Prim.Native.Nat.{ℕ}
use mathlib.Core.List.{List}
use Rattle.format.specs.Answer.{Answer, done}
use Rattle.format.specs.Judged.{Judged, good, refused}
use Rattle.format.specs.Written.{Pair, after, leaves}

-- A refusal leaves both buffers as they were.
pub after_refused : (j : Judged Pair) (r a : Answer) (t m : List ℕ) → j ≡ refused a → r ≡ a → after r t m ≡ leaves j t m
after_refused j r a t m e q = ap (λ (x : Answer). after x t m) q ∙ ap (λ (k : Judged Pair). leaves k t m) (sym e)

-- A call that is done leaves the bytes and marks of the new pair.
pub after_good : (j : Judged Pair) (r : Answer) (q : Pair) (t m t' m' : List ℕ) → j ≡ good q → r ≡ done → t' ≡ q.track → m' ≡ q.marks
    → after r t' m' ≡ leaves j t m
after_good j r q t m t' m' e d f g = (λ i. after (d i) (f i) (g i)) ∙ ap (λ (k : Judged Pair). leaves k t m) (sym e)
