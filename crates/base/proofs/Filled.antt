-- A slice that is written from its start on: the first i elements of a list, and what was there behind them.
use mathlib.Core.Path.{◌≡◌, sym, ap, ◌∙◌}
use Prim.Native.Nat.{ℕ, suc, ◌+◌, ◌≤◌, ◌<◌}
use native.Mathlib.Omega.{arith}
use native.Mathlib.Numerals.{add-one}
use mathlib.Core.List.{List, ◌++◌, append-nil}
use lib.ListN.{length, take, drop, set, get_or, drop_of_length-le}
use lib.Seq.{take-suc, drop-cons, set_at, append_snoc, length-take-le, take_all}

module _ {A : Type 0} where
  -- The first i elements of `all`, then those of `old`.
  abbrev pub filled : List A → ℕ → List A → List A
  filled all i old = take i all ++ drop i old

  -- One element more is written.
  pub filled_more : (all old new : List A) (i : ℕ) (v d : A) → i < length all → i < length old → new ≡ filled all i old → v ≡ get_or all i d
      → set new i v ≡ filled all (i + 1) old
  filled_more all old new i v d ha ho e f =
      rw (e, f, add-one i)
      (ap (λ (r : List A). set (take i all ++ r) i (get_or all i d)) (drop-cons old i d ho)
      ∙ set_at (take i all) (get_or old i d) (drop (suc i) old) (get_or all i d) i (length-take-le i all (omega arith))
      ∙ sym (append_snoc (take i all) (get_or all i d) (drop (suc i) old))
      ∙ ap (λ (r : List A). r ++ drop (suc i) old) (sym (take-suc all i d ha)))

  -- The list is written.
  pub filled_whole : (all old new : List A) (i : ℕ) → length all ≡ i → new ≡ filled all i old → new ≡ all ++ drop (length all) old
  filled_whole all old new i h e = e ∙ rw (sym h, take_all (length all) all (omega arith))

  -- The list is written, and it fills the slice.
  pub filled_all : (all old new : List A) (i : ℕ) → length all ≤ i → length old ≤ i → new ≡ filled all i old → new ≡ all
  filled_all all old new i ha ho e = e ∙ rw (take_all i all ha, drop_of_length-le old {i = i} ho) (append-nil all)
