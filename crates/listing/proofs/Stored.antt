-- Values that are stored one after the other from the front of a list, and those that are left, are the values of all places.
use Rattle.std.proofs.Common.{◌≡◌, ℕ, suc, ◌+◌, ◌-◌, ◌<◌, ◌≤◌, List, [], ◌∷◌, ◌++◌, length, take, sym, ap, ◌∙◌, arith, add-one, append_assoc}
use mathlib.Core.List.{append-nil}
use lib.ListN.{set}
use lib.Seq.{take-suc-set, take_all}
use Rattle.listing.specs.Run.{run}

module _ {A : Type 0} (value : ℕ → A) (next : ℕ → ℕ) where
  -- One value more is stored.
  pub run_more : (n p q i : ℕ) (xs : List A) (v : A) → i < length xs → i < n → v ≡ value p → q ≡ next p
      → take (i + 1) (set xs i v) ++ run value next q (n - (i + 1)) ≡ take i xs ++ run value next p (n - i)
  run_more n p q i xs v l m e f =
      let k : n - i ≡ suc (n - (i + 1)) = omega (arith, m) in
      rw (k, e, f, add-one i) (ap (λ (r : List A). r ++ run value next (next p) (n - suc i)) (take-suc-set xs i (value p) l) ∙ append_assoc (take i xs) (value p ∷ []) (run value next (next p) (n - suc i)))

  -- All values are stored, and they fill the list.
  pub run_whole : (n p q i : ℕ) (xs : List A) → length xs ≤ i → n ≤ i → take i xs ++ run value next p (n - i) ≡ run value next q n → xs ≡ run value next q n
  run_whole n p q i xs l m e =
      let z : n - i ≡ 0 = omega (arith, m) in
      let h = rw (z, take_all i xs l) at e in
      sym (append-nil xs) ∙ h
