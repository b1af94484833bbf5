-- Home does not see what stands behind sector 0's place.
use mathlib.Core.Path.{◌≡◌, sym, ap, ◌∙◌}
use Prim.Native.Nat.{ℕ, zero, suc, ◌+◌, ◌≤◌}
use native.Mathlib.Omega.{arith}
use mathlib.Core.List.{List, ◌++◌}
use lib.ListN.{length, drop}
use Rattle.format.specs.Answer.{home_check_wrong, home_fields_wrong}
use Rattle.format.specs.Judged.{good, require}
use Rattle.format.specs.Opening.{starts_with, plain_opening, closed_after}
use Rattle.format.specs.Home.{Home, home_from, find_home, home_bytes, home_of, home_fields_right, judge_home_of, judge_home, first_count_place}
use Rattle.format.proofs.Base.Judged.{good_inj, refused-good, then_good, require_good}
use Rattle.base.proofs.Tests.{cases}
use Rattle.format.proofs.Cells.Local.{starts_local, take_local}

-- Home as judged stands where it was found.
pub judged_place_lem : (p : ℕ) (r : List ℕ) (h : Home) → judge_home_of p r ≡ good h → p ≡ h.place
unfolding judge_home_of home_of
judged_place_lem p r h e =
    let a = require_good (closed_after 5 r) (home_check_wrong p) (require (home_fields_right (home_of p r)) (home_fields_wrong p) (good (home_of p r))) h e in
    let b = require_good (home_fields_right (home_of p r)) (home_fields_wrong p) (good (home_of p r)) h a.1 in
    ap (λ (x : Home). x.place) (good_inj (home_of p r) h b.1)

-- A home that is found starts in the window that is searched.
pub found_window : (n q p : ℕ) (c : List ℕ) → home_from n q c ≡ good p → (q ≤ p) × (suc p ≤ q + n)
unfolding home_from
found_window zero q p c e = refused-good _ _ e
found_window (suc n) q p c e =
    cases (starts_with plain_opening (drop q c))
    (λ a. let g : good q ≡ good p = rw a at e in let same : q ≡ p = cc in (omega arith, omega arith))
    (λ a. let ih = found_window n (suc q) p c (rw a at e) in (omega arith, omega arith))

-- Home starts 23 to 37 bytes after index.
pub home_window : (c : List ℕ) (h : Home) → judge_home c ≡ good h → (23 ≤ h.place) × (h.place ≤ 37)
unfolding judge_home find_home
home_window c h e =
    let f = then_good (find_home c) _ h e in
    let w = found_window 15 23 f.0 c f.1 in
    let same : f.0 ≡ h.place = judged_place_lem f.0 (home_bytes f.0 c) h f.2 in
    (omega arith, omega arith)

module _ (xs ys zs : List ℕ) where
  -- A home within xs is found whatever follows xs.
  pub found_local : (n q p : ℕ) → home_from n q (xs ++ ys) ≡ good p → p + 6 ≤ length xs → home_from n q (xs ++ zs) ≡ good p
  unfolding home_from
  found_local zero q p e h = refused-good _ _ e
  found_local (suc n) q p e h =
      let w = found_window (suc n) q p (xs ++ ys) e in
      cases (starts_with plain_opening (drop q (xs ++ ys)))
      (λ a. rw (sym (starts_local xs zs ys plain_opening q (omega arith)) ∙ a) (rw a at e))
      (λ a. rw (sym (starts_local xs zs ys plain_opening q (omega arith)) ∙ a) (found_local n (suc q) p (rw a at e) h))

  -- And its bytes are the same.
  bytes_local : (p : ℕ) → p + 14 ≤ length xs → home_bytes p (xs ++ zs) ≡ home_bytes p (xs ++ ys)
  unfolding home_bytes
  bytes_local p h = rw (take_local xs zs ys 8 (p + 6) (omega arith))

-- Home is the same in front of anything else from sector 0's place on.
pub home_local : (xs ys zs : List ℕ) (h : Home) → judge_home (xs ++ ys) ≡ good h → length xs ≡ first_count_place h.place → judge_home (xs ++ zs) ≡ good h
unfolding judge_home find_home
home_local xs ys zs h e l =
    let f = then_good (find_home (xs ++ ys)) _ h e in
    let p : ℕ = f.0 in
    let same : p ≡ h.place = judged_place_lem p (home_bytes p (xs ++ ys)) h f.2 in
    rw (found_local xs ys zs 15 23 p f.1 (omega arith), bytes_local xs ys zs p (omega arith)) f.2
