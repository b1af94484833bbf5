-- Home after a burst: it is found where it was, and its check is wrong.
use mathlib.Core.Path.{◌≡◌, ap, ◌∙◌}
use Prim.Native.Nat.{ℕ, ◌+◌}
use native.Mathlib.Omega.{arith}
use mathlib.Core.Bool.{true}
use mathlib.Core.List.{List, ◌++◌}
use lib.ListN.{length, take, drop}
use lib.Seq.{take_at, drop_at, take-take}
use Rattle.base.proofs.Lists.{take_map}
use Rattle.crc.specs.Check.{coefficients}
use Rattle.crc.specs.Burst.{Burst}
use Rattle.format.specs.Answer.{home_check_wrong}
use Rattle.format.specs.Judged.{good, refused}
use Rattle.format.specs.Lent.{bytes_of, unmarked}
use Rattle.format.specs.Opening.{closed_after}
use Rattle.format.specs.Home.{Home, find_home, home_bytes, judge_home_of, judge_home}
use Rattle.format.proofs.Base.Judged.{then_good, require_good}
use Rattle.format.proofs.Track.HomeLocal.{judged_place_lem, found_local}
use Rattle.format.proofs.Track.Pairs.{bytes_unmarked}
use Rattle.format.proofs.Bursts.Field.{burst_unclosed}

-- Information and check of the home at p, which stand behind xs.
home_info : (p : ℕ) (xs vs back : List ℕ) → length xs ≡ p + 6 → length vs ≡ 7 → unmarked vs ≡ true → take 7 (home_bytes p (xs ++ (vs ++ back))) ≡ vs
unfolding home_bytes bytes_of
home_info p xs vs back l n u =
    take_map _ 7 (take 8 (drop (p + 6) (xs ++ (vs ++ back))))
    ∙ ap bytes_of (take-take 7 8 (drop (p + 6) (xs ++ (vs ++ back))) (omega arith) ∙ ap (take 7) (drop_at xs (vs ++ back) (p + 6) l) ∙ take_at vs back 7 n)
    ∙ bytes_unmarked vs u

-- Home, of which ys are information and check: after a burst that makes zs of them it is refused by 3.
pub home_burst : (h : Home) (xs ys zs back : List ℕ) → length xs ≡ h.place + 6 → length ys ≡ 7 → length zs ≡ 7 → unmarked ys ≡ true → unmarked zs ≡ true
    → judge_home (xs ++ (ys ++ back)) ≡ good h → Burst 16 (coefficients ys) (coefficients zs) → judge_home (xs ++ (zs ++ back)) ≡ refused (home_check_wrong h.place)
unfolding judge_home find_home judge_home_of
home_burst h xs ys zs back l a b u v e k =
    let f = then_good (find_home (xs ++ (ys ++ back))) _ h e in
    let p : ℕ = f.0 in
    let old : List ℕ = home_bytes p (xs ++ (ys ++ back)) in
    let new : List ℕ = home_bytes p (xs ++ (zs ++ back)) in
    let same : p ≡ h.place = judged_place_lem p old h f.2 in
    let at : length xs ≡ p + 6 = omega arith in
    let closed : closed_after 5 old ≡ true = (require_good (closed_after 5 old) (home_check_wrong p) _ h f.2).0 in
    let moved : Burst 16 (coefficients (take 7 old)) (coefficients (take 7 new)) = rw (home_info p xs ys back at a u, home_info p xs zs back at b v) k in
    rw (found_local xs (ys ++ back) (zs ++ back) 15 23 p f.1 (omega arith), burst_unclosed 5 old new closed moved, same)
