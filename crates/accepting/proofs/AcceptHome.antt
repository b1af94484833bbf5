-- Home by the bytes that follow its opening.
use mathlib.Core.Path.{◌≡◌, refl, ap, ◌∙◌}
use Prim.Native.Nat.{ℕ, ◌+◌, ◌-◌, ◌≤◌, ◌<◌}
use native.Mathlib.Omega.{arith}
use mathlib.Core.List.{List}
use lib.ListN.{length, get_or, take, drop, length-take, length-drop}
use Rattle.format.specs.Answer.{home_missing, home_check_wrong}
use Rattle.format.specs.Judged.{good, refused}
use Rattle.format.specs.Lent.{cells}
use Rattle.format.specs.Home.{find_home, home_bytes, home_of, judge_home_of, judge_home}
use Rattle.format.proofs.Track.Pairs.{length_bytes}
use Rattle.sector.proofs.Opening.{closed_short}
use Rattle.accepting.proofs.AcceptBytes.{taken_bytes}

-- No home was found.
pub home_nowhere : (c : List ℕ) → find_home c ≡ refused home_missing → judge_home c ≡ refused home_missing
unfolding judge_home
home_nowhere c e = rw e

-- A home that was found is judged by the bytes that follow its opening.
pub home_found : (c : List ℕ) (p : ℕ) → find_home c ≡ good p → judge_home c ≡ judge_home_of p (home_bytes p c)
unfolding judge_home
home_found c p e = rw e

few_bytes : (c : List ℕ) (p : ℕ) → length c < p + 14 → length (home_bytes p c) < 8
unfolding home_bytes
few_bytes c p l = omega (arith, length_bytes (take 8 (drop (p + 6) c)), length-take 8 (drop (p + 6) c), length-drop (p + 6) c)

-- Where fewer than 14 cells are left its check is wrong.
pub home_short : (c : List ℕ) (p : ℕ) → find_home c ≡ good p → length c < p + 14 → judge_home c ≡ refused (home_check_wrong p)
unfolding judge_home_of
home_short c p e l = home_found c p e ∙ rw (closed_short 5 (home_bytes p c) (few_bytes c p l))

-- Its bytes are those of the track.
pub home_bytes_lem : (t m : List ℕ) (p : ℕ) → ((i : ℕ) → get_or t i 0 < 256) → p + 14 ≤ length (cells t m) → home_bytes p (cells t m) ≡ take (p + 14 - (p + 6)) (drop (p + 6) t)
unfolding home_bytes
home_bytes_lem t m p b l =
    let e : 8 ≡ p + 14 - (p + 6) = omega arith in
    taken_bytes t m (p + 6) 8 b (omega arith) ∙ ap (λ (k : ℕ). take k (drop (p + 6) t)) e

-- It stands where it was found.
pub place_of : (p : ℕ) (r : List ℕ) → (home_of p r).place ≡ p
unfolding home_of
place_of p r = refl
