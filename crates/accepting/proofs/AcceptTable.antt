-- Answer 13 from one place of the list to the next.
use Rattle.std.proofs.Common.{◌≡◌, sym, ◌∙◌, refl, ℕ, ◌+◌, ◌-◌, ◌≤◌, ◌<◌, Bool, true, false, List, [], length, get_or, take, drop, set, replicate, arith}
use Rattle.format.specs.Answer.{sector_repeated}
use Rattle.format.specs.Judged.{Judged, good, refused}
use Rattle.format.specs.Lent.{cells}
use Rattle.format.specs.Opening.{starts_with, plain_opening}
use Rattle.format.specs.Span.{later_spans, spans}
use Rattle.accepting.specs.Accepting.{NoStrayMark, numbers_in}
use Rattle.std.proofs.lemmas.List.{get_or_past, get_or_default}
use Rattle.accepting.proofs.AcceptSpans.{Front}
use Rattle.accepting.proofs.AcceptFirst.{first_front}
use Rattle.accepting.proofs.AcceptNumbers.{flagged, flagged_none, ahead, ahead_repeated, ahead_next, zero_flagged}
use Rattle.accepting.proofs.AcceptWrong.{LeftAt, left_at, listed_end}

-- 13 by the sectors from the place at i of the list ns on, where the flags s say which numbers were passed.
abbrev pub flagged_from : (t m ns : List ℕ) → List Bool → ℕ → Judged (Unit {0})
flagged_from t m ns s i = let q = get_or ns i (length t) in flagged s q (later_spans (cells (drop q t) (drop q m)))

-- No sector is left.
pub from_none : (t m ns : List ℕ) (s : List Bool) (i : ℕ) → length ns ≤ i → flagged_from t m ns s i ≡ good tt
from_none t m ns s i h = rw (get_or_past ns i (length t) h) (flagged_none s (length t) t m (omega arith))

-- On a track without stray marks, on which sector 0 opens at place p.
module _ (t m ns : List ℕ) (p : ℕ) (u : NoStrayMark p t m ns) (o : starts_with plain_opening (drop p (cells t m)) ≡ true) where
  -- The numbers by the flags of which that of sector 0 is set, which has n cells.
  pub from_zero : (n : ℕ) → n ≡ get_or ns 0 (length t) - p → (number : ℕ) → number ≡ get_or (take (p + n - (p + 6)) (drop (p + 6) t)) 5 0
      → numbers_in [] 0 p (spans (drop p (cells t m))) ≡ flagged_from t m ns (set (replicate 256 false) number true) 0
  from_zero n e number k =
      let f = first_front p t m ns n u o e in
      let q : p + n ≡ get_or ns 0 (length t) = omega (arith, f.opening) in
      zero_flagged t m ns p n u f number k ∙ rw q

  -- The sector at i of the list, which stands at place q and has n cells.
  module _ (i q n : ℕ) (h : i < length ns) (w : q ≡ get_or ns i 0) (e : n ≡ get_or ns (i + 1) (length t) - q) where
    left : LeftAt t m ns (later_spans (cells (drop (p + (get_or ns 0 (length t) - p)) t) (drop (p + (get_or ns 0 (length t) - p)) m))) i
    left = left_at t m ns (p + (get_or ns 0 (length t) - p)) (first_front p t m ns (get_or ns 0 (length t) - p) u o refl).rest i h

    -- Its span is the first of what is left from there on.
    front_at : Front q n (drop q t) (drop q m) (drop i ns)
    front_at =
        let z : n ≡ get_or ns (i + 1) (length t) - get_or ns i 0 = omega arith in
        rw w (ahead t m ns i (get_or ns i 0) n left.left left.reach z)

    module _ (s : List Bool) (number : ℕ) (k : number ≡ get_or (take (q + n - (q + 8)) (drop (q + 8) t)) 5 0) where
      here : get_or ns i (length t) ≡ q
      here = get_or_default ns i (length t) 0 h ∙ sym w

      -- Its number was passed before.
      pub from_repeated : get_or s number false ≡ true → flagged_from t m ns s i ≡ refused (sector_repeated q)
      from_repeated y = rw here (ahead_repeated t m ns i q n front_at number k s y)

      -- It was not passed before.
      pub from_next : get_or s number false ≡ false → flagged_from t m ns s i ≡ flagged_from t m ns (set s number true) (i + 1)
      from_next y =
          let z : get_or ns (i + 1) (length t) ≡ q + n = omega (arith, front_at.opening) in
          rw (here, z) (ahead_next t m ns i q n front_at number k s y)

-- Behind a listed sector the next one starts, or index comes.
pub later_end : (t m ns : List ℕ) (p i : ℕ) → NoStrayMark p t m ns → starts_with plain_opening (drop p (cells t m)) ≡ true → i < length ns
    → (get_or ns i 0 + 8 ≤ get_or ns (i + 1) (length t)) × (get_or ns (i + 1) (length t) ≤ length t)
later_end t m ns p i u o h = listed_end _ t m ns i (first_front p t m ns (get_or ns 0 (length t) - p) u o refl).rest h
