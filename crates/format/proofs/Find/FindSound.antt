-- What Find hands out on any track, sound or damaged, is the information of a count that carries S: it lies in that count's span, and its own check passes.
use mathlib.Core.Path.{◌≡◌, refl, sym, ap, ◌∙◌, subst}
use mathlib.Core.Logic.{◌⊎◌, inl, inr}
use Prim.Native.Nat.{ℕ, ◌+◌, ◌≤◌}
use native.Mathlib.Omega.{arith}
use mathlib.Core.Bool.{true, false}
use mathlib.Core.List.{List, [], ◌∷◌, ◌++◌}
use lib.ListN.{length, take, drop, length-drop}
use lib.Seq.{take-append-le, drop-append-le, drop-drop}
use lib.Dec.{eqb}
use borrow.Author.Tests.{eqb-true}
use Rattle.format.specs.Answer.{lent_wrong}
use Rattle.format.specs.Judged.{good}
use Rattle.format.specs.Lent.{lent_for_reading, cells}
use Rattle.format.specs.Opening.{starts_with, plain_opening, closing, closed_after}
use Rattle.format.specs.Count.{count_number}
use Rattle.format.specs.Block.{blocks_fit}
use Rattle.format.specs.Candidate.{Candidate, candidates}
use Rattle.format.specs.Find.{part_of, carrying, only, candidate_part, find_cells, find}
use Rattle.format.specs.Blocks.{Wanted, Part, judge_fit, offset_of, length_of, info_of}
use Rattle.format.proofs.Base.Judged.{then_good, require_good}
use Rattle.base.proofs.Tests.{cases, false-true, and_both, and_make}
use Rattle.base.specs.Lists.{Member}
use Rattle.format.proofs.Cells.Field.{block_parts}
use Rattle.format.proofs.Find.CandidateBytes.{rest_in_track}
use Rattle.format.proofs.Find.FindParts.{rest_place, info_is, Right, only_is, carrying_member, found_right}
use Rattle.format.proofs.Sector.BlocksJudged.{block_fits, fit_good}

-- The part, with its check and closing byte, lies in the span of the count x.
abbrev pub InSpan : Candidate → Part → Type 0
InSpan x part = (rest_place x ≤ part.start) × (part.start + part.size + 3 ≤ rest_place x + length x.rest)

-- The part is handed out for the key or the data of sector s: it is that of the candidate x, the only one that carries s.
pub record HandedOut (s : ℕ) (w : Wanted) (t m : List ℕ) (part : Part) (x : Candidate) : Type 0 where
  pub member : Member x (candidates (cells t m))
  pub carries : count_number x.rest ≡ s
  pub alone : carrying s (candidates (cells t m)) ≡ x ∷ []
  pub size_is : part.size ≡ length_of w x.rest
  pub bytes : part_of t part ≡ info_of w x.rest
  pub inside : (part.size ≡ 0) ⊎ InSpan x part
  pub opened : (part.size ≡ 0) ⊎ (starts_with plain_opening (drop (rest_place x + offset_of w x.rest) t) ≡ true)
  pub closed : (part.size ≡ 0) ⊎ (closed_after part.size (drop part.start t) ≡ true)

starts_with_more : (o xs ys : List ℕ) → starts_with o xs ≡ true → starts_with o (xs ++ ys) ≡ true
starts_with_more [] xs ys e = refl
starts_with_more (x ∷ o) [] ys e = false-true e
starts_with_more (x ∷ o) (y ∷ xs) ys e = let k = and_both (eqb x y) (starts_with o xs) e in and_make k.0 (starts_with_more o xs ys k.1)

-- A field that is closed stays closed whatever follows.
closed_append : (n : ℕ) (xs ys : List ℕ) → n ≤ length xs → closed_after n xs ≡ true → closed_after n (xs ++ ys) ≡ true
unfolding closed_after
closed_append n xs ys l e = rw (take-append-le n xs ys l, drop-append-le n xs ys l) (starts_with_more (closing (take n xs)) (drop n xs) ys e)

behind_front : (t r z : List ℕ) (q i : ℕ) → drop q t ≡ r ++ z → i ≤ length r → drop (q + i) t ≡ drop i r ++ z
behind_front t r z q i e l = sym (drop-drop i q t) ∙ ap (drop i) e ∙ drop-append-le i r z l

module _ (w : Wanted) (t m : List ℕ) (x : Candidate) (part : Part) (k : Member x (candidates (cells t m))) (f : blocks_fit x.last x.rest ≡ true) (v : Right w x part) where
  -- The length asked for, the block, and what follows its opening.
  abbrev n : ℕ
  n = length_of w x.rest

  abbrev block : List ℕ
  block = drop (offset_of w x.rest) x.rest

  abbrev info : List ℕ
  info = drop 6 block

  fits : offset_of w x.rest + 6 + n + 3 ≤ length x.rest
  fits = block_fits w x.last x.rest f

  length_info : n ≤ length info
  length_info = omega (arith, fits, length-drop 6 block, length-drop (offset_of w x.rest) x.rest)

  block_start : (z : List ℕ) × (drop (rest_place x + offset_of w x.rest) t ≡ block ++ z)
  block_start =
      let b = rest_in_track t m x k in
      (b.0, behind_front t x.rest b.0 (rest_place x) (offset_of w x.rest) b.1 (omega (arith, fits)))

  -- A part that is not empty starts at the information.
  part_start : eqb n 0 ≡ false → (z : List ℕ) × (drop part.start t ≡ info ++ z)
  part_start e =
      let b = block_start in (
        b.0,
        ap (λ (p : ℕ). drop p t) (v.start_is e)
            ∙ behind_front t block b.0 (rest_place x + offset_of w x.rest) 6 b.1 (omega (arith, fits, length-drop (offset_of w x.rest) x.rest)),
      )

  -- An empty part shows nothing, and of any other this holds.
  unless_empty : {X : Type 0} → (eqb n 0 ≡ false → X) → (part.size ≡ 0) ⊎ X
  unless_empty g = cases (eqb n 0) (λ e. inl (v.size_is ∙ eqb-true n 0 e)) (λ e. inr (g e))

  part_inside : (part.size ≡ 0) ⊎ InSpan x part
  part_inside = unless_empty (λ e. (omega (arith, v.start_is e), omega (arith, v.start_is e, v.size_is, fits)))

  part_bytes : part_of t part ≡ info_of w x.rest
  unfolding part_of
  part_bytes =
      cases (eqb n 0)
      (λ e. let z : n ≡ 0 = eqb-true n 0 e in rw (info_is w x.rest, v.size_is, z))
      (λ e. let b = part_start e in rw (info_is w x.rest, v.size_is, b.1) (take-append-le n info b.0 length_info))

  part_opened : (part.size ≡ 0) ⊎ (starts_with plain_opening (drop (rest_place x + offset_of w x.rest) t) ≡ true)
  part_opened = unless_empty (λ e. let b = block_start in rw b.1 (starts_with_more plain_opening block b.0 (block_parts n block (v.right e)).0))

  part_closed : (part.size ≡ 0) ⊎ (closed_after part.size (drop part.start t) ≡ true)
  part_closed = unless_empty (λ e. let b = part_start e in rw (v.size_is, b.1) (closed_append n info b.0 length_info (block_parts n block (v.right e)).1))

-- Find hands out nothing else.
pub find_hands_out : (s : ℕ) (w : Wanted) (t m : List ℕ) (part : Part) → find s w t m ≡ good part → (x : Candidate) × HandedOut s w t m part x
unfolding find find_cells candidate_part
find_hands_out s w t m part e =
    let c : List ℕ = cells t m in
    let a = require_good (lent_for_reading t m) lent_wrong (find_cells s w c) part e in
    let b = then_good (only (carrying s (candidates c))) _ part a.1 in
    let x : Candidate = b.0 in
    let d = then_good (judge_fit x.place x.last x.rest) _ part b.2 in
    let f : blocks_fit x.last x.rest ≡ true = fit_good x.place x.last x.rest d.0 d.1 in
    let o : carrying s (candidates c) ≡ x ∷ [] = only_is (carrying s (candidates c)) x b.1 in
    let h = carrying_member s (candidates c) x (subst (Member x) (sym o) (inl refl)) in
    let v : Right w x part = found_right w x part d.2 in (
      x,
      record {
        member = h.0;
        carries = h.1;
        alone = o;
        size_is = v.size_is;
        bytes = part_bytes w t m x part h.0 f v;
        inside = part_inside w t m x part h.0 f v;
        opened = part_opened w t m x part h.0 f v;
        closed = part_closed w t m x part h.0 f v;
      },
    )
