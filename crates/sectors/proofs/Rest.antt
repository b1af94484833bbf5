-- What follows a count's opening in its span, as bytes of the lent track.
use mathlib.Core.Path.{◌≡◌, sym, ap, ◌∙◌}
use Prim.Native.Nat.{ℕ, ◌+◌, ◌-◌, ◌≤◌, ◌<◌}
use native.Mathlib.Omega.{arith}
use mathlib.Core.Bool.{Bool, true, false}
use mathlib.Core.List.{List, []}
use lib.ListN.{length, take, drop, length-drop}
use lib.Seq.{drop-drop, take-append-le, drop-append-le}
use lib.Dec.{leb, eqb}
use borrow.Author.Tests.{le-leb, lt-leb, leb-true, eq-eqb, ne_eqb}
use mathlib.Core.Logic.{◌⊎◌, inl, inr}
use Rattle.std.proofs.Common.{Bor}
use Rattle.std.specs.Prelude.{Option, None, Some, unwrap_or}
use Rattle.std.specs.Slice.{IsGetRangeResult}
use Rattle.base.specs.Pick.{pick}
use Rattle.format.specs.Lent.{cells}
use Rattle.format.specs.Count.{count_flag, count_address, count_number, key_length, data_length}
use Rattle.format.specs.Block.{key_offset, data_offset, block_end}
use Rattle.format.specs.Span.{runs_to_index, span_length, span_rest}
use Rattle.format.specs.Sector.{opening_length}
use Rattle.base.proofs.Tests.{cases}
use Rattle.base.proofs.Lists.{none_long}
use Rattle.format.proofs.Find.CandidateBytes.{span_rest_length, span_rest_front, span_rest_bytes}
use Rattle.search.proofs.Run.{span_le}
use Rattle.format.proofs.Track.Pairs.{length_cells}
use Rattle.sectors.specs.declared.steps.Step.{Step as StepCode}
use Rattle.sectors.specs.SectorAt.{SectorAt, sector_fields, nowhere, last_first_count, opens_first, rest_at, sector_at, StepsOver}

-- A place in what follows a count's opening is one in the track.
pub span_rest_place : (t m : List ℕ) (p o i n : ℕ) → i + n ≤ length (span_rest o (drop p (cells t m)))
    → take n (drop (p + o + i) t) ≡ take n (drop i (span_rest o (drop p (cells t m))))
span_rest_place t m p o i n l =
    let r : List ℕ = span_rest o (drop p (cells t m)) in
    let f = span_rest_front t m p o in
    let z : List ℕ = f.0 in
    ap (take n) (sym (drop-drop i (p + o) t) ∙ ap (drop i) f.1 ∙ drop-append-le i r z (omega arith))
    ∙ take-append-le n (drop i r) z (omega (arith, length-drop i r))

-- The opening of a count has at least 6 bytes.
pub opening_least : (first : Bool) → 6 ≤ opening_length first
opening_least true = omega arith
opening_least false = omega arith

-- A count that opens early enough is sector 0's,
pub opens_low : (p : ℕ) → p ≤ last_first_count → opens_first p ≡ true
unfolding opens_first
opens_low p h = le-leb p last_first_count h

-- and every other one is a later sector's.
pub opens_high : (p : ℕ) → last_first_count < p → opens_first p ≡ false
unfolding opens_first
opens_high p h = lt-leb p last_first_count h

-- The opening of the count at place p has o cells, and its span n.
module _ (t m : List ℕ) (p o n : ℕ) (w : o ≡ opening_length (opens_first p)) (s : n ≡ span_length o (drop p (cells t m))) where
  -- The span ends with the track at the latest.
  pub span_within : n ≤ length t - p
  span_within = omega (arith, span_le o (drop p (cells t m)), length-drop p (cells t m), length_cells t m)

  -- What follows the opening has this length.
  rest_length : length (rest_at p (cells t m)) ≡ n - o
  unfolding rest_at
  rest_length = ap (λ (k : ℕ). length (span_rest k (drop p (cells t m)))) (sym w) ∙ span_rest_length o (drop p (cells t m)) ∙ ap (λ (k : ℕ). k - o) (sym s)

  -- The span ends before its opening does: nothing follows.
  pub rest_none : n < o → [] ≡ rest_at p (cells t m)
  rest_none h = sym (none_long (rest_at p (cells t m)) (omega (arith, rest_length)))

  -- What follows the opening are these bytes of the track.
  pub rest_bytes : take (p + n - (p + o)) (drop (p + o) t) ≡ rest_at p (cells t m)
  unfolding rest_at
  rest_bytes = sym (span_rest_bytes o p (p + n - (p + o)) t m (omega arith)) ∙ ap (λ (i : ℕ). span_rest i (drop p (cells t m))) w

  -- They are what is got of the track there, which is nothing where the span ends before its opening does.
  pub rest_got : (r : Option (Bor (List ℕ))) (d : Bor (List ℕ)) → d.now ≡ [] → IsGetRangeResult t (p + o) (p + n) r → (unwrap_or r d).now ≡ rest_at p (cells t m)
  rest_got None d e h = e ∙ rest_none (go h.0)
    where
      go : (p + n < p + o) ⊎ (length t < p + n) → n < o
      go (inl l) = omega arith
      go (inr l) = omega (arith, span_within, w, opening_least (opens_first p))
  rest_got (Some x) d e h = h.0.2 ∙ rest_bytes

  -- The sector at place p by what follows the opening.
  pub sector_here : p ≤ 4002 → (last : Bool) → last ≡ runs_to_index o (drop p (cells t m)) → (r : List ℕ) → r ≡ rest_at p (cells t m)
      → sector_fields (p + o) (p + n) last r ≡ sector_at p (cells t m)
  unfolding sector_at
  sector_here h last l r e = rw (le-leb p 4002 h) (cc)

  -- The step over it reads its number there.
  pub step_here : p ≤ 4002 → (r : List ℕ) → r ≡ rest_at p (cells t m) → (s : StepCode) → s.number ≡ count_number r → s.next ≡ p + n → s.last ≡ runs_to_index o (drop p (cells t m))
      → StepsOver s p (cells t m)
  unfolding sector_fields
  step_here h r e s a b d =
      let k = sector_here h s.last d r e in
      (a ∙ ap (λ (z : SectorAt). z.number) k, b ∙ ap (λ (z : SectorAt). z.next) k, ap (λ (z : SectorAt). z.last) k)

-- Behind the longest track there is no sector,
pub sector_past : (p : ℕ) (c : List ℕ) → 4002 < p → nowhere ≡ sector_at p c
unfolding sector_at
sector_past p c h = rw (lt-leb p 4002 h)

-- and no step.
pub step_past : (p : ℕ) (c : List ℕ) → 4002 < p → (0 ≡ (sector_at p c).number) × (0 ≡ (sector_at p c).next) × (true ≡ (sector_at p c).last)
step_past p c h =
    let k = sector_past p c h in
    (ap (λ (z : SectorAt). z.number) k, ap (λ (z : SectorAt). z.next) k, ap (λ (z : SectorAt). z.last) k)

-- A step that goes on starts on the longest track, and does not go beyond the cells.
pub next_within : (p : ℕ) (c : List ℕ) → p < (sector_at p c).next → (p ≤ 4002) × ((sector_at p c).next ≤ length c)
unfolding sector_at sector_fields
next_within p c h = cases (leb p 4002) low high
  where
    o : ℕ
    o = opening_length (opens_first p)

    low : leb p 4002 ≡ true → (p ≤ 4002) × ((sector_at p c).next ≤ length c)
    low e =
        let n : (sector_at p c).next ≡ p + span_length o (drop p c) = rw e in
        (leb-true p 4002 e, omega (arith, h, n, span_le o (drop p c), length-drop p c))

    high : leb p 4002 ≡ false → (p ≤ 4002) × ((sector_at p c).next ≤ length c)
    high e = let n : (sector_at p c).next ≡ 0 = rw e in absurd (omega (arith, h, n))

-- The same of what a step tells.
pub onward : (t m : List ℕ) (p : ℕ) (x : StepCode) → StepsOver x p (cells t m) → p < x.next
    → (p ≤ 4002) × (x.next ≤ length (cells t m)) × (x.next ≤ length t)
onward t m p x e h =
    let w = next_within p (cells t m) (omega (arith, e.1)) in
    (w.0, omega (arith, w.1, e.1), omega (arith, w.1, e.1, length_cells t m))

-- The place of the key's information: 0 where KL = 0,
pub key_place_none : (n q v : ℕ) → n ≡ 0 → v ≡ 0 → v ≡ pick (eqb n 0) 0 (q + key_offset + 6)
key_place_none n q v z e = rw (eq-eqb n 0 z) e

-- and else behind the key's opening.
pub key_place_some : (n q v : ℕ) → (n ≡ 0 → ⊥) → v ≡ q + key_offset + 6 → v ≡ pick (eqb n 0) 0 (q + key_offset + 6)
key_place_some n q v z e = rw (ne_eqb n 0 z) e

-- The sector with these fields is the one of which r follows the count's opening.
pub fields_made : (q next : ℕ) (last : Bool) (r : List ℕ) (s : SectorAt) → s.flag ≡ count_flag r → s.number ≡ count_number r → s.key_length ≡ key_length r → s.data_length ≡ data_length r
    → s.key_place ≡ pick (eqb s.key_length 0) 0 (q + key_offset + 6) → s.data_place ≡ q + data_offset r + 6 → s.end ≡ q + block_end r → s.next ≡ next → s.last ≡ last → s.address ≡ count_address r
    → s ≡ sector_fields q next last r
unfolding sector_fields
fields_made q next last r s f n k d kp dp e x l a =
    let key : s.key_place ≡ pick (eqb (key_length r) 0) 0 (q + key_offset + 6) = kp ∙ ap (λ (z : ℕ). pick (eqb z 0) 0 (q + key_offset + 6)) k in
    λ i. record {
      flag = f i;
      number = n i;
      key_length = k i;
      data_length = d i;
      key_place = key i;
      data_place = dp i;
      end = e i;
      next = x i;
      last = l i;
      address = a i;
    }
