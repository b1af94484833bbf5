-- Where the last block ends, summed sector by sector.
use mathlib.Core.Path.{◌≡◌, refl, sym, ap, ap₂, ◌∙◌}
use Prim.Native.Nat.{ℕ, ◌+◌, ◌*◌, ◌≤◌, ◌<◌}
use native.Mathlib.Omega.{arith}
use mathlib.Core.Bool.{Bool, true, false}
use mathlib.Core.List.{List, [], ◌∷◌}
use lib.ListN.{length}
use Rattle.format.specs.Lent.{cells}
use Rattle.format.specs.Block.{key_size}
use Rattle.format.specs.Sector.{Sector, opening_length}
use Rattle.format.specs.Accept.{Placed, sectors_of}
use Rattle.format.specs.GapRule.{GapRule, gap_by, rule_right}
use Rattle.format.specs.Written.{data_size, gap_after, written_sector, reach, sector_size}
use Rattle.format.proofs.Sector.Sizes.{key_size_least, data_size_least}
use Rattle.format.proofs.Written.Gap.{rule_most}
use Rattle.format.proofs.Sector.ReadBack.{length_written}
use Rattle.sectors.specs.declared.SectorAt.{SectorAt as SectorCode}
use Rattle.sectors.specs.SectorAt.{last_first_count, opens_first, sector_at, as_sector_at}
use Rattle.sectors.proofs.Rest.{opening_least, opens_high}
use Rattle.sectors.specs.From.{SectorsFrom, Remaining}
use Rattle.sectors.proofs.From.{Step, step_at, steps_end}
use Rattle.writer.specs.Remaining.{farthest}

-- A sector's block ends where its written form does, and the others follow its gap.
pub farthest_from : (rule : GapRule) (q : ℕ) (s : Sector) (xs : List Placed)
    → q + reach (gap_by rule) (s ∷ sectors_of xs) ≡ farthest rule (q + length (written_sector s)) (gap_after (gap_by rule) s) xs
unfolding reach farthest
farthest_from rule q s [] = omega arith
farthest_from rule q s (x ∷ xs) = omega arith

-- One sector more.
pub farthest_step : (rule : GapRule) (end gap : ℕ) (xs : List Placed) (x : Placed) (later : List Placed) → xs ≡ x ∷ later
    → farthest rule end gap xs ≡ farthest rule (end + gap + length (written_sector x.sector)) (gap_after (gap_by rule) x.sector) later
unfolding farthest
farthest_step rule end gap xs x later e =
    ap (farthest rule end gap) e ∙ omega (arith, farthest_from rule (end + gap) x.sector later)

-- No sector more.
pub farthest_none : (rule : GapRule) (end gap : ℕ) (xs : List Placed) → xs ≡ [] → farthest rule end gap xs ≡ end
unfolding farthest
farthest_none rule end gap xs e = ap (farthest rule end gap) e ∙ omega arith

-- A gap is at most what its sector takes.
gap_below : (rule : GapRule) → rule_right rule ≡ true → (b : Bool) (kl dl : ℕ) → gap_by rule kl dl ≤ sector_size b kl dl
unfolding sector_size
gap_below rule right b kl dl = omega (arith, rule_most rule right kl dl, opening_least b, key_size_least kl, data_size_least dl)

-- What a sector that is stepped over takes, and its gap; `first` says that it is sector 0.
module _ (rule : GapRule) (t m : List ℕ) (p : ℕ) (first : Bool) (place : opens_first p ≡ first) (xs : List Placed) (s : SectorCode) (v : Step t m p xs s) where
  -- The written sector takes what the numbers read say.
  pub size_stepped : length (written_sector v.x.sector) ≡ sector_size first s.key_length s.data_length
  size_stepped =
      length_written v.x.sector
      ∙ ap (λ (b : Bool). sector_size b (length v.x.sector.key_bytes) (length v.x.sector.data_bytes)) (v.first_is ∙ place)
      ∙ ap₂ (sector_size first) (sym v.key_length_is) (sym v.data_length_is)

  -- So does its gap.
  pub gap_stepped : gap_after (gap_by rule) v.x.sector ≡ gap_by rule s.key_length s.data_length
  unfolding gap_after
  gap_stepped = ap₂ (gap_by rule) (sym v.key_length_is) (sym v.data_length_is)

  -- Its block ends no earlier than its written form does.
  pub end_stepped : p + sector_size first s.key_length s.data_length ≤ s.end
  unfolding sector_size
  end_stepped =
      omega (arith, ap opening_length place, ap key_size v.key_length_is, ap data_size v.data_length_is, v.end_is, v.stepping.end_size)

  -- It takes no more than it took, and its gap at most as much.
  pub grows_stepped : rule_right rule ≡ true → sector_size first s.key_length s.data_length + gap_by rule s.key_length s.data_length + 2 * p ≤ 2 * s.next
  grows_stepped right = omega (arith, end_stepped, v.end_inside, gap_below rule right first s.key_length s.data_length)

-- The sectors from place p on, with which the end is the goal.
pub record Ahead (rule : GapRule) (t m : List ℕ) (p end gap goal : ℕ) : Type 0 where
  pub remaining : List Placed
  pub steps : SectorsFrom t m p remaining
  pub same : farthest rule end gap remaining ≡ goal

-- The sum has come to place p.
abbrev pub Summing : GapRule → List ℕ → List ℕ → ℕ → ℕ → ℕ → ℕ → ℕ → ℕ → Type 0
Summing rule t m p₀ end₀ gap₀ p end gap =
    (last_first_count < p) × (end + gap ≤ 200000 + 2 * p) × ((all : List Placed) → SectorsFrom t m p₀ all → Ahead rule t m p end gap (farthest rule end₀ gap₀ all))
    × (rule_right rule ≡ true)

-- It starts so.
pub sum_start : (rule : GapRule) (t m : List ℕ) (p end gap : ℕ) → (last_first_count < p) × (end + gap ≤ 200000) × (rule_right rule ≡ true) → Summing rule t m p end gap p end gap
sum_start rule t m p end gap h = (h.0, omega (arith, h.1), λ all f. record { remaining = all; steps = f; same = refl }, h.2)

module _ (rule : GapRule) (t m : List ℕ) (p₀ end₀ gap₀ p end gap : ℕ) (u : Remaining t m p₀) (i : Summing rule t m p₀ end₀ gap₀ p end gap) where
  -- At index it is done.
  pub sum_end : length t ≤ p → (all : List Placed) → SectorsFrom t m p₀ all → end ≡ farthest rule end₀ gap₀ all
  sum_end l all f =
      let r = i.2 all f in
      let z : r.remaining ≡ [] = steps_end t m p r.remaining r.steps (omega (arith, u.cells_length)) in
      sym (farthest_none rule end gap r.remaining z) ∙ r.same

  module _ (l : p < length t) (x : SectorCode) (e : as_sector_at x ≡ sector_at p (cells t m)) where
    -- The step over the sector at p.
    pub sum_step_lem : (all : List Placed) (f : SectorsFrom t m p₀ all) → Step t m p (i.2 all f).remaining x
    sum_step_lem all f = let r = i.2 all f in step_at t m p r.remaining x r.steps (omega (arith, u.cells_length)) e

    -- The step that the requirement shows.
    abbrev pub sum_step : Step t m p (i.2 u.sectors u.steps).remaining x
    sum_step = sum_step_lem u.sectors u.steps

    -- Each step goes on, and not beyond index.
    pub sum_onward : (p + 49 ≤ x.next) × (x.next ≤ length t)
    sum_onward = (sum_step.onward, omega (arith, sum_step.next_inside, u.cells_length))

    -- KL and DL of the sector at p fit their bytes.
    pub sum_lengths : (x.key_length ≤ 255) × (x.data_length ≤ 65535)
    sum_lengths = (sum_step.key_fits, sum_step.data_fits)

    -- The sum stays far below what a number can hold.
    pub sum_bound : end + gap + sector_size false x.key_length x.data_length + gap_by rule x.key_length x.data_length ≤ 200000 + 2 * x.next
    sum_bound = omega (arith, i.1, grows_stepped rule t m p false (opens_high p i.0) (i.2 u.sectors u.steps).remaining x sum_step i.3)

    -- The sum with the sector at p.
    pub sum_next : (n g : ℕ) → n ≡ sector_size false x.key_length x.data_length → g ≡ gap_by rule x.key_length x.data_length
        → Summing rule t m p₀ end₀ gap₀ x.next (end + gap + n) g
    sum_next n g en eg = (
      sum_step.rest_behind,
      omega (arith, en, eg, sum_bound),
      λ all f.
          let r = i.2 all f in
          let v = sum_step_lem all f in
          let size : n ≡ length (written_sector v.x.sector) = en ∙ sym (size_stepped rule t m p false (opens_high p i.0) r.remaining x v) in
          let gaps : g ≡ gap_after (gap_by rule) v.x.sector = eg ∙ sym (gap_stepped rule t m p false (opens_high p i.0) r.remaining x v) in
          record {
            remaining = v.later;
            steps = v.rest;
            same =
                ap₂ (λ (k h : ℕ). farthest rule (end + gap + k) h v.later) size gaps
                ∙ sym (farthest_step rule end gap r.remaining v.x v.later v.split) ∙ r.same;
          },
      i.3,
    )
