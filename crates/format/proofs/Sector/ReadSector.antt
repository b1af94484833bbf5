-- What a successful reading of a span tells: that every test of it holds, how long the span is, and how long the key and the data are.
use mathlib.Core.Path.{◌≡◌, refl, sym, ap, ◌∙◌}
use Prim.Native.Nat.{ℕ, zero, suc, ◌+◌, ◌≤◌}
use mathlib.Core.Bool.{Bool, true, false}
use mathlib.Core.List.{List}
use lib.ListN.{length, drop, length-take, length-drop}
use native.Mathlib.Omega.{arith}
use Rattle.base.specs.Pick.{pick}
use Rattle.format.specs.Answer.{first_count_missing, count_check_wrong, count_fields_wrong, span_too_short}
use Rattle.format.specs.Fault.{sound}
use Rattle.format.specs.Judged.{good, refused}
use Rattle.format.specs.Opening.{starts_with, plain_opening}
use Rattle.format.specs.Home.{Home}
use Rattle.format.specs.Count.{Settled, key_length, data_length, count_fits, count_closed, count_fields_right}
use Rattle.format.specs.Blocks.{the_key, the_data, blocks_at, judge_fit}
use Rattle.format.specs.Block.{block_end, least_gap, blocks_fit, test_key, test_data, key_info, data_info, block_info}
use Rattle.format.specs.Sector.{Sector, opening_length, is_first, sector_in, judge_count, read_blocks, judge_sector, read_span}
use Rattle.format.specs.Accept.{Placed, placed_rest}
use Rattle.format.proofs.Base.Judged.{good_inj, then_good, require_good, require_holds}
use Rattle.format.proofs.Sector.Sizes.{rest_least}
use Rattle.format.proofs.Sector.BlocksJudged.{fit_good, part_good}
use Rattle.format.proofs.Sector.BlockEnd.{key_in_offset, data_in_end, end_in_span}

-- The rest of the span g in position i.
abbrev pub rest_of : ℕ → List ℕ → List ℕ
rest_of i g = drop (opening_length (is_first i)) g

-- The span g in position i passes every test of reading, and shows the sector s.
pub record ReadAs (h : Home) (i : ℕ) (x : Settled) (last : Bool) (g : List ℕ) (s : Sector) : Type 0 where
  pub opened : i ≡ 0 → starts_with plain_opening g ≡ true
  pub count_fits_holds : count_fits (rest_of i g) ≡ true
  pub count_closed_holds : count_closed (rest_of i g) ≡ true
  pub fields_right : count_fields_right h i x (rest_of i g) ≡ true
  pub blocks_fit_holds : blocks_fit last (rest_of i g) ≡ true
  pub key_right : test_key (rest_of i g) ≡ sound
  pub data_right : test_data (rest_of i g) ≡ sound
  pub sector_is : s ≡ sector_in (is_first i) (rest_of i g)

count_inv : (h : Home) (i : ℕ) (x : Settled) (p : ℕ) (r : List ℕ) (u : Unit {0}) → judge_count h i x p r ≡ good u
    → (count_fits r ≡ true) × ((count_closed r ≡ true) × (count_fields_right h i x r ≡ true))
unfolding judge_count
count_inv h i x p r u e =
    let a = require_good (count_fits r) (span_too_short p) _ u e in
    let b = require_good (count_closed r) (count_check_wrong p) _ u a.1 in
    let c = require_good (count_fields_right h i x r) (count_fields_wrong p) _ u b.1 in
    (a.0, (b.0, c.0))

-- A count that fits, is closed and has its fields within the rule is judged good.
pub count_make : (h : Home) (i : ℕ) (x : Settled) (p : ℕ) (r : List ℕ) → count_fits r ≡ true → count_closed r ≡ true → count_fields_right h i x r ≡ true
    → judge_count h i x p r ≡ good tt
unfolding judge_count
count_make h i x p r a b c = rw (a, b, c)

blocks_inv : (first : Bool) (p : ℕ) (last : Bool) (r : List ℕ) (s : Sector) → read_blocks first p last r ≡ good s
    → (blocks_fit last r ≡ true) × ((test_key r ≡ sound) × ((test_data r ≡ sound) × (s ≡ sector_in first r)))
unfolding read_blocks
blocks_inv first p last r s e =
    let q : ℕ = p + opening_length first in
    let a = then_good (judge_fit p last r) _ s e in
    let b = then_good (blocks_at q r).key _ s a.2 in
    let c = then_good (blocks_at q r).body _ s b.2 in (
      fit_good p last r a.0 a.1,
      ((part_good the_key q r b.0 b.1).0, ((part_good the_data q r c.0 c.1).0, sym (good_inj (sector_in first r) s c.2))),
    )

blocks_make : (first : Bool) (p : ℕ) (last : Bool) (r : List ℕ) (s : Sector) → blocks_fit last r ≡ true → test_key r ≡ sound → test_data r ≡ sound → s ≡ sector_in first r
    → read_blocks first p last r ≡ good s
unfolding read_blocks judge_fit blocks_at
blocks_make first p last r s a b c e = rw (a, b, c, e)

-- A reading that gives a sector has passed every test.
pub read_inv : (h : Home) (i : ℕ) (x : Settled) (p : ℕ) (last : Bool) (g : List ℕ) (s : Sector) → read_span h i x p last g ≡ good s → ReadAs h i x last g s
unfolding read_span judge_sector
read_inv h zero x p last g s e =
    let o = require_good (starts_with plain_opening g) (first_count_missing p) _ s e in
    let t = then_good (judge_count h 0 x p (drop 6 g)) _ s o.1 in
    let c = count_inv h 0 x p (drop 6 g) t.0 t.1 in
    let b = blocks_inv true p last (drop 6 g) s t.2 in
    record {
      opened = λ _. o.0;
      count_fits_holds = c.0;
      count_closed_holds = c.1.0;
      fields_right = c.1.1;
      blocks_fit_holds = b.0;
      key_right = b.1.0;
      data_right = b.1.1.0;
      sector_is = b.1.1.1;
    }
read_inv h (suc i) x p last g s e =
    let t = then_good (judge_count h (suc i) x p (drop 8 g)) _ s e in
    let c = count_inv h (suc i) x p (drop 8 g) t.0 t.1 in
    let b = blocks_inv false p last (drop 8 g) s t.2 in
    record {
      opened = λ q. absurd (omega arith);
      count_fits_holds = c.0;
      count_closed_holds = c.1.0;
      fields_right = c.1.1;
      blocks_fit_holds = b.0;
      key_right = b.1.0;
      data_right = b.1.1.0;
      sector_is = b.1.1.1;
    }

-- A sector that is read stands in the position of its span.
pub read_first : (h : Home) (i : ℕ) (x : Settled) (last : Bool) (g : List ℕ) (s : Sector) → ReadAs h i x last g s → s.first ≡ is_first i
unfolding sector_in
read_first h i x last g s v = ap (λ (y : Sector). y.first) v.sector_is

-- What follows the opening of a sector's count, by the position of its span.
pub placed_rest_lem : (y : Placed) (i : ℕ) → y.sector.first ≡ is_first i → placed_rest y ≡ rest_of i y.span
placed_rest_lem y i f = ap (λ (b : Bool). drop (opening_length b) y.span) f

-- A span that passes every test is read, at any place.
pub read_make : (h : Home) (i : ℕ) (x : Settled) (p : ℕ) (last : Bool) (g : List ℕ) (s : Sector) → ReadAs h i x last g s → read_span h i x p last g ≡ good s
unfolding read_span judge_sector
read_make h zero x p last g s v =
    require_holds (starts_with plain_opening g) (first_count_missing p) _ (good s) (v.opened refl)
    (rw (count_make h 0 x p (drop 6 g) v.count_fits_holds v.count_closed_holds v.fields_right)
    (blocks_make true p last (drop 6 g) s v.blocks_fit_holds v.key_right v.data_right v.sector_is))
read_make h (suc i) x p last g s v =
    rw (count_make h (suc i) x p (drop 8 g) v.count_fits_holds v.count_closed_holds v.fields_right)
    (blocks_make false p last (drop 8 g) s v.blocks_fit_holds v.key_right v.data_right v.sector_is)

-- A span whose count is right, and in which the blocks and the least gap do not fit, is refused by 9.
pub read_short : (h : Home) (i : ℕ) (x : Settled) (p : ℕ) (last : Bool) (g : List ℕ) → (i ≡ 0 → starts_with plain_opening g ≡ true)
    → count_fits (rest_of i g) ≡ true → count_closed (rest_of i g) ≡ true → count_fields_right h i x (rest_of i g) ≡ true → blocks_fit last (rest_of i g) ≡ false
    → read_span h i x p last g ≡ refused (span_too_short p)
unfolding read_span judge_sector read_blocks judge_fit
read_short h zero x p last g o a b c f =
    require_holds (starts_with plain_opening g) (first_count_missing p) _ (refused (span_too_short p)) (o refl) (rw (count_make h 0 x p (drop 6 g) a b c, f))
read_short h (suc i) x p last g o a b c f = rw (count_make h (suc i) x p (drop 8 g) a b c, f)

-- A span whose count fits but is not closed is refused by 7.
pub read_unclosed : (h : Home) (i : ℕ) (x : Settled) (p : ℕ) (last : Bool) (g : List ℕ) → (i ≡ 0 → starts_with plain_opening g ≡ true)
    → count_fits (rest_of i g) ≡ true → count_closed (rest_of i g) ≡ false → read_span h i x p last g ≡ refused (count_check_wrong p)
unfolding read_span judge_sector judge_count
read_unclosed h zero x p last g o a b =
    require_holds (starts_with plain_opening g) (first_count_missing p) _ (refused (count_check_wrong p)) (o refl) (rw (a, b))
read_unclosed h (suc i) x p last g o a b = rw (a, b)

-- What reading tells of lengths: the blocks and the least gap lie in the span, and the key and the data are as long as the count says.
pub record Lengths (i : ℕ) (last : Bool) (g : List ℕ) (s : Sector) : Type 0 where
  pub reaches : opening_length (is_first i) + block_end (rest_of i g) + least_gap last ≤ length g
  pub key_length_holds : length s.key_bytes ≡ key_length (rest_of i g)
  pub data_length_holds : length s.data_bytes ≡ data_length (rest_of i g)

-- The key of blocks that fit is as long as the count says.
pub fit_key : (last : Bool) (r : List ℕ) → blocks_fit last r ≡ true → length (key_info r) ≡ key_length r
unfolding key_info block_info
fit_key last r e = simp (length-take, length-drop) (omega (arith, end_in_span r last e, key_in_offset r, data_in_end r))

-- So is their data.
pub fit_data : (last : Bool) (r : List ℕ) → blocks_fit last r ≡ true → length (data_info r) ≡ data_length r
unfolding data_info block_info
fit_data last r e = simp (length-take, length-drop) (omega (arith, end_in_span r last e, data_in_end r))

-- The lengths of what is read.
pub read_length : (h : Home) (i : ℕ) (x : Settled) (last : Bool) (g : List ℕ) (s : Sector) → ReadAs h i x last g s → Lengths i last g s
unfolding sector_in
read_length h i x last g s v =
    let r : List ℕ = rest_of i g in
    let k : length s.key_bytes ≡ key_length r = ap (λ (z : Sector). length z.key_bytes) v.sector_is ∙ fit_key last r v.blocks_fit_holds in
    let d : length s.data_bytes ≡ data_length r = ap (λ (z : Sector). length z.data_bytes) v.sector_is ∙ fit_data last r v.blocks_fit_holds in
    record {
      reaches = omega (arith, end_in_span r last v.blocks_fit_holds, data_in_end r, length-drop (opening_length (is_first i)) g);
      key_length_holds = k;
      data_length_holds = d;
    }

-- A span that is read has at least 57 cells in position 0 and 59 later; at least 49 and 51 where it runs to index.
pub span_least : (h : Home) (i : ℕ) (x : Settled) (last : Bool) (g : List ℕ) (s : Sector) → ReadAs h i x last g s
    → opening_length (is_first i) + pick last 43 51 ≤ length g
span_least h i x last g s v =
    let r : List ℕ = rest_of i g in
    omega (arith, (read_length h i x last g s v).reaches, key_in_offset r, data_in_end r, rest_least last)
