-- What is written for a sector reads back as that sector, and what reads as a sector can be written.
use mathlib.Core.Path.{◌≡◌, refl, sym, ap, ◌∙◌, subst}
use Prim.Native.Nat.{ℕ, zero, suc, ◌+◌, ◌≤◌}
use mathlib.Core.Bool.{Bool, true, false}
use mathlib.Core.List.{List, [], ◌∷◌, ◌++◌, append-nil}
use lib.ListN.{length, drop, replicate, length-append, length-replicate}
use lib.Dec.{leb, lit<}
use native.Mathlib.Omega.{arith}
use borrow.Author.Tests.{leb-true}
use Rattle.format.specs.Judged.{good}
use Rattle.format.specs.Lent.{unmarked}
use Rattle.format.specs.Opening.{starts_with, plain_opening, opens}
use Rattle.format.specs.Home.{Home}
use Rattle.format.specs.Count.{Settled, unsettled, settled, count_fields_right}
use Rattle.format.specs.Block.{empty_closing, block_end, least_gap}
use Rattle.format.specs.Span.{later_spans, clean_span}
use Rattle.format.specs.Sector.{Sector, opening_length, is_first, sector_in, read_span, settle, content_right}
use Rattle.format.specs.Written.{count_opening, written_sector, sector_size}
use Rattle.format.specs.Correct.{with_content}
use Rattle.format.proofs.Spans.Shape.{Valid}
use Rattle.base.proofs.Tests.{and_both, and_make}
use Rattle.format.proofs.Sector.ReadSector.{ReadAs, rest_of, read_inv, read_make}
use Rattle.format.proofs.Cells.Opening.{unmarked_replicate}
use Rattle.format.proofs.Spans.Cutting.{later_unmarked, later_opening}
use Rattle.format.proofs.Spans.SpanAgrees.{clean_behind}
use Rattle.format.proofs.Sector.Valid.{info_unmarked, info_fits, sector_valid}
use Rattle.format.proofs.Sector.BlockEnd.{filled_open}
use Rattle.format.proofs.Sector.WrittenRest.{written_rest, written_form, length_rest, rest_end, rest_flag, rest_address, rest_fits, rest_closed, rest_blocks_fit, rest_key_right, rest_data_right, rest_sector, rest_unmarked}

length_opening : (first : Bool) → length (count_opening first) ≡ opening_length first
unfolding count_opening
length_opening true = refl
length_opening false = refl

-- The length of what is written for a sector.
pub length_written : (s : Sector) → length (written_sector s) ≡ sector_size s.first (length s.key_bytes) (length s.data_bytes)
unfolding sector_size
length_written s =
    let e : length (written_sector s) ≡ length (count_opening s.first ++ written_rest s []) = ap length (sym (append-nil (written_sector s)) ∙ written_form s []) in
    omega (arith, e, length-append (count_opening s.first) (written_rest s []), length_opening s.first, length_rest s [])

-- The opening of a written sector is that of its position.
written_at : (i : ℕ) (s : Sector) (R : List ℕ) → s.first ≡ is_first i → written_sector s ++ R ≡ count_opening (is_first i) ++ written_rest s R
written_at i s R e = written_form s R ∙ ap (λ (b : Bool). count_opening b ++ written_rest s R) e

rest_fields : (h : Home) (i : ℕ) (x : Settled) (s : Sector) (R : List ℕ) → Valid h i x s → count_fields_right h i x (written_rest s R) ≡ true
unfolding count_fields_right
rest_fields h i x s R v = rw (rest_flag s R, rest_address s R) (and_make v.flag_right v.address_right_holds)

behind_opening : (first : Bool) (r : List ℕ) → drop (opening_length first) (count_opening first ++ r) ≡ r
unfolding count_opening
behind_opening true r = refl
behind_opening false r = refl

-- A written data block, followed by FF, reads back with the bytes that were written and no more: seven where DL = 0.
pub written_end : (s : Sector) (m : ℕ) → opening_length s.first + block_end (drop (opening_length s.first) (written_sector s ++ replicate m 0xFF)) ≡ length (written_sector s)
unfolding sector_size
written_end s m =
    rw (written_form s (replicate m 0xFF), behind_opening s.first (written_rest s (replicate m 0xFF)))
    (omega (arith, rest_end s (replicate m 0xFF) (filled_open m), length_written s))

first_opened : (i : ℕ) (r : List ℕ) → i ≡ 0 → starts_with plain_opening (count_opening (is_first i) ++ r) ≡ true
unfolding count_opening
first_opened zero r e = refl
first_opened (suc i) r e = absurd (omega arith)

rest_read : (h : Home) (i : ℕ) (x : Settled) (last : Bool) (s : Sector) (R : List ℕ) → Valid h i x s → starts_with empty_closing R ≡ false → least_gap last ≤ length R
    → ReadAs h i x last (count_opening (is_first i) ++ written_rest s R) s
rest_read h i x last s R v f l =
    let e = behind_opening (is_first i) (written_rest s R) in
    record {
      opened = first_opened i (written_rest s R);
      count_fits_holds = rw e (rest_fits s R);
      count_closed_holds = rw e (rest_closed s R);
      fields_right = rw e (rest_fields h i x s R v);
      blocks_fit_holds = rw e (rest_blocks_fit last s R f l);
      key_right = rw e (rest_key_right s R);
      data_right = rw e (rest_data_right s R);
      sector_is = rw e (rest_sector s R ∙ ap (λ (b : Bool). sector_in b (written_rest s R)) v.position);
    }

-- A valid sector is read from what is written for it, followed by at least the least gap.
pub read_written : (h : Home) (i : ℕ) (x : Settled) (p : ℕ) (last : Bool) (s : Sector) (m : ℕ) → Valid h i x s → least_gap last ≤ m
    → read_span h i x p last (written_sector s ++ replicate m 0xFF) ≡ good s
read_written h i x p last s m v l =
    read_make h i x p last (written_sector s ++ replicate m 0xFF) s
    (rw (written_at i s (replicate m 0xFF) v.position) (rest_read h i x last s (replicate m 0xFF) v (filled_open m) (rw length-replicate l)))

rest_bytes : (h : Home) (i : ℕ) (x : Settled) (s : Sector) (m : ℕ) → Valid h i x s → unmarked (written_rest s (replicate m 0xFF)) ≡ true
rest_bytes h i x s m v = rest_unmarked s (replicate m 0xFF) v.count_bytes_holds v.key_bytes_holds v.data_bytes_holds (unmarked_replicate m 0xFF (lit< tt))

-- In position 0 a written sector has no mark at all.
written_unmarked : (h : Home) (x : Settled) (s : Sector) (m : ℕ) → Valid h 0 x s → unmarked (written_sector s ++ replicate m 0xFF) ≡ true
unfolding count_opening unmarked
written_unmarked h x s m v = rw (written_at 0 s (replicate m 0xFF) v.position) (rest_bytes h 0 x s m v)

-- In position 0 it has no marked opening.
pub written_first : (h : Home) (x : Settled) (s : Sector) (m : ℕ) → Valid h 0 x s → later_spans (written_sector s ++ replicate m 0xFF) ≡ []
written_first h x s m v = later_unmarked (written_sector s ++ replicate m 0xFF) (written_unmarked h x s m v)

-- Later it starts with its only one.
pub written_later : (h : Home) (i : ℕ) (x : Settled) (s : Sector) (m : ℕ) → Valid h (suc i) x s
    → (opens (written_sector s ++ replicate m 0xFF) ≡ true) × (later_spans (written_sector s ++ replicate m 0xFF) ≡ (written_sector s ++ replicate m 0xFF) ∷ [])
unfolding count_opening opens
written_later h i x s m v =
    rw (written_at (suc i) s (replicate m 0xFF) v.position) (refl, later_opening (written_rest s (replicate m 0xFF)) (rest_bytes h (suc i) x s m v))

-- It has no mark outside its opening.
pub written_clean : (h : Home) (i : ℕ) (x : Settled) (s : Sector) (m : ℕ) → Valid h i x s → clean_span i (written_sector s ++ replicate m 0xFF) ≡ true
unfolding clean_span count_opening
written_clean h zero x s m v = written_unmarked h x s m v
written_clean h (suc i) x s m v = rw (written_at (suc i) s (replicate m 0xFF) v.position) (rest_bytes h (suc i) x s m v)

-- What is read from a clean span is valid.
pub read_valid : (h : Home) (i : ℕ) (x : Settled) (p : ℕ) (last : Bool) (g : List ℕ) (s : Sector) → clean_span i g ≡ true → read_span h i x p last g ≡ good s → Valid h i x s
read_valid h i x p last g s c e =
    let v = read_inv h i x p last g s e in
    subst (Valid h i x) (sym v.sector_is) (sector_valid h i x (rest_of i g) (clean_behind i g c) v.fields_right)

-- A new key and data within the rule leave a sector able to stand.
pub content_valid : (h : Home) (i : ℕ) (x : Settled) (s : Sector) (key body : List ℕ) → Valid h i x s → content_right key body ≡ true → unmarked key ≡ true → unmarked body ≡ true
    → Valid h i x (with_content key body s)
unfolding content_right with_content
content_valid h i x s key body v c k b =
    let n = and_both (leb (length key) 255) (leb (length body) 65535) c in
    let m = info_fits s v.count_bytes_holds in
    record {
      position = v.position;
      flag_right = v.flag_right;
      address_right_holds = v.address_right_holds;
      count_bytes_holds = info_unmarked (with_content key body s) (record {
        flag_fits = m.flag_fits;
        cylinder_fits = m.cylinder_fits;
        head_fits = m.head_fits;
        number_fits = m.number_fits;
        key_fits = omega (arith, leb-true (length key) 255 n.0);
        data_fits = omega (arith, leb-true (length body) 65535 n.1);
      });
      key_bytes_holds = k;
      data_bytes_holds = b;
    }

-- And it settles the same.
pub content_settle : (x : Settled) (s : Sector) (key body : List ℕ) → settle x (with_content key body s) ≡ settle x s
unfolding settle with_content
content_settle unsettled s key body = refl
content_settle (settled a) s key body = refl
