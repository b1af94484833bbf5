-- The sector that Add writes: which it is, that it is valid, and when there is room for it.
use mathlib.Core.Path.{◌≡◌, refl, ap, ◌∙◌}
use Prim.Native.Nat.{ℕ, suc, ◌+◌, ◌≤◌, ◌<◌}
use native.Mathlib.Omega.{arith}
use mathlib.Core.Bool.{true, false}
use mathlib.Core.List.{List, [], ◌∷◌, ◌++◌}
use lib.ListN.{length, take, replicate, length-append, length-replicate}
use lib.Seq.{length-take-le}
use lib.Dec.{leb}
use Rattle.format.specs.Answer.{room_missing}
use Rattle.format.specs.Judged.{good, require}
use Rattle.format.specs.Lent.{unmarked}
use Rattle.format.specs.Address.{Address}
use Rattle.format.specs.Home.{Home}
use Rattle.format.specs.Count.{unsettled, settled, count_address_right}
use Rattle.format.specs.Span.{joined}
use Rattle.format.specs.Sector.{Sector, content_right}
use Rattle.format.specs.Accept.{Placed, Accepted, end_of, last_of}
use Rattle.format.specs.Written.{written_sector, sector_size, gap_after, written_behind}
use Rattle.format.specs.Add.{added_flag, added_sector, added_to}
use Rattle.format.proofs.Spans.Shape.{Valid}
use Rattle.format.proofs.Sector.Valid.{info_fits}
use Rattle.format.proofs.Sector.CountRight.{count_unmarked, added_flag_lem, added_flag_small}
use Rattle.format.proofs.Track.SharedAddress.{shared_address, same_self}
use Rattle.format.proofs.Sector.ReadBack.{length_written}
use Rattle.format.proofs.Written.OneBehind.{span_to_index, behind_one}

-- The place at which the block of the last sector ends.
abbrev pub last_end : List Placed → ℕ
last_end [] = 0
last_end (x ∷ xs) = end_of (last_of x xs)

-- The sector that Add puts behind the sectors of an accepted track.
unfoldable pub new_sector : Accepted → ℕ → ℕ → List ℕ → List ℕ → Sector
new_sector a b7 s key body =
    record {
      first = false;
      flag = added_flag a.home.flag (length a.sectors) b7;
      address = shared_address a.sectors;
      number = s;
      key_bytes = key;
      data_bytes = body;
    }

-- A sector behind others is valid, where its fields are within the rule.
pub added_valid : (h : Home) (i : ℕ) (o n : Sector) (b7 : ℕ) → unmarked n.key_bytes ≡ true → unmarked n.data_bytes ≡ true → n.number < 256
    → content_right n.key_bytes n.data_bytes ≡ true → b7 ≤ 1 → Valid h 0 unsettled o
    → n.first ≡ false → n.flag ≡ added_flag h.flag (suc i) b7 → n.address ≡ o.address → Valid h (suc i) (settled o.address) n
unfolding count_address_right
added_valid h i o n b7 uk ub l c hb v f fl ad =
    let fits = info_fits o v.count_bytes_holds in
    let flag : n.flag < 256 = omega (arith, fl, added_flag_small h.flag (suc i) b7 hb) in
    let cylinder : n.address.cylinder < 65536 = omega (arith, fits.cylinder_fits, ap (λ (z : Address). z.cylinder) ad) in
    let head : n.address.head < 65536 = omega (arith, fits.head_fits, ap (λ (z : Address). z.head) ad) in
    record {
      position = f;
      flag_right = rw fl (added_flag_lem h.flag i b7 hb);
      address_right_holds = rw ad (same_self o.address);
      count_bytes_holds = count_unmarked n flag cylinder head l c;
      key_bytes_holds = uk;
      data_bytes_holds = ub;
    }

module _ (gap : ℕ → ℕ → ℕ) where
  -- The length of the gap that Add writes after the last of the old sectors.
  abbrev pub last_gap : List Placed → ℕ
  last_gap [] = 0
  last_gap (x ∷ xs) = gap_after gap (last_of x xs).sector

  -- Where the block of the new sector would end.
  abbrev pub add_end : List Placed → List ℕ → List ℕ → ℕ
  add_end xs key body = last_end xs + last_gap xs + sector_size false (length key) (length body)

  -- The same, and 13 bytes more.
  abbrev pub add_need : List Placed → List ℕ → List ℕ → ℕ
  add_need xs key body = add_end xs key body + 13

  -- What Add writes on sectors x and xs, which start in position i.
  pub added_to_is : (c : List ℕ) (h : Home) (i b7 s : ℕ) (key body : List ℕ) (x : Placed) (xs : List Placed) (n : ℕ) → n ≡ suc (i + length xs)
      → added_to gap c h i b7 s key body (x ∷ xs)
      ≡ written_behind gap (take (last_end (x ∷ xs)) c ++ replicate (last_gap (x ∷ xs)) 0xFF) (length c) (added_sector h n (last_of x xs) b7 s key body ∷ [])
  unfolding added_to
  added_to_is c h i b7 s key body x [] n e =
      ap (λ (k : ℕ). written_behind gap (take (end_of x) c ++ replicate (gap_after gap x.sector) 0xFF) (length c) (added_sector h k x b7 s key body ∷ [])) (omega arith)
  added_to_is c h i b7 s key body x (y ∷ ys) n e = added_to_is c h (suc i) b7 s key body y ys n (omega arith)

  -- The cells that Add keeps, with the gap behind them.
  abbrev pub kept_cells : List ℕ → List Placed → List ℕ
  kept_cells c xs = take (last_end xs) c ++ replicate (last_gap xs) 0xFF

  -- How long they are.
  pub length_kept : (c : List ℕ) (xs : List Placed) → last_end xs ≤ length c → length (kept_cells c xs) ≡ last_end xs + last_gap xs
  length_kept c xs h =
      omega (arith, length-append (take (last_end xs) c) (replicate (last_gap xs) 0xFF), length-take-le (last_end xs) c h, length-replicate {A = ℕ} (last_gap xs) 0xFF)

  -- Answer 15 exactly where the block of the new sector would end later than 13 bytes before index.
  pub added_room : (c : List ℕ) (h : Home) (i b7 s : ℕ) (key body : List ℕ) (x : Placed) (xs : List Placed) → last_end (x ∷ xs) ≤ length c
      → added_to gap c h i b7 s key body (x ∷ xs)
      ≡ require (leb (add_need (x ∷ xs) key body) (length c)) room_missing
      (good (kept_cells c (x ∷ xs) ++ joined (span_to_index (kept_cells c (x ∷ xs)) (length c) (added_sector h (suc (i + length xs)) (last_of x xs) b7 s key body) ∷ [])))
  unfolding added_sector
  added_room c h i b7 s key body x xs l =
      let n : Sector = added_sector h (suc (i + length xs)) (last_of x xs) b7 s key body in
      let k : List ℕ = kept_cells c (x ∷ xs) in
      let e : length k + length (written_sector n) + 13 ≡ add_need (x ∷ xs) key body = omega (arith, length_kept c (x ∷ xs) l, length_written n) in
      added_to_is c h i b7 s key body x xs (suc (i + length xs)) refl ∙ behind_one k (length c) n gap
      ∙ ap (λ (z : ℕ). require (leb z (length c)) room_missing (good (k ++ joined (span_to_index k (length c) n ∷ [])))) e
