-- Whatever call writes a sector, the pair that it leaves is accepted and has that sector.
use mathlib.Core.Path.{◌≡◌, refl, sym, ap, ap₂, ◌∙◌, subst}
use mathlib.Core.Logic.{inl}
use Prim.Native.Nat.{ℕ, ◌<◌}
use mathlib.Core.Bool.{true, ◌&&◌}
use mathlib.Core.List.{List, [], ◌∷◌, ◌++◌, map}
use lib.ListN.{length}
use lib.Dec.{eqb}
use borrow.Author.Tests.{eqb-true, eq-eqb}
use Rattle.format.specs.Answer.{lent_wrong, wanted_wrong, sector_missing}
use Rattle.format.specs.Judged.{Judged, good}
use Rattle.format.specs.Lent.{lent_for_reading, lent_for_writing, cells, unmarked, both_lent}
use Rattle.format.specs.Address.{Address}
use Rattle.format.specs.Sector.{Sector}
use Rattle.format.specs.Accept.{Placed, Accepted, accept_cells, accept, from_number, sectors_of}
use Rattle.format.specs.GapRule.{gap_one, GapRule, gap_by, wanted_right}
use Rattle.format.specs.Written.{Pair, as_pair, written_behind}
use Rattle.format.specs.Blank.{named_by, blank_right, written_head, blank_sector, blank}
use Rattle.format.specs.Add.{add_cells, add}
use Rattle.format.specs.Correct.{with_content, rewritten_from, correct_cells, correct}
use Rattle.format.specs.Together.{Correction, replaced_by, corrected_pair}
use Rattle.format.proofs.Base.Judged.{then_good, require_good, require_holds, refused-good}
use Rattle.base.proofs.Tests.{and_both}
use Rattle.base.specs.Lists.{Member}
use Rattle.format.proofs.Track.Pairs.{unmarked_bytes, written_pair}
use Rattle.format.proofs.Written.BlankAccepted.{blank_accepted}
use Rattle.format.proofs.Add.NewSector.{new_sector}
use Rattle.format.proofs.Add.AddPair.{add_pair}
use Rattle.format.proofs.Correct.Replaced.{named, replaced_one}
use Rattle.format.proofs.Correct.CorrectPair.{correct_pair}
use Rattle.roundtrip.specs.Chain.{Wrote, by_blank, by_add, by_correct}
use Rattle.roundtrip.proofs.Members.{member_last, member_map, member_placed, member_number}

-- The sector z has the number s, this key and this data.
pub record Holds (s : ℕ) (key body : List ℕ) (z : Sector) : Type 0 where
  pub number_is : z.number ≡ s
  pub key_is : z.key_bytes ≡ key
  pub data_is : z.data_bytes ≡ body

-- The track of the pair q holds bytes only, q is accepted, and one of its sectors is that sector.
pub record HasSector (q : Pair) (s : ℕ) (key body : List ℕ) : Type 0 where
  pub bytes : unmarked q.track ≡ true
  pub accepted : Accepted
  pub accepted_is : accept q.track q.marks ≡ good accepted
  pub placed : Placed
  pub member : Member placed accepted.sectors
  pub holds : Holds s key body placed.sector

-- The track of a pair that is written holds bytes only.
written_bytes : (j : Judged (List ℕ)) (q : Pair) → as_pair j ≡ good q → unmarked q.track ≡ true
written_bytes j q e =
    let r = written_pair j q e in
    ap (λ (z : Pair). unmarked z.track) (sym r.2) ∙ unmarked_bytes r.0

-- An accepted pair has a sector that stands among its sectors.
has_sector : (q : Pair) (s : ℕ) (key body : List ℕ) (a : Accepted) (ss : List Sector) (z : Sector) → unmarked q.track ≡ true
    → accept q.track q.marks ≡ good a → sectors_of a.sectors ≡ ss → Member z ss → Holds s key body z → HasSector q s key body
has_sector q s key body a ss z u e r h v =
    let k = member_placed z a.sectors (subst (Member z) (sym r) h) in
    record { bytes = u; accepted = a; accepted_is = e; placed = k.0; member = k.1; holds = subst (Holds s key body) k.2 v }

-- The pairs lent to Add and Correct are lent within the rule, and of one length.
both_lent_lem : (t m : List ℕ) (l k : ℕ) → both_lent t m l k ≡ true → (lent_for_reading t m ≡ true) × (l ≡ length t) × (k ≡ length t)
unfolding both_lent
both_lent_lem t m l k e =
    let a = and_both (lent_for_reading t m) (eqb l (length t) && eqb k (length t)) e in
    let b = and_both (eqb l (length t)) (eqb k (length t)) a.1 in
    (a.0, eqb-true l (length t) b.0, eqb-true k (length t) b.1)

-- A pair that is lent within the rule is accepted as its cells are.
accept_lent : (t m : List ℕ) (a : Accepted) → lent_for_reading t m ≡ true → accept_cells (cells t m) ≡ good a → accept t m ≡ good a
unfolding accept
accept_lent t m a l e = require_holds (lent_for_reading t m) lent_wrong (accept_cells (cells t m)) (good a) l e

-- The sector that a correction names gets its key and data.
replaced_holds : (x : Correction) (z : Sector) → z.number ≡ x.number → Holds x.number x.key x.body (replaced_by x z)
unfolding named with_content
replaced_holds x z e =
    let r = replaced_one x z (eq-eqb z.number x.number e) in
    subst (Holds x.number x.key x.body) (sym r) (record { number_is = e; key_is = refl; data_is = refl })

module _ (s : ℕ) (key body : List ℕ) (q : Pair) (n : s < 256) (uk : unmarked key ≡ true) (ub : unmarked body ≡ true) where
  -- What Blank leaves,
  blank_written : (l k : ℕ) (own : Address) (flag : ℕ) (partner : Address) → blank l k own flag partner s key body ≡ good q → HasSector q s key body
  unfolding blank blank_sector
  blank_written l k own flag partner e =
      let r = blank_accepted l k own flag partner s key body uk ub n q e in
      let z : Sector = blank_sector flag (named_by flag own partner) s key body in
      let w = require_good (lent_for_writing l k) lent_wrong _ q e in
      let f = require_good (blank_right own flag partner key body) wanted_wrong _ q w.1 in
      has_sector q s key body r.0 (z ∷ []) z
      (written_bytes (written_behind gap_one (written_head flag own) l (z ∷ [])) q f.1)
      r.1 r.3 (inl refl) (record { number_is = refl; key_is = refl; data_is = refl })

  module _ (rule : GapRule) (t m : List ℕ) (l k : ℕ) (ut : unmarked t ≡ true) where
    -- what Add leaves,
    add_written : (b7 : ℕ) → add rule t m l k b7 s key body ≡ good q → HasSector q s key body
    unfolding add add_cells new_sector
    add_written b7 e =
        let j : Judged (List ℕ) = add_cells rule (cells t m) b7 s key body in
        let w = require_good (both_lent t m l k) lent_wrong (as_pair j) q e in
        let c = written_pair j q w.1 in
        let a = then_good (accept_cells (cells t m)) _ c.0 c.1 in
        let r = add_pair rule t m l k b7 s key body ut uk ub n a.0 (accept_lent t m a.0 (both_lent_lem t m l k w.0).0 a.1) q e in
        let z : Sector = new_sector a.0 b7 s key body in
        has_sector q s key body r.0 (sectors_of a.0.sectors ++ z ∷ []) z
        (written_bytes j q w.1) r.1 r.3 (member_last z (sectors_of a.0.sectors)) (record { number_is = refl; key_is = refl; data_is = refl })

    -- Correct is done only where some sector carries the number.
    rewritten_some : (c : List ℕ) (xs : List Placed) (e : List ℕ) → rewritten_from (gap_by rule) c key body xs ≡ good e → (y : Placed) × (ys : List Placed) × (xs ≡ y ∷ ys)
    unfolding rewritten_from
    rewritten_some c [] e h = refused-good sector_missing e h
    rewritten_some c (y ∷ ys) e h = (y, ys, refl)

    -- and what Correct leaves, has the sector.
    correct_written : correct rule t m l k s key body ≡ good q → HasSector q s key body
    unfolding correct correct_cells
    correct_written e =
        let x : Correction = record { number = s; key = key; body = body } in
        let j : Judged (List ℕ) = correct_cells rule (cells t m) s key body in
        let w = require_good (both_lent t m l k) lent_wrong (as_pair j) q e in
        let v = both_lent_lem t m l k w.0 in
        let c = written_pair j q w.1 in
        let a = then_good (accept_cells (cells t m)) _ c.0 c.1 in
        let d = require_good (wanted_right rule key body) wanted_wrong _ c.0 a.2 in
        let y = rewritten_some (cells t m) (from_number s a.0.sectors) c.0 d.1 in
        let h = member_number s a.0.sectors y.0 y.1 y.2 in
        let here : corrected_pair rule t m x ≡ good q = ap₂ (λ (i j : ℕ). correct rule t m i j s key body) (sym v.1) (sym v.2) ∙ e in
        let r = correct_pair rule t m ut a.0 (accept_lent t m a.0 v.0 a.1) x (record { key = uk; body = ub }) q here in
        has_sector q s key body r.0 (map (replaced_by x) (sectors_of a.0.sectors)) (replaced_by x y.0.sector)
        (written_bytes j q w.1) r.1 r.3
        (member_map (replaced_by x) y.0.sector (sectors_of a.0.sectors) (member_map (λ z. z.sector) y.0 a.0.sectors h.0))
        (replaced_holds x y.0.sector h.1)

  -- Whatever call writes the sector, the pair that it leaves is accepted and has it.
  pub written_sector_lem : Wrote s key body q → HasSector q s key body
  written_sector_lem (by_blank l k own flag partner e) = blank_written l k own flag partner e
  written_sector_lem (by_add rule t m l k b7 ut e) = add_written rule t m l k ut b7 e
  written_sector_lem (by_correct rule t m l k ut e) = correct_written rule t m l k ut e
