-- All counts of an accepted track name the same C and H.
use mathlib.Core.Path.{◌≡◌, refl, sym, ap, subst}
use Prim.Native.Nat.{ℕ, suc}
use mathlib.Core.Bool.{true}
use mathlib.Core.List.{List, [], ◌∷◌}
use lib.Dec.{eqb}
use borrow.Author.Tests.{eqb-true, eq-eqb}
use Rattle.format.specs.Judged.{good}
use Rattle.format.specs.Address.{Address, same_address}
use Rattle.format.specs.Home.{Home, first_count_place}
use Rattle.format.specs.Count.{Settled, unsettled, settled, count_address_right}
use Rattle.format.specs.Sector.{Sector, settle}
use Rattle.format.specs.Accept.{Placed, placed_from, Accepted, accept_cells, sectors_of}
use Rattle.format.proofs.Spans.Shape.{AllValid}
use Rattle.base.proofs.Tests.{and_both}
use Rattle.format.proofs.Track.AcceptedSpans.{track_sectors}
use Rattle.format.proofs.Track.TakenApart.{taken_apart}
use Rattle.format.proofs.Sector.ReadsAs.{reads_valid}

-- Every sector names the address b.
abbrev pub AllName : Address → List Sector → Type 0
AllName b [] = Unit {0}
AllName b (s ∷ ss) = (s.address ≡ b) × AllName b ss

-- Nothing is settled yet, or the address b is.
abbrev pub MaySettle : Settled → Address → Type 0
MaySettle unsettled b = Unit {0}
MaySettle (settled a) b = a ≡ b

-- Addresses that agree are equal,
pub same_equal : (a b : Address) → same_address a b ≡ true → a ≡ b
unfolding same_address
same_equal a b e =
    let h = and_both (eqb a.cylinder b.cylinder) (eqb a.head b.head) e in
    λ i. record { cylinder = eqb-true a.cylinder b.cylinder h.0 i; head = eqb-true a.head b.head h.1 i }

-- and equal ones agree.
pub same_self : (a : Address) → same_address a a ≡ true
unfolding same_address
same_self a = rw (eq-eqb a.cylinder a.cylinder refl, eq-eqb a.head a.head refl)

-- A sector that names b settles it.
pub settle_named : (x : Settled) (s : Sector) (b : Address) → MaySettle x b → s.address ≡ b → settle x s ≡ settled b
unfolding settle
settle_named unsettled s b m e = ap {B = Settled} (λ (a : Address). settled a) e
settle_named (settled a) s b m e = ap {B = Settled} (λ (a : Address). settled a) m

valid_name : (h : Home) (i : ℕ) (b : Address) (ss : List Sector) → AllValid h i (settled b) ss → AllName b ss
unfolding settle count_address_right
valid_name h i b [] v = tt
valid_name h i b (s ∷ ss) v = (same_equal s.address b v.0.address_right_holds, valid_name h (suc i) b ss v.1)

-- Sectors that are valid from position 0 on name the address that the first of them names.
pub all_name : (h : Home) (s : Sector) (ss : List Sector) → AllValid h 0 unsettled (s ∷ ss) → AllName s.address (s ∷ ss)
unfolding settle
all_name h s ss v = (refl, valid_name h 1 s.address ss v.1)

-- C and H of sector 0, which all counts share.
abbrev pub shared_address : List Placed → Address
shared_address [] = record { cylinder = 0; head = 0 }
shared_address (x ∷ xs) = x.sector.address

-- All counts of an accepted track agree.
pub counts_agree : (c : List ℕ) (a : Accepted) → accept_cells c ≡ good a → AllName (shared_address a.sectors) (sectors_of a.sectors)
unfolding placed_from
counts_agree c a e =
    let t = taken_apart c a e in
    let h : Home = a.home in
    let p : ℕ = first_count_place h.place in
    let gs : List (List ℕ) = t.span ∷ t.spans in
    let ss : List Sector = t.sector ∷ t.sectors in
    let named : AllName t.sector.address ss = all_name h t.sector t.sectors (reads_valid h 0 unsettled p gs ss t.track.clean t.track.reads) in
    let Goal : Accepted → Type 0 = λ y. AllName (shared_address y.sectors) (sectors_of y.sectors) in
    subst Goal t.same (subst (AllName t.sector.address) (sym (track_sectors t.head h gs ss t.track)) named)
