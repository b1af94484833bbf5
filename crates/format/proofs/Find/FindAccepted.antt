-- Find on an accepted track: each sector's key and data, and answer 12 for a number that no sector carries.
use mathlib.Core.Path.{◌≡◌, refl, sym, ap, ◌∙◌, subst}
use mathlib.Core.Logic.{⊎_elim}
use Prim.Native.Nat.{ℕ, suc, ◌+◌}
use mathlib.Core.Bool.{Bool, true, false, ◌||◌, or-true}
use mathlib.Core.List.{List, [], ◌∷◌}
use lib.ListN.{length, drop}
use lib.Dec.{eqb}
use borrow.Author.Tests.{eqb-false, eq-eqb, ne_eqb}
use Rattle.format.specs.Answer.{sector_missing}
use Rattle.format.specs.Judged.{good, refused}
use Rattle.format.specs.Lent.{lent_for_reading, cells}
use Rattle.format.specs.Home.{Home, first_count_place}
use Rattle.format.specs.Count.{Settled, unsettled, count_number}
use Rattle.format.specs.Fault.{sound}
use Rattle.format.specs.Block.{blocks_fit, test_key, test_data}
use Rattle.format.specs.Span.{none}
use Rattle.format.specs.Sector.{Sector, opening_length, is_first, settle, sector_in}
use Rattle.format.specs.Accept.{Placed, placed_rest, placed_from, among, Accepted, spans_of, accept}
use Rattle.format.specs.Candidate.{Candidate, candidates}
use Rattle.format.specs.Find.{part_of, carrying, only, candidate_part, find_cells, find, content_of}
use Rattle.format.specs.Blocks.{Wanted, the_key, the_data, Part, judge_fit, part_in, info_of, test_of}
use Rattle.base.proofs.Tests.{cases, false-true}
use Rattle.base.specs.Lists.{Member}
use Rattle.format.proofs.Sector.ReadSector.{ReadAs, rest_of, read_inv, read_first}
use Rattle.format.proofs.Sector.ReadsAs.{Reads, AcceptedBy, accepted_by, none_placed}
use Rattle.format.proofs.Track.Pairs.{accepted_pair}
use Rattle.format.proofs.Track.Sectors.{Distinct, numbers_of, numbers_distinct}
use Rattle.format.proofs.Find.SpanCandidates.{candidates_of}
use Rattle.format.proofs.Find.AcceptedCandidates.{candidates_accepted}
use Rattle.format.proofs.Sector.BlocksJudged.{part_right}
use Rattle.format.proofs.Find.FindSound.{find_hands_out}
use Rattle.format.proofs.Find.FindParts.{rest_place}

-- The sector x is what its span says.
pub record ReadWell (last : Bool) (x : Placed) : Type 0 where
  pub fits : blocks_fit last (placed_rest x) ≡ true
  pub key_right : test_key (placed_rest x) ≡ sound
  pub data_right : test_data (placed_rest x) ≡ sound
  pub number_is : count_number (placed_rest x) ≡ x.sector.number
  pub info_is : (w : Wanted) → info_of w (placed_rest x) ≡ content_of w x.sector

-- Each of the sectors is.
abbrev pub AllRead : List Placed → Type 0
AllRead [] = Unit {0}
AllRead (x ∷ xs) = ReadWell (none xs) x × AllRead xs

read_info : (m : Home) (i : ℕ) (u : Settled) (last : Bool) (g : List ℕ) (s : Sector) → ReadAs m i u last g s → (w : Wanted) → info_of w (rest_of i g) ≡ content_of w s
unfolding sector_in
read_info m i u last g s v the_key = sym (ap (λ (z : Sector). z.key_bytes) v.sector_is)
read_info m i u last g s v the_data = sym (ap (λ (z : Sector). z.data_bytes) v.sector_is)

-- A sector that is read is what its span says.
pub read_well : (m : Home) (i : ℕ) (u : Settled) (last : Bool) (p : ℕ) (g : List ℕ) (s : Sector) → ReadAs m i u last g s → ReadWell last (record { place = p; span = g; sector = s })
unfolding sector_in
read_well m i u last p g s v =
    let f : s.first ≡ is_first i = read_first m i u last g s v in
    record {
      fits = rw f v.blocks_fit_holds;
      key_right = rw f v.key_right;
      data_right = rw f v.data_right;
      number_is = rw f (sym (ap (λ (z : Sector). z.number) v.sector_is));
      info_is = λ w. ap (λ (b : Bool). info_of w (drop (opening_length b) g)) f ∙ read_info m i u last g s v w;
    }

-- So is each of the sectors that spans read as.
pub reads_all : (m : Home) (i : ℕ) (u : Settled) (p : ℕ) (gs : List (List ℕ)) (ss : List Sector) → Reads m i u p gs ss → AllRead (placed_from p gs ss)
unfolding placed_from
reads_all m i u p [] [] e = tt
reads_all m i u p [] (s ∷ ss) e = absurd e
reads_all m i u p (g ∷ gs) [] e = absurd e
reads_all m i u p (g ∷ gs) (s ∷ ss) e =
    let q : none gs ≡ none (placed_from (p + length g) gs ss) = sym (none_placed m (suc i) (settle u s) (p + length g) gs ss e.1) in (
      subst (λ (b : Bool). ReadWell b (record { place = p; span = g; sector = s })) q (read_well m i u (none gs) p g s (read_inv m i u p (none gs) g s e.0)),
      reads_all m (suc i) (settle u s) (p + length g) gs ss e.1,
    )

-- The number of a sector is among the numbers of the sectors.
pub member_among : (y : Placed) (xs : List Placed) → Member y xs → among y.sector.number (numbers_of xs) ≡ true
unfolding among
member_among y [] m = absurd m
member_among y (x ∷ xs) m =
    let n : ℕ = y.sector.number in
    ⊎_elim {C = (eqb n x.sector.number || among n (numbers_of xs)) ≡ true}
    (λ (q : y ≡ x). rw (eq-eqb n x.sector.number (ap (λ (z : Placed). z.sector.number) q)))
    (λ (k : Member y xs). rw (member_among y xs k) (or-true (eqb n x.sector.number)))
    m

-- No candidate carries a number that no sector has.
pub carrying_none : (n : ℕ) (xs : List Placed) → AllRead xs → among n (numbers_of xs) ≡ false → carrying n (candidates_of xs) ≡ []
unfolding carrying candidates_of among
carrying_none n [] r e = refl
carrying_none n (x ∷ xs) r e =
    cases (eqb n x.sector.number)
    (λ b. false-true (sym e ∙ rw b))
    (λ b. rw (r.0.number_is, ne_eqb x.sector.number n (λ q. eqb-false n x.sector.number b (sym q))) (carrying_none n xs r.1 (rw b at e)))

-- The candidate of a sector.
abbrev candidate_of : Bool → Placed → Candidate
candidate_of last x = record { place = x.place; first = x.sector.first; last = last; rest = placed_rest x }

-- The candidate y is the only one of them that carries the number of its sector.
record Carried (y : Placed) (xs : List Placed) : Type 0 where
  pub last : Bool
  pub alone : carrying y.sector.number (candidates_of xs) ≡ candidate_of last y ∷ []
  pub well : ReadWell last y

carried_here : (x : Placed) (xs : List Placed) → AllRead (x ∷ xs) → among x.sector.number (numbers_of xs) ≡ false → Carried x (x ∷ xs)
unfolding carrying candidates_of
carried_here x xs r d =
    let n : ℕ = x.sector.number in
    record { last = none xs; alone = rw (r.0.number_is, eq-eqb n n refl, carrying_none n xs r.1 d); well = r.0 }

carried_later : (x y : Placed) (xs : List Placed) → ReadWell (none xs) x → among x.sector.number (numbers_of xs) ≡ false → Member y xs → Carried y xs → Carried y (x ∷ xs)
unfolding carrying candidates_of
carried_later x y xs v d k c =
    let n : ℕ = y.sector.number in
    let other : x.sector.number ≡ n → ⊥ = λ q. false-true (sym d ∙ ap (λ (z : ℕ). among z (numbers_of xs)) q ∙ member_among y xs k) in
    record { last = c.last; alone = rw (v.number_is, ne_eqb x.sector.number n other) c.alone; well = c.well }

-- Each sector's number is carried by its candidate alone.
carrying_one : (y : Placed) (xs : List Placed) → AllRead xs → Distinct (numbers_of xs) → Member y xs → Carried y xs
carrying_one y [] r d m = absurd m
carrying_one y (x ∷ xs) r d m =
    ⊎_elim {C = Carried y (x ∷ xs)}
    (λ (q : y ≡ x). subst (λ (z : Placed). Carried z (x ∷ xs)) (sym q) (carried_here x xs r d.0))
    (λ (k : Member y xs). carried_later x y xs r.0 d.0 k (carrying_one y xs r.1 d.1 k))
    m

-- The sectors of an accepted track are what their spans say.
accepted_read : (c : List ℕ) (a : Accepted) → AcceptedBy c a → AllRead a.sectors
accepted_read c a b =
    let p : ℕ = first_count_place a.home.place in
    subst AllRead (sym b.placed) (reads_all a.home 0 unsettled p (spans_of a.home c) b.sectors b.reads)

-- The part that is asked for is right.
well_right : (last : Bool) (x : Placed) → ReadWell last x → (w : Wanted) → test_of w (placed_rest x) ≡ sound
well_right last x v the_key = v.key_right
well_right last x v the_data = v.data_right

find_alone : (s : ℕ) (w : Wanted) (t m : List ℕ) (x : Candidate) → lent_for_reading t m ≡ true → carrying s (candidates (cells t m)) ≡ x ∷ [] → blocks_fit x.last x.rest ≡ true
    → test_of w x.rest ≡ sound → find s w t m ≡ good (part_in w (rest_place x) x.rest)
unfolding find find_cells candidate_part only judge_fit
find_alone s w t m x l o f e = rw (l, o, f) (part_right w (rest_place x) x.rest e)

-- On an accepted track Find hands out the key and the data of each sector.
pub find_content : (t m : List ℕ) (a : Accepted) → accept t m ≡ good a → (x : Placed) → Member x a.sectors → (w : Wanted)
    → (part : Part) × (find x.sector.number w t m ≡ good part) × (part_of t part ≡ content_of w x.sector)
find_content t m a e x k w =
    let c : List ℕ = cells t m in
    let n : ℕ = x.sector.number in
    let h = accepted_pair t m a e in
    let y = carrying_one x a.sectors (accepted_read c a (accepted_by c a h.1)) (numbers_distinct c a h.1) k in
    let z : Candidate = candidate_of y.last x in
    let o : carrying n (candidates c) ≡ z ∷ [] = ap (carrying n) (candidates_accepted c a h.1) ∙ y.alone in
    let g : Part = part_in w (rest_place z) z.rest in
    let f : find n w t m ≡ good g = find_alone n w t m z h.0 o y.well.fits (well_right y.last x y.well w) in
    let r = find_hands_out n w t m g f in
    let same : r.0 ≡ z = same_head r.0 z (sym r.1.alone ∙ o) in
    (g, f, r.1.bytes ∙ ap (λ (v : Candidate). info_of w v.rest) same ∙ y.well.info_is w)
  where
    same_head : (u v : Candidate) → ◌≡◌ {A = List Candidate} (u ∷ []) (v ∷ []) → u ≡ v
    same_head u v q = cc

-- Any number that no sector carries gives answer 12.
pub find_missing : (t m : List ℕ) (a : Accepted) → accept t m ≡ good a → (s : ℕ) → among s (numbers_of a.sectors) ≡ false → (w : Wanted) → find s w t m ≡ refused sector_missing
unfolding find find_cells only
find_missing t m a e s n w =
    let c : List ℕ = cells t m in
    let h = accepted_pair t m a e in
    let o : carrying s (candidates c) ≡ [] = ap (carrying s) (candidates_accepted c a h.1) ∙ carrying_none s a.sectors (accepted_read c a (accepted_by c a h.1)) n in
    rw (h.0, o)
