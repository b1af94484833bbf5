-- The pieces of an accepted track add up to its length, and each sector record leads to the next.
use mathlib.Core.Path.{◌≡◌, refl, sym, ap, ap₂, ◌∙◌, subst}
use Prim.Native.Nat.{ℕ, zero, suc, ◌+◌, ◌-◌, ◌≤◌, ◌<◌}
use native.Mathlib.Omega.{arith}
use mathlib.Core.Bool.{Bool, true, false}
use mathlib.Core.List.{List, [], ◌∷◌, ◌++◌, map, append_assoc}
use lib.ListN.{length, take, drop, get_or, length-append, length-drop, get_or-append}
use lib.Seq.{drop_at, take_at, drop-drop, drop-append-le}
use lib.Dec.{leb, eqb}
use borrow.Author.Tests.{leb-true}
use Rattle.base.specs.Pick.{pick}
use Rattle.format.specs.Answer.{lent_wrong}
use Rattle.format.specs.Judged.{good}
use Rattle.format.specs.Lent.{cells, unmarked}
use Rattle.format.specs.Opening.{starts_with, opens}
use Rattle.format.specs.Home.{Home, first_count_place}
use Rattle.format.specs.Address.{word}
use Rattle.format.specs.Count.{Settled, unsettled, count_fits}
use Rattle.format.specs.Block.{key_size, data_offset, empty_size, block_end}
use Rattle.format.specs.Span.{joined, none, clean_span, clean_spans}
use Rattle.format.specs.Sector.{Sector, opening_length, is_first, settle, sector_in}
use Rattle.format.specs.Accept.{Placed, placed_from, end_of, Accepted, spans_of, accept_cells, accept}
use Rattle.format.specs.Listing.{Listed, listed, most_sectors, list}
use Rattle.format.specs.Pieces.{count_at, count_length, key_pieces, block_opening, block_cells, block_length, sector_pieces, record_pieces, track_pieces, total, RecordAt, Following}
use Rattle.format.specs.Written.{count_opening}
use Rattle.base.proofs.Tests.{cases, and_both}
use Rattle.format.proofs.Base.Judged.{good_inj, require_good}
use Rattle.format.proofs.Cells.Opening.{starts_length, starts_with_append, unmarked_drop}
use Rattle.format.proofs.Spans.Shape.{Shape}
use Rattle.format.proofs.Spans.Cutting.{shape_tail}
use Rattle.format.proofs.Spans.SpanAgrees.{clean_behind}
use Rattle.format.proofs.Sector.BlockEnd.{offset_is, data_in_end}
use Rattle.format.proofs.Sector.ReadSector.{ReadAs, rest_of, read_inv, read_first, read_length, Lengths}
use Rattle.format.proofs.Sector.ReadsAs.{Reads, none_placed}
use Rattle.format.proofs.Sector.Regapped.{block_place, end_placed}
use Rattle.format.proofs.Track.AcceptedSpans.{accepted_track}
use Rattle.format.proofs.Track.Pairs.{accepted_pair, lent_length}
use Rattle.format.proofs.Track.ListAccepted.{list_records}

-- The key and its gap take what the layout of a sector has for them.
pub key_total : (n : ℕ) → total (key_pieces n) ≡ key_size n
unfolding key_pieces key_size
key_total n = cases (eqb n 0) (λ e. rw e) (λ e. rw e (omega arith))

total_append : (xs ys : List ℕ) → total (xs ++ ys) ≡ total xs + total ys
total_append [] ys = omega arith
total_append (x ∷ xs) ys = omega (arith, total_append xs ys)

-- A part of a span is a part of the track.
part_of : (head g rest : List ℕ) (k : ℕ) → k ≤ length g → take (length g - k) (drop (length head + k) (head ++ (g ++ rest))) ≡ drop k g
part_of head g rest k l =
    ap (take (length g - k))
    (sym (drop-drop k (length head) (head ++ (g ++ rest))) ∙ ap (drop k) (drop_at head (g ++ rest) (length head) refl) ∙ drop-append-le k g rest l)
    ∙ take_at (drop k g) rest (length g - k) (length-drop k g)

opening_there : (i : ℕ) (g : List ℕ) (gs : List (List ℕ)) → Shape i (g ∷ gs) → (i ≡ 0 → starts_with (count_opening true) g ≡ true) → starts_with (count_opening (is_first i)) g ≡ true
unfolding opens count_opening
opening_there zero g gs v o = o refl
opening_there (suc i) g gs v o = v.0.0

-- The span g in position i, with the cells `head` before it and `rest` behind it, reads as the sector s.
module _ (head g rest : List ℕ) (h : Home) (i : ℕ) (x : Settled) (last : Bool) (s : Sector) (read : ReadAs h i x last g s) (first_is : s.first ≡ is_first i)
    (clean : clean_span i g ≡ true) where
  abbrev p : ℕ
  p = length head

  abbrev c : List ℕ
  c = head ++ (g ++ rest)

  abbrev o : ℕ
  o = opening_length (is_first i)

  abbrev r : List ℕ
  r = rest_of i g

  abbrev here : Placed
  here = record { place = p; span = g; sector = s }

  lengths : Lengths i last g s
  lengths = read_length h i x last g s read

  opening_is : opening_length s.first ≡ o
  opening_is = ap opening_length first_is

  end_here : end_of here ≡ p + o + block_end r
  unfolding block_place
  end_here = end_placed i p g s first_is ∙ omega arith

  -- End and gap lead to the end of the span.
  leads : (listed here).end + (listed here).gap ≡ p + length g
  unfolding listed
  leads = omega (arith, end_here, lengths.reaches)

  offset_here : data_offset r ≡ 23 + key_size (length s.key_bytes)
  offset_here = offset_is r ∙ ap (λ (n : ℕ). 23 + key_size n) (sym lengths.key_length_holds)

  data_here : (listed here).data_place ≡ p + o + data_offset r + 6
  unfolding listed
  data_here = omega (arith, opening_is, offset_here)

  cells_here : block_cells c (listed here) ≡ drop (data_offset r) r
  cells_here =
      let k : ℕ = o + data_offset r in
      let q : block_opening (listed here) ≡ p + k = omega (arith, data_here) in
      let n : (listed here).end + (listed here).gap - block_opening (listed here) ≡ length g - k = omega (arith, leads, q) in
      let l : k ≤ length g = omega (arith, lengths.reaches, data_in_end r) in
      rw (n, q) (part_of head g rest k l ∙ sym (drop-drop (data_offset r) o g))

  block_here : p + o + data_offset r + block_length c (listed here) ≡ end_of here
  unfolding block_length block_end listed
  block_here =
      rw (ap empty_size cells_here, lengths.data_length_holds) (omega (arith, end_here))

  -- What stands in its gap is the end of its own span, which has no mark behind the opening.
  gap_here : unmarked (take (listed here).gap (drop (listed here).end c)) ≡ true
  unfolding listed
  gap_here =
      let k : ℕ = o + block_end r in
      let q : (listed here).end ≡ p + k = omega (arith, end_here) in
      let n : (listed here).gap ≡ length g - k = omega (arith, end_here) in
      let l : k ≤ length g = omega (arith, lengths.reaches) in
      rw (n, q, part_of head g rest k l, sym (drop-drop (block_end r) o g)) (unmarked_drop (block_end r) r (clean_behind i g clean))

  -- What follows the opening of its count are its own bytes.
  count_here : (j : ℕ) → j < 12 → get_or r j 0 ≡ get_or (count_at c (is_first i) p) j 0
  unfolding count_fits
  count_here j l =
      let fits = leb-true 12 (length r) read.count_fits_holds in
      let inside : o ≤ length g = omega (arith, lengths.reaches) in
      let there : drop (p + o) c ≡ r ++ rest = sym (drop-drop o p c) ∙ ap (drop o) (drop_at head (g ++ rest) p refl) ∙ drop-append-le o g rest inside in
      sym (get_or-append r rest 0 j (omega (arith, fits))) ∙ ap (λ (y : List ℕ). get_or y j 0) (sym there)

  -- Its record is that of the count that opens there.
  record_here : starts_with (count_opening (is_first i)) g ≡ true → RecordAt c (is_first i) last p (listed here)
  unfolding listed sector_in
  record_here e =
      let key : ℕ = length s.key_bytes in
      let k : total (key_pieces key) ≡ key_size key = key_total key in
      let q : p + opening_length s.first + 23 + 6 ≡ p + count_length (is_first i) + 11 + 6 = omega (arith, opening_is) in
      record {
        count_opens =
            ap (starts_with (count_opening (is_first i))) (drop_at head (g ++ rest) p refl)
            ∙ starts_with_append (count_opening (is_first i)) g rest (starts_length (count_opening (is_first i)) g e) ∙ e;
        flag_is = ap (λ (z : Sector). z.flag) read.sector_is ∙ count_here 0 (omega arith);
        number_is = ap (λ (z : Sector). z.number) read.sector_is ∙ count_here 5 (omega arith);
        key_length_is = lengths.key_length_holds ∙ count_here 6 (omega arith);
        data_length_is = lengths.data_length_holds ∙ ap₂ word (count_here 7 (omega arith)) (count_here 8 (omega arith));
        key_place_holds = ap (pick (eqb key 0) 0) q;
        data_place_holds = omega (arith, q, k);
        end_place = omega (arith, block_here, offset_here, k);
        gap_least = omega (arith, end_here, lengths.reaches);
        gap_unmarked = gap_here;
      }

none_listed : (xs : List Placed) → none (map listed xs) ≡ none xs
none_listed [] = refl
none_listed (x ∷ xs) = refl

-- The records of spans that are read follow each other.
reads_follow : (head : List ℕ) (h : Home) (i : ℕ) (x : Settled) (gs : List (List ℕ)) (ss : List Sector) → Shape i gs → clean_spans i gs ≡ true
    → Reads h i x (length head) gs ss
    → Following (head ++ joined gs) (is_first i) (length head) (map listed (placed_from (length head) gs ss))
unfolding placed_from count_opening clean_spans
reads_follow head h i x [] [] v k e = let n : length head ≡ length (head ++ []) = omega (arith, length-append head []) in n
reads_follow head h i x [] (s ∷ ss) v k e = absurd e
reads_follow head h i x (g ∷ gs) [] v k e = absurd e
reads_follow head h i x (g ∷ gs) (s ∷ ss) v k e =
    let clean = and_both (clean_span i g) (clean_spans (suc i) gs) k in
    let p : ℕ = length head in
    let rest : List ℕ = joined gs in
    let a = read_inv h i x p (none gs) g s e.0 in
    let f : s.first ≡ is_first i = read_first h i x (none gs) g s a in
    let n : length (head ++ g) ≡ p + length g = length-append head g in
    let later : Following ((head ++ g) ++ rest) false (length (head ++ g)) (map listed (placed_from (length (head ++ g)) gs ss)) =
    reads_follow (head ++ g) h (suc i) (settle x s) gs ss (shape_tail i g gs v) clean.1 (subst (λ (q : ℕ). Reads h (suc i) (settle x s) q gs ss) (sym n) e.1) in (
      subst (λ (b : Bool). RecordAt (head ++ (g ++ rest)) (is_first i) b p (listed (record { place = p; span = g; sector = s })))
          (sym (none_listed (placed_from (p + length g) gs ss) ∙ none_placed h (suc i) (settle x s) (p + length g) gs ss e.1))
          (record_here head g rest h i x (none gs) s a f clean.0 (opening_there i g gs v a.opened)),
      rw (leads head g rest h i x (none gs) s a f clean.0) (rw (n, append_assoc head g rest) at later),
    )

-- The pieces behind a place fill the track from there on.
pub follow_fill : (c : List ℕ) (first : Bool) (p : ℕ) (rs : List Listed) → Following c first p rs → p + total (record_pieces c first rs) ≡ length c
unfolding record_pieces sector_pieces
follow_fill c first p [] e = omega (arith, e)
follow_fill c first p (r ∷ rs) (v, e) =
    let k : List ℕ = key_pieces r.key_length in
    let b : List ℕ = block_length c r ∷ r.gap ∷ [] in
    omega (
      arith,
      total_append (count_length first ∷ 11 ∷ (k ++ b)) (record_pieces c false rs),
      total_append k b,
      v.end_place,
      follow_fill c false (r.end + r.gap) rs e,
    )

-- The records of an accepted track follow each other from the opening of sector 0's count to index.
pub records_follow : (c : List ℕ) (a : Accepted) → accept_cells c ≡ good a → Following c true (first_count_place a.home.place) (map listed a.sectors)
records_follow c a e =
    let t = accepted_track c a e in
    let p : ℕ = first_count_place a.home.place in
    let head : List ℕ = take p c in
    let gs : List (List ℕ) = spans_of a.home c in
    let n : length head ≡ p = t.1.head_length_holds in
    let f : Following (head ++ joined gs) true (length head) (map listed (placed_from (length head) gs t.0)) =
    reads_follow head a.home 0 unsettled gs t.0 t.1.shape t.1.clean (subst (λ (q : ℕ). Reads a.home 0 unsettled q gs t.0) (sym n) t.1.reads) in
    subst (λ (y : Accepted). Following c true p (map listed y.sectors)) t.3 (rw (n, t.2) at f)

-- Its pieces add up to L, each as long as the layout says and each gap as its record says; and end and gap of each record lead to the opening of the next one's count, those of the last to index.
pub list_layout : (n : ℕ) (t m : List ℕ) (a : Accepted) (rs : List Listed) → accept t m ≡ good a → list n t m ≡ good rs
    → (total (track_pieces (cells t m) a.home.place rs) ≡ length t) × Following (cells t m) true (first_count_place a.home.place) rs
unfolding track_pieces list
list_layout n t m a rs e f =
    let g = accepted_pair t m a e in
    let l : most_sectors ≤ n = leb-true most_sectors n (require_good (leb most_sectors n) lent_wrong _ rs f).0 in
    let same : map listed a.sectors ≡ rs = good_inj (map listed a.sectors) rs (sym (list_records n t m a l e) ∙ f) in
    let k : Following (cells t m) true (first_count_place a.home.place) rs = subst (Following (cells t m) true (first_count_place a.home.place)) same (records_follow (cells t m) a g.1) in
    (omega (arith, follow_fill (cells t m) true (first_count_place a.home.place) rs k, (lent_length t m g.0).0), k)
