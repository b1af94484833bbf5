-- The sectors of an accepted track: at most 67, no two of one number, and B8 alternates.
use mathlib.Core.Path.{◌≡◌, refl, sym, ap, ◌∙◌}
use Prim.Native.Nat.{ℕ, zero, suc, ◌+◌, ◌*◌, ◌%◌, ◌≤◌, ◌<◌}
use native.Mathlib.Nat.{le_of_suc-le-suc}
use native.Mathlib.Omega.{arith}
use mathlib.Core.Bool.{Bool, true, false, not, ◌&&◌}
use mathlib.Core.List.{List, [], ◌∷◌, map}
use lib.ListN.{length, drop, get_or, length-append, length-drop, length-map}
use lib.Dec.{leb, eqb}
use borrow.Author.Tests.{eqb-true, eq-eqb, leb-true, not-true}
use Rattle.base.specs.Pick.{pick}
use Rattle.format.specs.Answer.{sector_repeated}
use Rattle.format.specs.Judged.{good}
use Rattle.format.specs.Lent.{length_right, cells}
use Rattle.format.specs.Flag.{alternation, condition, spare_bits, overflow, sequence_right, count_flag_right}
use Rattle.format.specs.Home.{Home, first_count_place}
use Rattle.format.specs.Count.{Settled, unsettled, count_flag, count_address, count_address_right, count_fields_right}
use Rattle.format.specs.Span.{before_opening, later_spans, spans, joined, none}
use Rattle.format.specs.Sector.{Sector, opening_length, is_first, settle, sector_in}
use Rattle.format.specs.Accept.{Placed, placed_from, among, judge_numbers, Accepted, spans_of, accept_cells, accept, sectors_of}
use Rattle.format.specs.Listing.{most_sectors}
use Rattle.format.proofs.Base.Judged.{require_good}
use Rattle.base.proofs.Tests.{cases, false-true, and_both}
use Rattle.format.proofs.Spans.Cutting.{joined_spans}
use Rattle.format.proofs.Track.HomeLocal.{home_window}
use Rattle.format.proofs.Sector.ReadSector.{ReadAs, rest_of, read_inv, span_least}
use Rattle.format.proofs.Track.Pairs.{accepted_pair, lent_length}
use Rattle.format.proofs.Sector.ReadsAs.{Reads, accepted_by, accepted_sectors, length_reads}

-- Spans that are read take 59 cells each, but for 8 less at index and 2 less in sector 0.
pub length_spans : (h : Home) (i : ℕ) (x : Settled) (p : ℕ) (g : List ℕ) (gs : List (List ℕ)) (ss : List Sector) → Reads h i x p (g ∷ gs) ss
    → 59 * suc (length gs) + opening_length (is_first i) ≤ length (joined (g ∷ gs)) + 16
length_spans h i x p g gs [] e = absurd e
length_spans h i x p g [] (s ∷ ss) e =
    omega (arith, length-append g [], span_least h i x true g s (read_inv h i x p true g s e.0))
length_spans h i x p g (k ∷ gs) (s ∷ ss) e =
    omega (arith, length-append g (joined (k ∷ gs)), span_least h i x false g s (read_inv h i x p false g s e.0), length_spans h (suc i) (settle x s) (p + length g) k gs ss e.1)

-- The spans of placed sectors are the spans.
spans_placed : (p : ℕ) (gs : List (List ℕ)) (ss : List Sector) → length gs ≡ length ss → map (λ (x : Placed). x.span) (placed_from p gs ss) ≡ gs
unfolding placed_from
spans_placed p [] ss e = refl
spans_placed p (g ∷ gs) [] e = absurd (omega arith)
spans_placed p (g ∷ gs) (s ∷ ss) e = ap (λ (r : List (List ℕ)). g ∷ r) (spans_placed (p + length g) gs ss (omega arith))

-- The sectors of an accepted track are sector 0 and one for each marked opening, span by span.
pub sector_spans : (c : List ℕ) (a : Accepted) → accept_cells c ≡ good a → map (λ (x : Placed). x.span) a.sectors ≡ spans_of a.home c
sector_spans c a e =
    let b = accepted_by c a e in
    let h : Home = a.home in
    let p : ℕ = first_count_place h.place in
    ap (map (λ (x : Placed). x.span)) b.placed
    ∙ spans_placed p (spans_of h c) b.sectors (length_reads h 0 unsettled p (spans_of h c) b.sectors b.reads)

-- So there is one sector for each span.
pub length_sectors : (c : List ℕ) (a : Accepted) → accept_cells c ≡ good a → length a.sectors ≡ length (spans_of a.home c)
length_sectors c a e = sym (length-map a.sectors (λ (x : Placed). x.span)) ∙ ap length (sector_spans c a e)

-- No track holds more than 67 sectors.
pub sectors_at_most_67 : (c : List ℕ) (a : Accepted) → accept_cells c ≡ good a → length c ≤ 4002 → length a.sectors ≤ 67
unfolding spans
sectors_at_most_67 c a e l =
    let b = accepted_by c a e in
    let h : Home = a.home in
    let d : List ℕ = drop (first_count_place h.place) c in
    omega (
      arith,
      length_sectors c a e,
      length_spans h 0 unsettled (first_count_place h.place) (before_opening d) (later_spans d) b.sectors b.reads,
      ap length (joined_spans d),
      length-drop (first_count_place h.place) c,
      home_window c h b.home_judged,
    )

-- So every accepted pair fits a list of 67.
pub list_suffices : (t m : List ℕ) (a : Accepted) → accept t m ≡ good a → length a.sectors ≤ most_sectors
unfolding length_right
list_suffices t m a e =
    let r = accepted_pair t m a e in
    let l = lent_length t m r.0 in
    let k = and_both (leb 3815 (length t)) (leb (length t) 4002) l.1 in
    sectors_at_most_67 (cells t m) a r.1 (omega (arith, l.0, leb-true (length t) 4002 k.1))

-- No number stands in the list twice.
abbrev pub Distinct : List ℕ → Type 0
Distinct [] = Unit {0}
Distinct (n ∷ ns) = (among n ns ≡ false) × Distinct ns

-- The numbers of sectors.
abbrev pub numbers_of : List Placed → List ℕ
numbers_of xs = map (λ x. x.sector.number) xs

unseen : (seen : List ℕ) (xs : List Placed) (n : ℕ) → judge_numbers seen xs ≡ good tt → among n seen ≡ true → among n (numbers_of xs) ≡ false
unfolding judge_numbers among
unseen seen [] n e m = refl
unseen seen (x ∷ xs) n e m =
    let k : ℕ = x.sector.number in
    let r = require_good (not (among k seen)) (sector_repeated x.place) (judge_numbers (k ∷ seen) xs) tt e in
    cases (eqb n k)
    (λ q. let z : among k seen ≡ true = ap (λ (j : ℕ). among j seen) (sym (eqb-true n k q)) ∙ m in false-true (sym (not-true (among k seen) r.0) ∙ z))
    (λ q. rw q (unseen (k ∷ seen) xs n r.1 (rw q m)))

judged_distinct : (seen : List ℕ) (xs : List Placed) → judge_numbers seen xs ≡ good tt → Distinct (numbers_of xs)
unfolding judge_numbers among
judged_distinct seen [] e = tt
judged_distinct seen (x ∷ xs) e =
    let k : ℕ = x.sector.number in
    let r = require_good (not (among k seen)) (sector_repeated x.place) (judge_numbers (k ∷ seen) xs) tt e in
    (unseen (k ∷ seen) xs k r.1 (rw (eq-eqb k k refl)), judged_distinct (k ∷ seen) xs r.1)

-- No two sectors of an accepted track carry one number.
pub numbers_distinct : (c : List ℕ) (a : Accepted) → accept_cells c ≡ good a → Distinct (numbers_of a.sectors)
numbers_distinct c a e = judged_distinct [] a.sectors (accepted_by c a e).numbers_judged

absent_at : (n : ℕ) (ns : List ℕ) (k : ℕ) → among n ns ≡ false → k < length ns → n ≡ get_or ns k 0 → ⊥
unfolding among
absent_at n [] k e l q = omega arith
absent_at n (m ∷ ns) zero e l q = false-true (sym e ∙ rw (eq-eqb n m q))
absent_at n (m ∷ ns) (suc k) e l q =
    cases (eqb n m)
    (λ t. false-true (sym e ∙ rw t))
    (λ t. absent_at n ns k (rw t at e) (le_of_suc-le-suc l) q)

distinct_at : (ns : List ℕ) (i j : ℕ) → Distinct ns → i < j → j < length ns → get_or ns i 0 ≡ get_or ns j 0 → ⊥
distinct_at [] i j d h l q = omega arith
distinct_at (n ∷ ns) i zero d h l q = omega arith
distinct_at (n ∷ ns) zero (suc j) d h l q = absent_at n ns j d.0 (le_of_suc-le-suc l) q
distinct_at (n ∷ ns) (suc i) (suc j) d h l q = distinct_at ns i j d.1 (le_of_suc-le-suc h) (le_of_suc-le-suc l) q

-- The same by positions.
pub numbers_differ : (c : List ℕ) (a : Accepted) → accept_cells c ≡ good a
    → (i j : ℕ) → i < j → j < length a.sectors → get_or (numbers_of a.sectors) i 0 ≡ get_or (numbers_of a.sectors) j 0 → ⊥
numbers_differ c a e i j h l q =
    distinct_at (numbers_of a.sectors) i j (numbers_distinct c a e) h (omega (arith, length-map a.sectors (λ (x : Placed). x.sector.number))) q

-- The flags of sectors.
abbrev pub flags_of : List Sector → List ℕ
flags_of ss = map (λ s. s.flag) ss

read_alternation : (h : Home) (i : ℕ) (x : Settled) (last : Bool) (g : List ℕ) (s : Sector) → ReadAs h i x last g s → alternation s.flag ≡ i % 2
unfolding count_fields_right count_flag_right sequence_right sector_in
read_alternation h i x last g s v =
    let r : List ℕ = rest_of i g in
    let f : ℕ = count_flag r in
    let q : count_flag_right h.flag i f ≡ true = (and_both (count_flag_right h.flag i f) (count_address_right h x (count_address r)) v.fields_right).0 in
    let w : sequence_right i f ≡ true = (and_both (eqb (condition f) (condition h.flag) && eqb (spare_bits f) 0) (sequence_right i f) q).1 in
    let b : eqb (alternation f) (i % 2) ≡ true = (and_both (eqb (alternation f) (i % 2)) (pick (eqb i 0) (eqb (overflow f) 0) true) w).0 in
    ap (λ (z : Sector). alternation z.flag) v.sector_is ∙ eqb-true (alternation f) (i % 2) b

reads_alternate : (h : Home) (i : ℕ) (x : Settled) (p : ℕ) (gs : List (List ℕ)) (ss : List Sector) → Reads h i x p gs ss
    → (k : ℕ) → k < length ss → alternation (get_or (flags_of ss) k 0) ≡ (i + k) % 2
reads_alternate h i x p [] [] e k l = absurd (omega arith)
reads_alternate h i x p [] (s ∷ ss) e k l = absurd e
reads_alternate h i x p (g ∷ gs) [] e k l = absurd e
reads_alternate h i x p (g ∷ gs) (s ∷ ss) e zero l = omega (arith, read_alternation h i x (none gs) g s (read_inv h i x p (none gs) g s e.0))
reads_alternate h i x p (g ∷ gs) (s ∷ ss) e (suc k) l =
    omega (arith, reads_alternate h (suc i) (settle x s) (p + length g) gs ss e.1 k (le_of_suc-le-suc l))

-- B8 is 0 in sector 0, 1 in the first sector after it, and alternates from there.
pub alternates : (c : List ℕ) (a : Accepted) → accept_cells c ≡ good a
    → (i : ℕ) → i < length a.sectors → alternation (get_or (flags_of (sectors_of a.sectors)) i 0) ≡ i % 2
alternates c a e i l =
    let b = accepted_by c a e in
    let h : Home = a.home in
    let n : length a.sectors ≡ length (sectors_of a.sectors) = sym (length-map a.sectors (λ (x : Placed). x.sector)) in
    rw (accepted_sectors c a b)
    (omega (arith, reads_alternate h 0 unsettled (first_count_place h.place) (spans_of h c) b.sectors b.reads i (omega (arith, n, ap length (accepted_sectors c a b)))))
