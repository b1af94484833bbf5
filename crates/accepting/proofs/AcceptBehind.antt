-- The track behind its home: what each refusal and each good step give.
use mathlib.Core.Path.{◌≡◌, refl, sym, ap, ◌∙◌}
use Prim.Native.Nat.{ℕ, zero, suc, ◌+◌, ◌≤◌}
use native.Mathlib.Omega.{arith}
use mathlib.Core.Bool.{Bool, true, false, not}
use mathlib.Core.List.{List, [], ◌∷◌}
use lib.ListN.{length, drop}
use lib.Dec.{leb, eqb}
use borrow.Author.Tests.{leb-true, eqb-true}
use Rattle.format.specs.Answer.{Answer, lent_wrong, first_count_missing, sector_repeated}
use Rattle.format.specs.Judged.{Judged, good, refused, then, answer_of}
use Rattle.format.specs.Lent.{length_right, lent_for_writing, lent_for_reading, cells}
use Rattle.format.specs.Opening.{starts_with, plain_opening}
use Rattle.format.specs.Home.{Home, judge_home, first_count_place}
use Rattle.format.specs.Count.{Settled, unsettled, count_number}
use Rattle.format.specs.Span.{before_opening, later_spans, spans, none}
use Rattle.format.specs.Sector.{Sector, opening_length, is_first, sector_in, settle, judge_sector, read_span}
use Rattle.format.specs.Accept.{judge_marks, read_spans, Placed, placed_from, among, judge_numbers, Accepted, spans_of, first_count_end, judge_behind, accept_cells, accept}
use Rattle.base.proofs.Tests.{and_both}
use Rattle.format.proofs.Sector.ReadSector.{read_inv}
use Rattle.format.proofs.Sector.ReadsAs.{Reads, read_reads, reads_read}
use Rattle.format.proofs.Spans.Marks.{marks_clean}
use Rattle.format.proofs.Spans.StrayMark.{marks_stray}
use Rattle.accepting.specs.Starts.{starts_in}
use Rattle.accepting.specs.Accepting.{NoStrayMark, numbers_in}
use Rattle.accepting.proofs.AcceptAnswers.{sector_zero}
use Rattle.format.proofs.Base.Judged.{refusal_stays, answer_then, require_zero, then_zero}
use Rattle.accepting.proofs.AcceptFirst.{opens_first_lem}

-- A span is good where its answer is 0.
read_zero : (h : Home) (i : ℕ) (x : Settled) (p : ℕ) (last : Bool) (g : List ℕ) → (answer_of (read_span h i x p last g)).number ≡ 0 → (s : Sector) × (read_span h i x p last g ≡ good s)
unfolding read_span
read_zero h zero x p last g e =
    let o = require_zero (starts_with plain_opening g) (first_count_missing p) (judge_sector h 0 x p last (drop 6 g)) (λ q. omega arith) e in
    (sector_in true (drop 6 g), rw o.0 (sector_zero h 0 x p last (drop 6 g) o.1))
read_zero h (suc i) x p last g e = (sector_in false (drop 8 g), sector_zero h (suc i) x p last (drop 8 g) e)

-- And so are spans.
reads_zero : (h : Home) (i : ℕ) (x : Settled) (p : ℕ) (gs : List (List ℕ)) → (answer_of (read_spans h i x p gs)).number ≡ 0 → (ss : List Sector) × (read_spans h i x p gs ≡ good ss)
unfolding read_spans
reads_zero h i x p [] e = ([], refl)
reads_zero h i x p (g ∷ gs) e =
    let a = read_zero h i x p (none gs) g (then_zero (read_span h i x p (none gs) g) _ e) in
    let s : Sector = a.0 in
    let f : (answer_of (then (read_spans h (suc i) (settle x s) (p + length g) gs) (λ ss. good (s ∷ ss)))).number ≡ 0 = rw a.1 at e in
    let b = reads_zero h (suc i) (settle x s) (p + length g) gs (then_zero (read_spans h (suc i) (settle x s) (p + length g) gs) _ f) in
    (s ∷ b.0, reads_read h i x p (g ∷ gs) (s ∷ b.0) (a.1, read_reads h (suc i) (settle x s) (p + length g) gs b.0 b.1))

-- The numbers of the sectors are those in their spans.
numbers_placed : (h : Home) (i : ℕ) (x : Settled) (p : ℕ) (gs : List (List ℕ)) (ss : List Sector) (seen : List ℕ) → Reads h i x p gs ss → judge_numbers seen (placed_from p gs ss) ≡ numbers_in seen i p gs
unfolding judge_numbers placed_from numbers_in sector_in
numbers_placed h i x p [] [] seen e = refl
numbers_placed h i x p [] (s ∷ ss) seen e = absurd e
numbers_placed h i x p (g ∷ gs) [] seen e = absurd e
numbers_placed h i x p (g ∷ gs) (s ∷ ss) seen e =
    let n : s.number ≡ count_number (drop (opening_length (is_first i)) g) = ap (λ (z : Sector). z.number) (read_inv h i x p (none gs) g s e.0).sector_is in
    rw (n, numbers_placed h (suc i) (settle x s) (p + length g) gs ss (count_number (drop (opening_length (is_first i)) g) ∷ seen) e.1)

-- What is known of the lengths of a pair that is lent for writing within the rule.
record Lent (t m : List ℕ) : Type 0 where
  lengths : length m ≡ length t
  least : 3815 ≤ length t
  most : length t ≤ 4002

lent_lengths : (t m : List ℕ) → lent_for_writing (length t) (length m) ≡ true → Lent t m
unfolding lent_for_writing length_right
lent_lengths t m w =
    let k = and_both (length_right (length t)) (eqb (length m) (length t)) w in
    let r = and_both (leb 3815 (length t)) (leb (length t) 4002) k.0 in
    record { lengths = eqb-true (length m) (length t) k.1; least = leb-true 3815 (length t) r.0; most = leb-true (length t) 4002 r.1 }

-- It has at most 4,002 bytes.
pub lent_longest : (t m : List ℕ) → lent_for_writing (length t) (length m) ≡ true → length t ≤ 4002
lent_longest t m e = (lent_lengths t m e).most

-- A track of a right length, on which no mark is stray behind a home at q.
pub unstrayed : (q : ℕ) (t m ns : List ℕ) → q ≤ 37 → lent_for_writing (length t) (length m) ≡ true → judge_marks (q + 25 + 18) 0 0 (cells t m) ≡ good tt → ns ≡ starts_in 0 (cells t m) → NoStrayMark (q + 25) t m ns
unstrayed q t m ns l e j s =
    let k = lent_lengths t m e in
    record { lengths = k.lengths; within = k.most; reach = omega (arith, k.least); judged = j; places = s }

-- The track c behind the home h.
module _ (h : Home) (c : List ℕ) where
  -- A mark is stray.
  pub behind_stray : (a : Answer) → refused a ≡ judge_marks (h.place + 25 + 18) 0 0 c → a ≡ answer_of (judge_behind h c)
  unfolding judge_behind
  behind_stray a e = rw (sym e)

  module _ (e : good tt ≡ judge_marks (h.place + 25 + 18) 0 0 c) (b : Answer)
      (r : b ≡ answer_of (read_spans h 0 unsettled (h.place + 25) (spans (drop (h.place + 25) c)))) where
    -- A sector is refused.
    pub behind_refused : (b.number ≡ 0 → ⊥) → b ≡ answer_of (judge_behind h c)
    unfolding judge_behind
    behind_refused n =
        rw (sym e)
        (r ∙ sym (refusal_stays (read_spans h 0 unsettled (h.place + 25) (spans (drop (h.place + 25) c))) _ (λ z. n (ap (λ (a : Answer). a.number) r ∙ z))))

    read_good : b.number ≡ 0 → (ss : List Sector) × (read_spans h 0 unsettled (h.place + 25) (spans (drop (h.place + 25) c)) ≡ good ss)
    read_good z = reads_zero h 0 unsettled (h.place + 25) (spans (drop (h.place + 25) c)) (ap (λ (a : Answer). a.number) (sym r) ∙ z)

    -- All sectors are good, and sector 0 opens.
    pub behind_opened : b.number ≡ 0 → starts_with plain_opening (drop (h.place + 25) c) ≡ true
    unfolding spans
    behind_opened z = go (read_good z).0 (read_reads h 0 unsettled (h.place + 25) (spans (drop (h.place + 25) c)) (read_good z).0 (read_good z).1)
      where
        d : List ℕ
        d = drop (h.place + 25) c

        go : (ss : List Sector) → Reads h 0 unsettled (h.place + 25) (spans d) ss → starts_with plain_opening d ≡ true
        go [] q = absurd q
        go (s ∷ ss) q =
            sym (opens_first_lem d (marks_clean (h.place + 25 + 18) (h.place + 25) c refl (sym e)).2)
            ∙ (read_inv h 0 unsettled (h.place + 25) (none (later_spans d)) (before_opening d) s q.0).opened refl

    -- All sectors are good, and their numbers decide.
    pub behind_numbers : b.number ≡ 0 → answer_of (numbers_in [] 0 (h.place + 25) (spans (drop (h.place + 25) c))) ≡ answer_of (judge_behind h c)
    unfolding judge_behind
    behind_numbers z =
        let g = read_good z in
        let gs : List (List ℕ) = spans (drop (h.place + 25) c) in
        let n = numbers_placed h 0 unsettled (h.place + 25) gs g.0 [] (read_reads h 0 unsettled (h.place + 25) gs g.0 g.1) in
        sym (rw (sym e, g.1) (answer_then (judge_numbers [] (placed_from (h.place + 25) gs g.0)) (λ _. placed_from (h.place + 25) gs g.0) ∙ ap answer_of n))

-- No mark is stray where the answer is 0.
marks_zero : (e : ℕ) (c : List ℕ) → (answer_of (judge_marks e 0 0 c)).number ≡ 0 → judge_marks e 0 0 c ≡ good tt
marks_zero e c z = go (judge_marks e 0 0 c) refl z
  where
    go : (j : Judged (Unit {0})) → judge_marks e 0 0 c ≡ j → (answer_of j).number ≡ 0 → j ≡ good tt
    go (good u) q z = refl
    go (refused a) q z = absurd (omega (arith, ap (λ (b : Answer). b.number) (marks_stray e c a q).1))

-- No number is repeated where the answer is 0.
numbers_zero : (seen : List ℕ) (xs : List Placed) → (answer_of (judge_numbers seen xs)).number ≡ 0 → judge_numbers seen xs ≡ good tt
unfolding judge_numbers
numbers_zero seen [] z = refl
numbers_zero seen (x ∷ xs) z =
    let n : ℕ = x.sector.number in
    let r = require_zero (not (among n seen)) (sector_repeated x.place) (judge_numbers (n ∷ seen) xs) (λ q. omega arith) z in
    rw r.0 (numbers_zero (n ∷ seen) xs r.1)

behind_all : (h : Home) (c : List ℕ) (ss : List Sector) → judge_marks (first_count_end h.place) 0 0 c ≡ good tt
    → read_spans h 0 unsettled (first_count_place h.place) (spans_of h c) ≡ good ss → judge_numbers [] (placed_from (first_count_place h.place) (spans_of h c) ss) ≡ good tt
    → (xs : List Placed) × (judge_behind h c ≡ good xs)
unfolding judge_behind
behind_all h c ss m r n = (placed_from (first_count_place h.place) (spans_of h c) ss, rw (m, r, n))

-- All that is behind the home is good where the answer is 0.
behind_zero : (h : Home) (c : List ℕ) → (answer_of (judge_behind h c)).number ≡ 0 → (xs : List Placed) × (judge_behind h c ≡ good xs)
unfolding judge_behind
behind_zero h c z =
    let p : ℕ = first_count_place h.place in
    let m = marks_zero (first_count_end h.place) c (then_zero (judge_marks (first_count_end h.place) 0 0 c) _ z) in
    let y = rw m at z in
    let r = reads_zero h 0 unsettled p (spans_of h c) (then_zero (read_spans h 0 unsettled p (spans_of h c)) _ y) in
    let xs : List Placed = placed_from p (spans_of h c) r.0 in
    let w : (answer_of (then (judge_numbers [] xs) (λ _. good xs))).number ≡ 0 = rw r.1 at y in
    behind_all h c r.0 m r.1 (numbers_zero [] xs (then_zero (judge_numbers [] xs) _ w))

-- A track is accepted by its home and what is behind it.
accept_behind : (h : Home) (c : List ℕ) → judge_home c ≡ good h → accept_cells c ≡ then (judge_behind h c) (λ xs. good (record { home = h; sectors = xs }))
unfolding accept_cells
accept_behind h c e = rw e

-- What is handed on of an accepted track: its home.
abbrev home_only : Judged Accepted → Judged Home
home_only j = then j (λ a. good a.home)

-- The pair is not lent within the rule.
pub accept_lent : (t m : List ℕ) → lent_for_reading t m ≡ false → home_only (accept t m) ≡ refused lent_wrong
unfolding accept
accept_lent t m e = rw e

module _ (t m : List ℕ) (e : lent_for_reading t m ≡ true) where
  -- Its home is refused.
  pub accept_home : (a : Answer) → refused a ≡ judge_home (cells t m) → home_only (accept t m) ≡ refused a
  unfolding accept accept_cells
  accept_home a j = rw (e, sym j)

  module _ (h : Home) (j : good h ≡ judge_home (cells t m)) (b : Answer) (r : b ≡ answer_of (judge_behind h (cells t m))) where
    -- What is behind its home is refused.
    pub accept_refused : (b.number ≡ 0 → ⊥) → home_only (accept t m) ≡ refused b
    unfolding accept
    accept_refused n = rw (e, accept_behind h (cells t m) (sym j)) (go (judge_behind h (cells t m)) r)
      where
        go : (k : Judged (List Placed)) → b ≡ answer_of k → home_only (then k (λ xs. good (record { home = h; sectors = xs }))) ≡ refused b
        go (good xs) q = absurd (n (ap (λ (a : Answer). a.number) q))
        go (refused a) q = ap {B = Judged Home} refused (sym q)

    -- All is good.
    pub accept_good : b.number ≡ 0 → home_only (accept t m) ≡ good h
    unfolding accept
    accept_good z =
        let g = behind_zero h (cells t m) (ap (λ (a : Answer). a.number) (sym r) ∙ z) in
        rw (e, accept_behind h (cells t m) (sym j), g.1)
