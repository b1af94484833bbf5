-- A track whose marked bytes are all FF goes to bit cells and comes back the same, and so does a legal cell string that goes to a track.
use mathlib.Core.Path.{◌≡◌, refl, sym, ap, ap₂, ◌∙◌, subst}
use Prim.Native.Nat.{ℕ, zero, suc, ◌+◌, ◌*◌, ◌<◌}
use native.Mathlib.Omega.{arith}
use mathlib.Core.Bool.{Bool, true, false}
use mathlib.Core.List.{List, [], ◌∷◌}
use lib.ListN.{length, get_or}
use lib.Seq.{ext_get_or}
use lib.Dec.{eqb}
use borrow.Author.Tests.{eqb-true, eqb-false, eq-eqb}
use Rattle.crc.specs.Halves.{AllBytes}
use Rattle.crc.proofs.Bytes.{all_bytes, byte_at}
use Rattle.format.specs.Answer.{lent_wrong}
use Rattle.format.specs.Judged.{good}
use Rattle.format.specs.Lent.{length_right, marks_legal, lent_for_writing, lent_for_reading}
use Rattle.format.specs.Written.{Pair}
use Rattle.format.proofs.Base.Judged.{good_inj, then_good, require_good}
use Rattle.format.proofs.Base.Marks.{mark_at_lem, marks_at}
use Rattle.base.proofs.Tests.{cases, and_both, and_make}
use Rattle.format.proofs.Track.Pairs.{lent_marks, lent_legal}
use Rattle.pattern.specs.Pattern.{first_cells, second_cells, clocks_for, recordable, clocks_in, data_in, legal_pattern, mark_in, cell_bytes}
use Rattle.bitcells.specs.Each.{each_pattern, each_byte, judge_each}
use Rattle.bitcells.specs.FromCells.{lent_from, read_pair, from_cells}
use Rattle.bitcells.specs.ToCells.{lent_to, written_cells, to_cells}
use Rattle.bitcells.specs.Legal.{LegalCells, MarkedFF}
use Rattle.pattern.proofs.Inverse.{data_written, first_read, second_read, data_byte}
use Rattle.bitcells.proofs.Each.{length_pattern, get_d_pattern, length_each, get_d_each, pattern_written, length_written}
use Rattle.bitcells.proofs.FirstFault.{each_holds, holds_each}
use Rattle.pattern.proofs.Legal.{legal_written, mark_written, legal_clocks, legal_marked, mark_legal}

-- What each byte and its mark give is a list that is known place by place.
each_is : (f : ℕ → ℕ → ℕ) (t m r : List ℕ) → length m ≡ length t → length r ≡ length t
    → ((i : ℕ) → i < length t → f (get_or t i 0) (get_or m i 0) ≡ get_or r i 0) → each_byte f t m ≡ r
each_is f t m r e k h =
    ext_get_or 0 (each_byte f t m) r (omega (arith, length_each f t m))
    (λ i l. let n : i < length t = omega (arith, length_each f t m) in get_d_each f t m i 0 n (omega arith) ∙ h i n)

module _ (t m : List ℕ) (lent : lent_for_reading t m ≡ true) (bytes : AllBytes t) (marked : MarkedFF t m) where
  long : length m ≡ length t
  long = lent_marks t m lent

  legal : (i : ℕ) → i < length t → get_or m i 0 < 2
  legal i l = mark_at_lem m (lent_legal t m lent) i (omega (arith, long))

  can_record : (i : ℕ) → i < length t → recordable (get_or t i 0) (get_or m i 0) ≡ true
  unfolding recordable
  can_record i l =
      cases (eqb (get_or m i 0) 0)
      (λ e. rw e)
      (λ e.
      let n = eqb-false (get_or m i 0) 0 e in
      let o : get_or m i 0 ≡ 1 = omega (arith, legal i l) in
      rw (e, eq-eqb (get_or t i 0) 255 (marked i l o)))

  -- Every byte can be recorded with its mark,
  each_recordable : judge_each 0 (each_byte recordable t m) ≡ good tt
  each_recordable =
      holds_each 0 (each_byte recordable t m) (λ i l.
      let n : i < length t = omega (arith, length_each recordable t m) in
      get_d_each recordable t m i false n (omega (arith, long)) ∙ can_record i n)

  -- its bit cells are legal,
  abbrev legal_as : ℕ → ℕ → Bool
  legal_as b k = legal_pattern (first_cells (clocks_for k) b) (second_cells (clocks_for k) b)

  each_legal : judge_each 0 (each_pattern legal_pattern (written_cells t m)) ≡ good tt
  each_legal =
      ap (judge_each 0) (pattern_written legal_pattern t m)
      ∙ holds_each 0 (each_byte legal_as t m) (λ i l.
      let n : i < length t = omega (arith, length_each legal_as t m) in
      get_d_each legal_as t m i false n (omega (arith, long)) ∙ legal_written (get_or t i 0) (get_or m i 0) (byte_at t bytes i n) (can_record i n))

  -- and they are read as the byte and its mark.
  track_read : each_pattern data_in (written_cells t m) ≡ t
  track_read =
      pattern_written data_in t m
      ∙ each_is (λ b k. data_in (first_cells (clocks_for k) b) (second_cells (clocks_for k) b)) t m t long refl
      (λ i l. data_written (clocks_for (get_or m i 0)) (get_or t i 0) (byte_at t bytes i l))

  marks_read : each_pattern mark_in (written_cells t m) ≡ m
  marks_read =
      pattern_written mark_in t m
      ∙ each_is (λ b k. mark_in (first_cells (clocks_for k) b) (second_cells (clocks_for k) b)) t m m long long
      (λ i l. mark_written (get_or t i 0) (get_or m i 0) (byte_at t bytes i l) (legal i l))

  lent_to_lem : lent_to t m (2 * length t) ≡ true
  unfolding lent_to
  lent_to_lem = and_make lent (eq-eqb (2 * length t) (2 * length t) refl)

  lent_from_lem : lent_from (length (written_cells t m)) (length t) (length t) ≡ true
  unfolding lent_from lent_for_reading lent_for_writing
  lent_from_lem =
      let w = (and_both (lent_for_writing (length t) (length m)) (marks_legal m) lent).0 in
      let r = (and_both (length_right (length t)) (eqb (length m) (length t)) w).0 in
      let n : length (written_cells t m) ≡ 2 * length t = omega (arith, length_written t m, long) in
      and_make (and_make r (eq-eqb (length t) (length t) refl)) (eq-eqb (length (written_cells t m)) (2 * length t) n)

  -- A track whose marked bytes are all FF goes to bit cells, and they are read as the same track and marks.
  pub read_back : (to_cells t m (2 * length t) ≡ good (written_cells t m))
      × (from_cells (written_cells t m) (length t) (length t) ≡ good (record { track = t; marks = m }))
  unfolding to_cells from_cells
  read_back = (
    rw (lent_to_lem, each_recordable),
    rw (lent_from_lem, each_legal) (ap₂ (λ (u v : List ℕ). good (record { track = u; marks = v })) track_read marks_read),
  )

-- Cell bytes that are legal patterns are written again from what they stand for.
cells_again : (p n : ℕ) (x : List ℕ) → length x ≡ 2 * n → AllBytes x → judge_each p (each_pattern legal_pattern x) ≡ good tt
    → written_cells (each_pattern data_in x) (each_pattern mark_in x) ≡ x
unfolding AllBytes each_pattern each_byte judge_each written_cells cell_bytes
cells_again p n [] e b h = refl
cells_again p n (x ∷ []) e b h = absurd (omega arith)
cells_again p zero (x ∷ y ∷ xs) e b h = absurd (omega arith)
cells_again p (suc n) (x ∷ y ∷ xs) e b h =
    let r = require_good (legal_pattern x y) _ (judge_each (suc p) (each_pattern legal_pattern xs)) tt h in
    let c : clocks_for (mark_in x y) ≡ clocks_in x y = legal_clocks x y r.0 in
    let first : first_cells (clocks_for (mark_in x y)) (data_in x y) ≡ x = ap (λ (k : ℕ). first_cells k (data_in x y)) c ∙ first_read x y b.0 in
    let second : second_cells (clocks_for (mark_in x y)) (data_in x y) ≡ y = ap (λ (k : ℕ). second_cells k (data_in x y)) c ∙ second_read x y b.1.0 in
    rw (first, second) (ap (λ (z : List ℕ). x ∷ y ∷ z) (cells_again (suc p) n xs (omega arith) b.1.1 r.1))

module _ (x : List ℕ) (l k : ℕ) (bytes : AllBytes x) where
  -- A pair that is read from bit cells is what they stand for, of the length asked for,
  read_is : (q : Pair) → from_cells x l k ≡ good q → (length_right l ≡ true) × (length x ≡ 2 * l) × (judge_each 0 (each_pattern legal_pattern x) ≡ good tt) × (read_pair x ≡ q)
  unfolding from_cells lent_from lent_for_writing
  read_is q e =
      let a = require_good (lent_from (length x) l k) lent_wrong _ q e in
      let b = then_good (judge_each 0 (each_pattern legal_pattern x)) (λ _. good (read_pair x)) q a.1 in
      let c = and_both (lent_for_writing l k) (eqb (length x) (2 * l)) a.0 in
      ((and_both (length_right l) (eqb k l) c.0).0, eqb-true (length x) (2 * l) c.1, b.1, good_inj (read_pair x) q b.2)

  module _ (n : length_right l ≡ true) (two : length x ≡ 2 * l) (h : judge_each 0 (each_pattern legal_pattern x) ≡ good tt) where
    length_track : length (each_pattern data_in x) ≡ l
    length_track = omega (arith, length_pattern data_in x)

    length_marks : length (each_pattern mark_in x) ≡ l
    length_marks = omega (arith, length_pattern mark_in x)

    lent_read : lent_for_reading (each_pattern data_in x) (each_pattern mark_in x) ≡ true
    unfolding lent_for_reading lent_for_writing
    lent_read =
        let legal = marks_at (each_pattern mark_in x) (λ i j.
        rw (get_d_pattern mark_in x i 0 (omega (arith, length_marks))) (mark_legal (get_or x (2 * i) 0) (get_or x (2 * i + 1) 0))) in
        and_make (and_make (ap length_right length_track ∙ n) (eq-eqb _ _ (length_marks ∙ sym length_track))) legal

    bytes_read : AllBytes (each_pattern data_in x)
    bytes_read =
        all_bytes (each_pattern data_in x) (λ i j.
        rw (get_d_pattern data_in x i 0 (omega (arith, length_track))) (data_byte (get_or x (2 * i) 0) (get_or x (2 * i + 1) 0)))

    marked_read : MarkedFF (each_pattern data_in x) (each_pattern mark_in x)
    marked_read i j o =
        let s : 2 * i + 1 < length x = omega (arith, length_track) in
        let u : ℕ = get_or x (2 * i) 0 in
        let v : ℕ = get_or x (2 * i + 1) 0 in
        let g : legal_pattern u v ≡ true = sym (get_d_pattern legal_pattern x i false s) ∙ each_holds 0 (each_pattern legal_pattern x) h i (omega (arith, length_pattern legal_pattern x)) in
        get_d_pattern data_in x i 0 s ∙ legal_marked u v g (sym (get_d_pattern mark_in x i 0 s) ∙ o)

    sent_again : to_cells (each_pattern data_in x) (each_pattern mark_in x) (length x) ≡ good x
    unfolding lent_to to_cells
    sent_again =
        let t : List ℕ = each_pattern data_in x in
        let m : List ℕ = each_pattern mark_in x in
        let e : lent_to t m (length x) ≡ true = and_make lent_read (eq-eqb (length x) (2 * length t) (omega (arith, length_track))) in
        rw (e, each_recordable t m lent_read bytes_read marked_read) (ap good (cells_again 0 l x two bytes h))

  -- Whatever is read from bit cells is lent within the rule, its marked bytes are all FF, and it goes to the same bit cells.
  pub written_back : (q : Pair) → from_cells x l k ≡ good q
      → (lent_for_reading q.track q.marks ≡ true)
      × AllBytes q.track
      × MarkedFF q.track q.marks
      × (length q.track ≡ l)
      × (to_cells q.track q.marks (length x) ≡ good x)
  written_back q e =
      let r = read_is q e in
      subst (λ (z : Pair). (lent_for_reading z.track z.marks ≡ true) × AllBytes z.track × MarkedFF z.track z.marks × (length z.track ≡ l) × (to_cells z.track z.marks (length x) ≡ good x))
      r.3
      (lent_read r.0 r.1 r.2, bytes_read r.0 r.1 r.2, marked_read r.0 r.1 r.2, length_track r.0 r.1 r.2, sent_again r.0 r.1 r.2)

-- A legal cell string of a legal length is read,
legal_read : (x : List ℕ) (l : ℕ) → length_right l ≡ true → length x ≡ 2 * l → LegalCells x → from_cells x l l ≡ good (read_pair x)
unfolding from_cells lent_from lent_for_writing
legal_read x l n two legal =
    let e : lent_from (length x) l l ≡ true = and_make (and_make n (eq-eqb l l refl)) (eq-eqb (length x) (2 * l) two) in
    let h : judge_each 0 (each_pattern legal_pattern x) ≡ good tt = holds_each 0 (each_pattern legal_pattern x) (λ i j.
    let s : 2 * i + 1 < length x = omega (arith, length_pattern legal_pattern x) in
    get_d_pattern legal_pattern x i false s ∙ legal i s) in
    rw (e, h)

-- the marked bytes that it gives are all FF, and they go to the same cell string.
pub cells_back : (x : List ℕ) (l : ℕ) → length_right l ≡ true → length x ≡ 2 * l → AllBytes x → LegalCells x
    → (q : Pair) × (from_cells x l l ≡ good q) × MarkedFF q.track q.marks × (to_cells q.track q.marks (2 * l) ≡ good x)
cells_back x l n two bytes legal =
    let e : from_cells x l l ≡ good (read_pair x) = legal_read x l n two legal in
    let r = written_back x l l bytes (read_pair x) e in
    (read_pair x, e, r.2, ap (to_cells (read_pair x).track (read_pair x).marks) (sym two) ∙ r.4)
