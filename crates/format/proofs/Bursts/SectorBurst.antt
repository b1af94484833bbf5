-- A sector after a burst in its count, its key or its data block: what is read of it, and Accept's answer.
use mathlib.Core.Path.{◌≡◌, sym, ap, ap₂, ◌∙◌, subst}
use Prim.Native.Nat.{ℕ, ◌+◌, ◌≤◌}
use native.Mathlib.Omega.{arith}
use mathlib.Core.Bool.{Bool, true, false}
use mathlib.Core.List.{List, ◌++◌}
use lib.ListN.{length, take, drop}
use lib.Seq.{length-take-le, take_at}
use lib.Dec.{leb}
use Rattle.crc.specs.Check.{coefficients}
use Rattle.crc.specs.Burst.{Burst}
use Rattle.format.specs.Answer.{count_check_wrong}
use Rattle.format.specs.Judged.{good, refused}
use Rattle.format.specs.Lent.{cells}
use Rattle.format.specs.Opening.{starts_with, plain_opening, closed_after}
use Rattle.format.specs.Fault.{sound, faulty, check_wrong}
use Rattle.format.specs.Home.{Home, judge_home, first_count_place}
use Rattle.format.specs.Count.{unsettled, count_number, count_fits, count_closed, count_fields_right}
use Rattle.format.specs.Block.{blocks_fit, test_key, test_data}
use Rattle.format.specs.Blocks.{Wanted, the_key, the_data, offset_of, length_of, test_of, wrong_at}
use Rattle.format.specs.Sector.{opening_length, is_first}
use Rattle.format.specs.Accept.{Placed, placed_rest, placed_start, Accepted, judge_marks, spans_of, first_count_end, accept}
use Rattle.format.proofs.Sector.Sizes.{gap_least, rest_least}
use Rattle.format.proofs.Sector.BlocksJudged.{block_fits}
use Rattle.format.proofs.Sector.FaultBytes.{tested_fault}
use Rattle.format.proofs.Sector.ReadSector.{read_unclosed, span_least, count_make}
use Rattle.format.proofs.Sector.OtherRest.{with_rest, rest_with_rest, opened_with_rest}
use Rattle.format.proofs.Faults.AcceptFault.{Reached, rest_reached, ComesTo, comes_accept, faulty_accept}
use Rattle.format.proofs.Bursts.Field.{burst_unclosed}
use Rattle.format.proofs.Bursts.Rest.{number_kept, closed_kept, fields_kept, blocks_kept, key_kept, place_kept, burst_tested}
use Rattle.format.proofs.Bursts.AlteredSpan.{stands_rest, stands_fit, home_altered, marks_altered, spans_altered_lem}
use Rattle.format.proofs.Bursts.AlteredBytes.{laid_parts}
use Rattle.format.proofs.Bursts.AlteredSector.{AlteredSector}

-- A sector y of which bytes behind the count's opening are altered.
module _ (t m u : List ℕ) (a : Accepted) (y : Placed) (q off n : ℕ) (v : AlteredSector t m u a y q off n) where
  -- The span to which Accept comes there.
  abbrev pub reached : Reached
  reached = record { position = v.stands.position; shared = v.stands.shared; place = y.place; last = v.stands.last; span = with_rest v.stands.position y.span v.rest }

  -- On the track u home and marks are judged as before, and Accept comes to that span.
  pub reached_on : (judge_home (cells u m) ≡ good a.home) × (judge_marks (first_count_end a.home.place) 0 0 (cells u m) ≡ good tt)
      × ComesTo a.home 0 unsettled (first_count_place a.home.place) (spans_of a.home (cells u m)) reached
  reached_on =
      let h : Home = a.home in (
        ap judge_home v.cells_are ∙ home_altered y v.rest v.head h v.spans v.sectors v.track v.member,
        ap (judge_marks (first_count_end h.place) 0 0) v.cells_are ∙ marks_altered y v.rest v.head h v.spans v.sectors v.track v.member v.unmarked_rest v.length_rest,
        subst (λ (ks : List (List ℕ)). ComesTo h 0 unsettled (first_count_place h.place) ks reached)
            (sym (ap (spans_of h) v.cells_are ∙ spans_altered_lem y v.rest v.head h v.spans v.sectors v.track v.member v.unmarked_rest)) v.stands.comes,
      )

  -- The opening lies in it, and 43 bytes more.
  opening_inside : opening_length (is_first v.stands.position) + 43 ≤ length y.span
  opening_inside = omega (arith, span_least a.home v.stands.position v.stands.shared v.stands.last y.span y.sector v.stands.read, rest_least v.stands.last, gap_least v.stands.last)

  -- What follows the opening in that span is the altered rest.
  reached_rest : rest_reached reached ≡ v.rest
  reached_rest = rest_with_rest v.stands.position y.span v.rest (omega (arith, opening_inside))

  -- Sector 0's count still opens.
  reached_opened : v.stands.position ≡ 0 → starts_with plain_opening (with_rest v.stands.position y.span v.rest) ≡ true
  reached_opened = opened_with_rest v.stands.position y.span v.rest (omega (arith, opening_inside)) v.stands.read.opened

  -- The count fits as before.
  pub fits_still : count_fits v.rest ≡ true
  unfolding count_fits
  fits_still = ap (λ (k : ℕ). leb 12 k) (v.length_rest ∙ ap length (stands_rest y v.rest v.stands)) ∙ v.stands.read.count_fits_holds

  -- Where its check or closing byte is wrong Accept gives 7 at its opening.
  pub unclosed_accept : count_closed v.rest ≡ false → accept u m ≡ refused (count_check_wrong y.place)
  unclosed_accept e =
      comes_accept u m a.home reached (count_check_wrong y.place) v.lent reached_on.0 reached_on.1 reached_on.2
      (read_unclosed a.home v.stands.position v.stands.shared y.place v.stands.last (with_rest v.stands.position y.span v.rest) reached_opened (ap count_fits reached_rest ∙ fits_still) (ap count_closed reached_rest ∙ e))

  -- What is read of a key or data block w that is altered: the count as before, and in the block a wrong check.
  pub record BlockRead (w : Wanted) : Type 0 where
    pub number_is : count_number v.rest ≡ count_number (placed_rest y)
    pub closed : count_closed v.rest ≡ true
    pub fields : count_fields_right a.home v.stands.position v.stands.shared v.rest ≡ true
    pub fits : (last : Bool) → blocks_fit last (placed_rest y) ≡ true → blocks_fit last v.rest ≡ true
    pub key : w ≡ the_data → test_key v.rest ≡ sound
    pub place : offset_of w v.rest ≡ offset_of w (placed_rest y)
    pub wrong : test_of w v.rest ≡ faulty check_wrong

  -- Before that they were sound.
  test_was : (w : Wanted) → test_of w (placed_rest y) ≡ sound
  test_was the_key = ap test_key (stands_rest y v.rest v.stands) ∙ v.stands.read.key_right
  test_was the_data = ap test_data (stands_rest y v.rest v.stands) ∙ v.stands.read.data_right

  -- Accept gives 10 or 11 at the opening of such a block, with 2 for the check.
  pub block_accept : (w : Wanted) → BlockRead w → accept u m ≡ refused (wrong_at w check_wrong (placed_start y + offset_of w (placed_rest y)))
  block_accept w k =
      faulty_accept u m w check_wrong (placed_start y + offset_of w (placed_rest y))
      (record {
        home = a.home;
        reached = reached;
        lent = v.lent;
        home_judged = reached_on.0;
        marks_judged = reached_on.1;
        comes = reached_on.2;
        faulty =
            record {
              opened = reached_opened;
              count_judged = rw reached_rest (count_make a.home v.stands.position v.stands.shared y.place v.rest fits_still k.closed k.fields);
              fits = rw reached_rest (k.fits v.stands.last (stands_fit y v.rest v.stands));
              key_sound = λ d. rw reached_rest (k.key d);
              place_is = ap₂ (λ (i j : ℕ). y.place + i + j) (ap opening_length v.stands.first_is) (sym k.place ∙ ap (offset_of w) (sym reached_rest));
              fault = rw reached_rest (tested_fault w check_wrong v.rest k.wrong);
            };
      })

-- The altered bytes are information and check of the count: after a burst it is not closed.
pub count_burst : (t m u : List ℕ) (a : Accepted) (y : Placed) (q : ℕ) (v : AlteredSector t m u a y q 0 11) → Burst 16 (coefficients (take 11 (drop q t))) (coefficients (take 11 (drop q u)))
    → count_closed v.rest ≡ false
unfolding count_closed
count_burst t m u a y q v b =
    let r : List ℕ = placed_rest y in
    let was : take 11 r ≡ take 11 (drop q t) = ap (take 11) (v.rest_was ∙ laid_parts 0 11 (take 11 (drop q t)) r v.old_size) ∙ take_at (take 11 (drop q t)) (drop 11 r) 11 v.old_size in
    let is : take 11 v.rest ≡ take 11 (drop q u) = ap (take 11) (v.rest_is ∙ laid_parts 0 11 (take 11 (drop q u)) r v.new_size) ∙ take_at (take 11 (drop q u)) (drop 11 r) 11 v.new_size in
    burst_unclosed 9 r v.rest (ap (closed_after 9) (stands_rest y v.rest v.stands) ∙ v.stands.read.count_closed_holds) (rw (was, is) b)

-- The altered bytes are information and check of the key or the data block w.
module _ (t m u : List ℕ) (a : Accepted) (y : Placed) (q : ℕ) (w : Wanted) (v : AlteredSector t m u a y q (offset_of w (placed_rest y) + 6) (length_of w (placed_rest y) + 2)) where
  -- Their offset behind the count's opening, and how many they are.
  abbrev off : ℕ
  off = offset_of w (placed_rest y) + 6

  abbrev n : ℕ
  n = length_of w (placed_rest y) + 2

  -- What stands before them, the bytes themselves before and after, and what stands behind them.
  abbrev xs : List ℕ
  xs = take off (placed_rest y)

  abbrev ys : List ℕ
  ys = take n (drop q t)

  abbrev zs : List ℕ
  zs = take n (drop q u)

  abbrev back : List ℕ
  back = drop (off + n) (placed_rest y)

  -- In these parts stand what follows the count's opening after
  rest_new : v.rest ≡ xs ++ (zs ++ back)
  rest_new = v.rest_is ∙ laid_parts off n zs (placed_rest y) v.new_size

  -- and what followed it before.
  rest_old : placed_rest y ≡ xs ++ (ys ++ back)
  rest_old = v.rest_was ∙ laid_parts off n ys (placed_rest y) v.old_size

  -- What does not turn on the altered bytes is as it was.
  still : {X : Type 0} (f : List ℕ → X) → f (xs ++ (zs ++ back)) ≡ f (xs ++ (ys ++ back)) → f v.rest ≡ f (placed_rest y)
  still f e = ap f rest_new ∙ e ∙ ap f (sym rest_old)

  -- After a burst the block has a wrong check, and all else is read as before.
  pub block_burst : (length_of w (placed_rest y) ≡ 0 → ⊥) → Burst 16 (coefficients ys) (coefficients zs) → BlockRead t m u a y q off n v w
  block_burst some b =
      let r : List ℕ = placed_rest y in
      let e : xs ++ (ys ++ back) ≡ r = sym rest_old in
      let within : off ≤ length r = omega (arith, block_fits w v.stands.last r (stands_fit y v.rest v.stands)) in
      let o : length xs ≡ offset_of w (xs ++ (ys ++ back)) + 6 = rw e (length-take-le off r within) in
      let s : length ys ≡ length_of w (xs ++ (ys ++ back)) + 2 = rw e v.old_size in
      let k : length zs ≡ length ys = v.new_size ∙ sym v.old_size in
      let nz : length_of w (xs ++ (ys ++ back)) ≡ 0 → ⊥ = λ z. some (ap (length_of w) (sym e) ∙ z) in
      let h = a.home in
      let i = v.stands.position in
      let x = v.stands.shared in
      record {
        number_is = still count_number (number_kept w xs ys zs back o s k);
        closed = still count_closed (closed_kept w xs ys zs back o s k) ∙ ap count_closed (stands_rest y v.rest v.stands) ∙ v.stands.read.count_closed_holds;
        fields = still (count_fields_right h i x) (fields_kept w xs ys zs back o s k h i x) ∙ ap (count_fields_right h i x) (stands_rest y v.rest v.stands) ∙ v.stands.read.fields_right;
        fits = λ last f. still (blocks_fit last) (blocks_kept w xs ys zs back o s k last nz) ∙ f;
        key = λ d. still test_key (key_kept w xs ys zs back o s k d) ∙ test_was t m u a y q off n v the_key;
        place = still (offset_of w) (place_kept w xs ys zs back o s k).0;
        wrong = ap (test_of w) rest_new ∙ burst_tested w xs ys zs back o s k nz (ap (test_of w) e ∙ test_was t m u a y q off n v w) b;
      }
