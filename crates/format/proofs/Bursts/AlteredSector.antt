-- A track that Accept accepted, of which n bytes behind the opening of one count are altered: home and marks are as before, and Accept comes to that sector.
use mathlib.Core.Path.{◌≡◌, refl, sym, ap, ◌∙◌, subst}
use Prim.Native.Nat.{ℕ, ◌+◌, ◌≤◌}
use native.Mathlib.Omega.{arith}
use mathlib.Core.Bool.{Bool, true}
use mathlib.Core.List.{List, ◌++◌, append_assoc}
use lib.ListN.{length, take, drop, length-append}
use Rattle.base.specs.Lists.{Member}
use Rattle.base.specs.Laid.{laid_at}
use Rattle.base.proofs.Laid.{length_laid}
use Rattle.format.specs.Judged.{good}
use Rattle.format.specs.Lent.{lent_for_reading, cells, unmarked}
use Rattle.format.specs.Home.{Home, first_count_place}
use Rattle.format.specs.Count.{unsettled}
use Rattle.format.specs.Block.{blocks_fit}
use Rattle.format.specs.Span.{joined}
use Rattle.format.specs.Sector.{Sector}
use Rattle.format.specs.Accept.{Placed, placed_rest, placed_start, placed_from, Accepted, spans_of, accept}
use Rattle.format.specs.Burst.{SameBut}
use Rattle.format.proofs.Spans.SpanAgrees.{clean_behind}
use Rattle.format.proofs.Track.AcceptedSpans.{Track, accepted_of, accepted_track}
use Rattle.format.proofs.Track.Pairs.{accepted_pair, lent_length}
use Rattle.format.proofs.Track.Sectors.{Distinct, numbers_of, numbers_distinct}
use Rattle.format.proofs.Bursts.AlteredSpan.{StandsIn, stands_rest, stands_fit, stands_in, altered_spans}
use Rattle.format.proofs.Bursts.AlteredBytes.{CellParts, cell_parts, part_unmarked, unmarked_laid, rest_laid, whole_laid}

-- The sector y of the accepted track t with marks m; u has other bytes from place q on, n of them, which stand from off on behind the count's opening of y.
pub record AlteredSector (t m u : List ℕ) (a : Accepted) (y : Placed) (q off n : ℕ) : Type 0 where
  -- The track t as its head and its spans.
  pub head : List ℕ
  pub spans : List (List ℕ)
  pub sectors : List Sector
  pub track : Track head a.home spans sectors
  pub member : Member y (placed_from (first_count_place a.home.place) spans sectors)
  pub distinct : Distinct (numbers_of (placed_from (first_count_place a.home.place) spans sectors))
  -- What follows the count's opening of y on u.
  pub rest : List ℕ
  pub rest_is : rest ≡ laid_at off (take n (drop q u)) (placed_rest y)
  pub rest_was : placed_rest y ≡ laid_at off (take n (drop q t)) (placed_rest y)
  pub old_size : length (take n (drop q t)) ≡ n
  pub new_size : length (take n (drop q u)) ≡ n
  pub unmarked_rest : unmarked rest ≡ true
  pub length_rest : length rest ≡ length (placed_rest y)
  -- The track u, which is lent as t is.
  pub lent : lent_for_reading u m ≡ true
  pub cells_are : cells u m ≡ head ++ joined (altered_spans y rest 0 (first_count_place a.home.place) spans sectors member)
  pub stands : StandsIn y rest a.home 0 unsettled (first_count_place a.home.place) spans (altered_spans y rest 0 (first_count_place a.home.place) spans sectors member)

-- The tracks are the same but for these bytes, which lie in the span of y, where its blocks fit.
module _ (t m u : List ℕ) (a : Accepted) (e : accept t m ≡ good a) (y : Placed) (k : Member y a.sectors) (q off n : ℕ) (at : q ≡ placed_start y + off)
    (fit : (last : Bool) → blocks_fit last (placed_rest y) ≡ true → off + n ≤ length (placed_rest y)) (bytes : unmarked (take n (drop q u)) ≡ true) (same : SameBut q n t u)
    (size : length (take n (drop q u)) ≡ length (take n (drop q t))) where
  -- The home of the track,
  abbrev h : Home
  h = a.home

  -- the place of sector 0,
  abbrev p : ℕ
  p = first_count_place a.home.place

  -- what follows the count's opening of y,
  abbrev r : List ℕ
  r = placed_rest y

  -- and what does on u.
  abbrev z : List ℕ
  z = laid_at off (take n (drop q u)) r

  -- The cells before sector 0's count,
  abbrev head : List ℕ
  head = take p (cells t m)

  -- and the spans behind them.
  abbrev gs : List (List ℕ)
  gs = spans_of h (cells t m)

  -- Let ss be the sectors as which these are read.
  module _ (ss : List Sector) (track : Track head h gs ss) (whole : head ++ joined gs ≡ cells t m) (is : accepted_of h gs ss ≡ a) where
    -- One of them is y,
    member : Member y (placed_from p gs ss)
    member = subst (λ (b : Accepted). Member y b.sectors) (sym is) k

    -- and its span stands among theirs.
    stands : StandsIn y z h 0 unsettled p gs (altered_spans y z 0 p gs ss member)
    stands = stands_in y z h 0 unsettled p gs ss member track.reads track.clean

    -- What stands before r,
    abbrev xs : List ℕ
    xs = head ++ stands.front

    -- and behind it.
    abbrev ys : List ℕ
    ys = stands.back

    -- The altered bytes stand from off on in r,
    altered_from : q ≡ length xs + off
    altered_from = omega (arith, length-append head stands.front, track.head_length_holds, stands.place_is)

    -- and the cells of t are in three parts.
    cells_old : cells t m ≡ xs ++ (r ++ ys)
    cells_old = sym whole ∙ ap (λ (l : List ℕ). head ++ l) stands.before_is ∙ sym (append_assoc head stands.front (r ++ ys))

    -- r has no mark,
    rest_unmarked : unmarked r ≡ true
    rest_unmarked = ap unmarked (stands_rest y z stands) ∙ clean_behind stands.position y.span stands.clean

    -- and the altered bytes lie in it.
    altered_inside : off + n ≤ length r
    altered_inside = fit stands.last (stands_fit y z stands)

    -- The cells of t and of u by these bytes.
    parts : CellParts q n t u m
    parts =
        let lent = (accepted_pair t m a e).0 in
        let long : q + n ≤ length t = omega (arith, altered_from, altered_inside, (lent_length t m lent).0, ap length cells_old, length-append xs (r ++ ys), length-append r ys) in
        cell_parts q n t u m lent long (ap (λ (l : List ℕ). unmarked (take n (drop q l))) cells_old ∙ part_unmarked xs r ys q off n altered_from altered_inside rest_unmarked) same size

    -- The cells of t in both ways:
    parts_same : xs ++ (r ++ ys) ≡ parts.front ++ (take n (drop q t) ++ parts.back)
    parts_same = sym cells_old ∙ parts.old_is

    -- what stands before the altered bytes is as long as xs and off.
    front_long : length parts.front ≡ length xs + off
    front_long = parts.front_size ∙ altered_from

    -- The cells of u are those of t with z in the place of r.
    cells_new : cells u m ≡ xs ++ (z ++ ys)
    cells_new = parts.new_is ∙ whole_laid xs r ys parts.front (take n (drop q t)) parts.back off n parts_same front_long parts.old_size altered_inside (take n (drop q u)) parts.new_size

    -- So the sector y is altered on u.
    altered_of : AlteredSector t m u a y q off n
    altered_of =
        record {
          head = head;
          spans = gs;
          sectors = ss;
          track = track;
          member = member;
          distinct = subst (λ (b : Accepted). Distinct (numbers_of b.sectors)) (sym is) (numbers_distinct (cells t m) a (accepted_pair t m a e).1);
          rest = z;
          rest_is = refl;
          rest_was = rest_laid xs r ys parts.front (take n (drop q t)) parts.back off n parts_same front_long parts.old_size altered_inside;
          old_size = parts.old_size;
          new_size = parts.new_size;
          unmarked_rest = unmarked_laid off (take n (drop q u)) r bytes rest_unmarked;
          length_rest = length_laid off (take n (drop q u)) r (omega (arith, parts.new_size, altered_inside));
          lent = parts.lent;
          cells_are = cells_new ∙ append_assoc head stands.front (z ++ ys) ∙ ap (λ (l : List ℕ). head ++ l) (sym stands.after_is);
          stands = stands;
        }

  -- The sector y on u, as altered.
  pub altered_sector : AlteredSector t m u a y q off n
  altered_sector = let v = accepted_track (cells t m) a (accepted_pair t m a e).1 in altered_of v.0 v.1 v.2 v.3
