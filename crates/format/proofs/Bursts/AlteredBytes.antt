-- Two tracks that are the same but for n successive bytes: the cells of both in parts, and a part of them with other bytes in it.
use mathlib.Core.Path.{◌≡◌, refl, sym, ap, ap₂, ◌∙◌}
use Prim.Native.Nat.{ℕ, ◌+◌, ◌*◌, ◌≤◌, ◌<◌}
use native.Mathlib.Omega.{arith}
use mathlib.Core.Bool.{true, ◌&&◌}
use mathlib.Core.List.{List, [], ◌∷◌, ◌++◌, append_assoc}
use lib.ListN.{length, take, drop, length-append, length-drop, take-append-drop}
use lib.Seq.{take_at, drop_at, take-append-le, drop-append-le, take-append-add, drop-append-add, drop-drop, length-take-le}
use lib.Dec.{ltb}
use borrow.Author.Tests.{ltb-true}
use Rattle.base.specs.Laid.{laid_at}
use Rattle.base.proofs.Tests.{and_both}
use Rattle.base.proofs.Lists.{part_length}
use Rattle.format.specs.Lent.{marks_legal, lent_for_writing, lent_for_reading, cells, unmarked}
use Rattle.format.specs.Burst.{SameBut}
use Rattle.format.proofs.Cells.Opening.{unmarked_append, unmarked_take, unmarked_drop}
use Rattle.format.proofs.Track.Pairs.{drop_cells, take_cells, length_cells, lent_marks}

-- A list in three parts: before place q, the n elements from there on, and the rest.
three_parts : (q n : ℕ) (c : List ℕ) → c ≡ take q c ++ (take n (drop q c) ++ drop (q + n) c)
three_parts q n c =
    sym (take-append-drop q c)
    ∙ ap (λ (r : List ℕ). take q c ++ r) (sym (take-append-drop n (drop q c)) ∙ ap (λ (r : List ℕ). take n (drop q c) ++ r) (drop-drop n q c))

-- Where the cells of bytes are unmarked, they and the cells of as many other bytes with the same marks are the bytes themselves.
plain_cells : (bs cs m : List ℕ) → length m ≡ length bs → length cs ≡ length bs → unmarked (cells bs m) ≡ true → (cells bs m ≡ bs) × (cells cs m ≡ cs)
unfolding cells unmarked
plain_cells [] [] m l e u = (refl, refl)
plain_cells [] (c ∷ cs) m l e u = absurd (omega arith)
plain_cells (b ∷ bs) [] m l e u = absurd (omega arith)
plain_cells (b ∷ bs) (c ∷ cs) [] l e u = absurd (omega arith)
plain_cells (b ∷ bs) (c ∷ cs) (k ∷ m) l e u =
    let h = and_both (ltb (b + 256 * k) 256) (unmarked (cells bs m)) u in
    let ih = plain_cells bs cs m (omega arith) (omega arith) h.1 in
    let small : b + 256 * k < 256 = ltb-true (b + 256 * k) 256 h.0 in
    (ap₂ (λ (x : ℕ) (d : List ℕ). x ∷ d) (omega arith) ih.0, ap₂ (λ (x : ℕ) (d : List ℕ). x ∷ d) (omega arith) ih.1)

-- The n cells from place off of r on, where r stands behind xs, are unmarked if r is.
pub part_unmarked : (xs r ys : List ℕ) (q off n : ℕ) → q ≡ length xs + off → off + n ≤ length r → unmarked r ≡ true → unmarked (take n (drop q (xs ++ (r ++ ys)))) ≡ true
part_unmarked xs r ys q off n e w u =
    ap (λ (i : ℕ). unmarked (take n (drop i (xs ++ (r ++ ys))))) e
    ∙ ap (λ (l : List ℕ). unmarked (take n l)) (drop-append-add xs (r ++ ys) off ∙ drop-append-le off r ys (omega arith))
    ∙ ap unmarked (take-append-le n (drop off r) ys (omega (arith, length-drop off r)))
    ∙ unmarked_take n (drop off r) (unmarked_drop off r u)

-- The cells of t and those of u in three parts, of which the middle ones, n bytes from place q on, are all that differs.
pub record CellParts (q n : ℕ) (t u m : List ℕ) : Type 0 where
  pub front : List ℕ
  pub back : List ℕ
  pub front_size : length front ≡ q
  pub old_size : length (take n (drop q t)) ≡ n
  pub new_size : length (take n (drop q u)) ≡ n
  pub old_is : cells t m ≡ front ++ (take n (drop q t) ++ back)
  pub new_is : cells u m ≡ front ++ (take n (drop q u) ++ back)
  pub old_unmarked : unmarked (take n (drop q t)) ≡ true
  -- u is lent within the rule as t is.
  pub lent : lent_for_reading u m ≡ true

-- So it is where t is lent within the rule and holds these n bytes unmarked.
pub cell_parts : (q n : ℕ) (t u m : List ℕ) → lent_for_reading t m ≡ true → q + n ≤ length t → unmarked (take n (drop q (cells t m))) ≡ true → SameBut q n t u → length (take n (drop q u)) ≡ length (take n (drop q t))
    → CellParts q n t u m
unfolding lent_for_reading
cell_parts q n t u m l w e s k =
    let bs : List ℕ = take n (drop q t) in
    let cs : List ℕ = take n (drop q u) in
    let ks : List ℕ = take n (drop q m) in
    let sizes : length m ≡ length t = lent_marks t m l in
    let old : length bs ≡ n = part_length q n t w in
    let marks : length ks ≡ n = part_length q n m (omega arith) in
    let middle : (v : List ℕ) → take n (drop q (cells v m)) ≡ cells (take n (drop q v)) ks = λ v. ap (take n) (drop_cells q v m) ∙ take_cells n (drop q v) (drop q m) in
    let plain = plain_cells bs cs ks (marks ∙ sym old) k (ap unmarked (sym (middle t)) ∙ e) in
    let front : take q (cells u m) ≡ take q (cells t m) = take_cells q u m ∙ ap (λ (v : List ℕ). cells v (take q m)) s.before ∙ sym (take_cells q t m) in
    let back : drop (q + n) (cells u m) ≡ drop (q + n) (cells t m) = drop_cells (q + n) u m ∙ ap (λ (v : List ℕ). cells v (drop (q + n) m)) s.behind ∙ sym (drop_cells (q + n) t m) in
    let long : length u ≡ length t = length_same s.before s.behind k in
    record {
      front = take q (cells t m);
      back = drop (q + n) (cells t m);
      front_size = length-take-le q (cells t m) (omega (arith, length_cells t m));
      old_size = old;
      new_size = k ∙ old;
      old_is = three_parts q n (cells t m) ∙ ap (λ (v : List ℕ). take q (cells t m) ++ (v ++ drop (q + n) (cells t m))) (middle t ∙ plain.0);
      new_is = three_parts q n (cells u m) ∙ ap₂ (λ (a b : List ℕ). a ++ b) front (ap₂ (λ (a b : List ℕ). a ++ b) (middle u ∙ plain.1) back);
      old_unmarked = ap unmarked (sym plain.0 ∙ sym (middle t)) ∙ e;
      lent = ap (λ (v : ℕ). lent_for_writing v (length m) && marks_legal m) long ∙ l;
    }
  where
    length_same : take q u ≡ take q t → drop (q + n) u ≡ drop (q + n) t → length (take n (drop q u)) ≡ length (take n (drop q t)) → length u ≡ length t
    length_same a b c =
        let size : (v : List ℕ) → length v ≡ length (take q v) + (length (take n (drop q v)) + length (drop (q + n) v)) = λ v.
        ap length (three_parts q n v) ∙ length-append (take q v) (take n (drop q v) ++ drop (q + n) v) ∙ ap (λ (j : ℕ). length (take q v) + j) (length-append (take n (drop q v)) (drop (q + n) v)) in
        omega (arith, size u, size t, ap length a, ap length b)

-- The list ns laid over n elements of r, from place off on.
pub laid_parts : (off n : ℕ) (ns r : List ℕ) → length ns ≡ n → laid_at off ns r ≡ take off r ++ (ns ++ drop (off + n) r)
unfolding laid_at
laid_parts off n ns r l = ap (λ (k : ℕ). take off r ++ (ns ++ drop (off + k) r)) l

-- It is unmarked, where both are.
pub unmarked_laid : (off : ℕ) (ns r : List ℕ) → unmarked ns ≡ true → unmarked r ≡ true → unmarked (laid_at off ns r) ≡ true
unfolding laid_at
unmarked_laid off ns r u v =
    unmarked_append (take off r) (ns ++ drop (off + length ns) r) (unmarked_take off r v) (unmarked_append ns (drop (off + length ns) r) u (unmarked_drop (off + length ns) r v))

-- The same list in two ways: before stand xs, then r and then ys; or before stand fs, then os and then bs, where os are the n elements from place off of r on.
module _ (xs r ys fs os bs : List ℕ) (off n : ℕ) (e : xs ++ (r ++ ys) ≡ fs ++ (os ++ bs)) (f : length fs ≡ length xs + off) (o : length os ≡ n) (w : off + n ≤ length r) where
  -- Before os stands what stands before r, and the front of r.
  front_is : fs ≡ xs ++ take off r
  front_is =
      sym (take_at fs (os ++ bs) (length xs + off) f)
      ∙ ap (take (length xs + off)) (sym e)
      ∙ take-append-add xs (r ++ ys) off
      ∙ ap (λ (l : List ℕ). xs ++ l) (take-append-le off r ys (omega arith))

  -- From os on stands what follows in r, and then ys.
  onward_is : os ++ bs ≡ drop off r ++ ys
  onward_is =
      sym (drop_at fs (os ++ bs) (length xs + off) f)
      ∙ ap (drop (length xs + off)) (sym e)
      ∙ drop-append-add xs (r ++ ys) off
      ∙ drop-append-le off r ys (omega arith)

  -- Behind os stands the rest of r, and then ys.
  back_is : bs ≡ drop (off + n) r ++ ys
  back_is =
      sym (drop_at os bs n o)
      ∙ ap (drop n) onward_is
      ∙ drop-append-le n (drop off r) ys (omega (arith, length-drop off r))
      ∙ ap (λ (l : List ℕ). l ++ ys) (drop-drop n off r)

  -- And os is what it was said to be.
  middle_is : os ≡ take n (drop off r)
  middle_is = sym (take_at os bs n o) ∙ ap (take n) onward_is ∙ take-append-le n (drop off r) ys (omega (arith, length-drop off r))

  -- So r has os where it had it,
  pub rest_laid : r ≡ laid_at off os r
  rest_laid = three_parts off n r ∙ ap (λ (l : List ℕ). take off r ++ (l ++ drop (off + n) r)) (sym middle_is) ∙ sym (laid_parts off n os r o)

  -- and with as many ns in place of os the whole has them in r.
  pub whole_laid : (ns : List ℕ) → length ns ≡ n → fs ++ (ns ++ bs) ≡ xs ++ (laid_at off ns r ++ ys)
  whole_laid ns k =
      ap₂ (λ (a b : List ℕ). a ++ (ns ++ b)) front_is back_is
      ∙ append_assoc xs (take off r) (ns ++ (drop (off + n) r ++ ys))
      ∙ ap (λ (l : List ℕ). xs ++ l)
      (ap (λ (l : List ℕ). take off r ++ l) (sym (append_assoc ns (drop (off + n) r) ys)) ∙ sym (append_assoc (take off r) (ns ++ drop (off + n) r) ys))
      ∙ ap (λ (l : List ℕ). xs ++ (l ++ ys)) (sym (laid_parts off n ns r k))
