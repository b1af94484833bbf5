-- The rule of the gap in the calls that write: 14 for a rule out of range, rules that are the same, and Blank, which has none.
use mathlib.Core.Path.{◌≡◌, refl, sym, ap, ◌∙◌}
use Prim.Native.Nat.{ℕ}
use mathlib.Core.Bool.{true, false}
use mathlib.Core.List.{List, [], ◌∷◌}
use lib.Dec.{leb}
use Rattle.base.proofs.Tests.{cases}
use Rattle.format.specs.Answer.{lent_wrong, wanted_wrong}
use Rattle.format.specs.Judged.{Judged, good, refused, require}
use Rattle.format.specs.Lent.{lent_for_writing, both_lent}
use Rattle.format.specs.Address.{Address}
use Rattle.format.specs.Sector.{Sector}
use Rattle.format.specs.Accept.{Accepted, accept}
use Rattle.format.specs.GapRule.{gap_one, GapRule, rule_one, rule_two, gap_by, rule_right, wanted_right}
use Rattle.format.specs.Written.{as_pair, written_behind}
use Rattle.format.specs.Blank.{named_by, blank_right, written_head, blank_sector, blank}
use Rattle.format.specs.Add.{add_cells, add}
use Rattle.format.specs.Correct.{correct_cells, correct}
use Rattle.format.proofs.Track.Pairs.{accepted_pair}
use Rattle.format.proofs.Written.Gap.{one_in_twenty}
use Rattle.format.proofs.Written.OneBehind.{behind_one}

-- Both pairs lent within the rule, an accepted track and a rule out of range: 14, before 13, 12 and 15.
module _ (rule : GapRule) (wrong : rule_right rule ≡ false) (t m : List ℕ) (l k : ℕ) (lent : both_lent t m l k ≡ true) (a : Accepted) (e : accept t m ≡ good a) where
  pub add_rule_wrong : (b7 s : ℕ) (key body : List ℕ) → add rule t m l k b7 s key body ≡ refused wanted_wrong
  unfolding add add_cells wanted_right as_pair
  add_rule_wrong b7 s key body = cases (leb b7 1) (λ h. rw (lent, (accepted_pair t m a e).1, h, wrong)) (λ h. rw (lent, (accepted_pair t m a e).1, h))

  pub correct_rule_wrong : (s : ℕ) (key body : List ℕ) → correct rule t m l k s key body ≡ refused wanted_wrong
  unfolding correct correct_cells wanted_right as_pair
  correct_rule_wrong s key body = rw (lent, (accepted_pair t m a e).1, wrong)

-- Two rules that are both in range or both out of it, and give the same gaps, are the same for Add and Correct.
module _ (r s : GapRule) (right : rule_right r ≡ rule_right s) (same : (kl dl : ℕ) → gap_by r kl dl ≡ gap_by s kl dl) where
  gaps_same : gap_by r ≡ gap_by s
  gaps_same = λ i kl dl. same kl dl i

  pub add_same : (t m : List ℕ) (l k b7 n : ℕ) (key body : List ℕ) → add r t m l k b7 n key body ≡ add s t m l k b7 n key body
  unfolding add add_cells wanted_right
  add_same t m l k b7 n key body = rw (right, gaps_same)

  pub correct_same : (t m : List ℕ) (l k n : ℕ) (key body : List ℕ) → correct r t m l k n key body ≡ correct s t m l k n key body
  unfolding correct correct_cells wanted_right
  correct_same t m l k n key body = rw (right, gaps_same)

-- Rule two with 1 and 20 is rule one: for Add,
pub add_one_in_twenty : (t m : List ℕ) (l k b7 s : ℕ) (key body : List ℕ) → add (rule_two 1 20) t m l k b7 s key body ≡ add rule_one t m l k b7 s key body
unfolding rule_right
add_one_in_twenty = add_same (rule_two 1 20) rule_one refl one_in_twenty

-- and for Correct.
pub correct_one_in_twenty : (t m : List ℕ) (l k s : ℕ) (key body : List ℕ) → correct (rule_two 1 20) t m l k s key body ≡ correct rule_one t m l k s key body
unfolding rule_right
correct_one_in_twenty = correct_same (rule_two 1 20) rule_one refl one_in_twenty

-- Blank writes no gap that a rule decides: it is the same with every rule in the place of the one that its definition names.
pub blank_by_any : (rule : GapRule) (l k : ℕ) (own : Address) (flag : ℕ) (partner : Address) (s : ℕ) (key body : List ℕ)
    → blank l k own flag partner s key body
    ≡ require (lent_for_writing l k) lent_wrong
    (require (blank_right own flag partner key body) wanted_wrong
    (as_pair (written_behind (gap_by rule) (written_head flag own) l (blank_sector flag (named_by flag own partner) s key body ∷ []))))
unfolding blank
blank_by_any rule l k own flag partner s key body =
    let head : List ℕ = written_head flag own in
    let new : Sector = blank_sector flag (named_by flag own partner) s key body in
    ap (λ (j : Judged (List ℕ)). require (lent_for_writing l k) lent_wrong (require (blank_right own flag partner key body) wanted_wrong (as_pair j)))
    (behind_one head l new gap_one ∙ sym (behind_one head l new (gap_by rule)))
