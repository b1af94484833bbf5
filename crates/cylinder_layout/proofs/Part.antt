-- A part of a slice that is written and comes back.
use Rattle.std.proofs.Common.{◌≡◌, ℕ, ◌+◌, List, length, sym, ap, ◌∙◌}
use Rattle.std.proofs.lemmas.List.{drop-drop}
use borrow.Rule.Slice.PartMut.{put_mid}
use Rattle.base.specs.Indexed.{join_to}
use Rattle.base.specs.Laid.{laid_over, laid_at}
use Rattle.base.proofs.Indexed.{join_next}
use Rattle.base.proofs.Laid.{over_next}

-- A list of n elements that is written over the n from place a on is laid there.
pub part_laid : (a n : ℕ) (old xs : List ℕ) → length xs ≡ n → put_mid a n old xs ≡ laid_at a xs old
unfolding laid_at
part_laid a n old xs e = rw (← e, drop-drop)

-- The next list is written behind the first k, which lie over the front and end at p.
pub part_more : (g : ℕ → List ℕ) (k p n : ℕ) (old new part : List ℕ) → p ≡ length (join_to g k) → length (g k) ≡ n → new ≡ laid_over (join_to g k) old → part ≡ g k
    → put_mid p n new part ≡ laid_over (join_to g (k + 1)) old
part_more g k p n old new part e h q w =
    over_next p (join_to g k) (g k) old new _ e q (part_laid p n new part (ap length w ∙ h) ∙ ap (λ (xs : List ℕ). laid_at p xs new) w)
    ∙ ap (λ (xs : List ℕ). laid_over xs old) (sym (join_next g k))
