-- Add between two pairs: what it writes is accepted, and bytes and marks up to the end of the old last block are copied.
use mathlib.Core.Path.{◌≡◌, sym, ap, ap₂, ◌∙◌}
use Prim.Native.Nat.{ℕ, ◌-◌, ◌<◌}
use mathlib.Core.Bool.{true}
use mathlib.Core.List.{List, [], ◌∷◌, ◌++◌, map}
use lib.ListN.{length, take}
use Rattle.format.specs.Answer.{lent_wrong}
use Rattle.format.specs.Judged.{good}
use Rattle.format.specs.Lent.{length_right, cells, bytes_of, marks_of, unmarked, both_lent}
use Rattle.format.specs.Accept.{Accepted, accept, end_of, sectors_of}
use Rattle.format.specs.GapRule.{GapRule, gap_by}
use Rattle.format.specs.Written.{Pair, as_pair}
use Rattle.format.specs.Add.{add_cells, add}
use Rattle.format.proofs.Base.Judged.{require_good}
use Rattle.format.proofs.Track.Pairs.{bytes_cells, marks_cells, length_bytes, length_marks, bytes_copied, marks_copied, lent_marks, accept_pair, accepted_pair, lent_length, written_pair}
use Rattle.format.proofs.Written.WrittenEnds.{gaps_of}
use Rattle.format.proofs.Add.GrownSpans.{gaps_before_last}
use Rattle.format.proofs.Add.NewSector.{new_sector, last_end, last_gap, add_end}
use Rattle.format.proofs.Add.AddAccepted.{add_accepted}

module _ (rule : GapRule) (t m : List ℕ) (l k b7 s : ℕ) (key body : List ℕ) where
  -- Between pairs lent within the rule Add is that of the cells.
  pub add_lent : both_lent t m l k ≡ true → add rule t m l k b7 s key body ≡ as_pair (add_cells rule (cells t m) b7 s key body)
  unfolding add
  add_lent e = rw e

  -- What Add writes from a pair of bytes and marks that is accepted is accepted; the old blocks end where they ended, the new one as it is written.
  -- The gap behind the block that was the last is the rule's, that of the new one runs to index, and the others stay.
  pub add_pair : unmarked t ≡ true → unmarked key ≡ true → unmarked body ≡ true → s < 256
      → (a : Accepted) → accept t m ≡ good a → (q : Pair) → add rule t m l k b7 s key body ≡ good q
      → (b : Accepted)
      × (accept q.track q.marks ≡ good b)
      × (b.home ≡ a.home)
      × (sectors_of b.sectors ≡ sectors_of a.sectors ++ new_sector a b7 s key body ∷ [])
      × (length q.track ≡ length t)
      × (length q.marks ≡ length t)
      × (take (last_end a.sectors) q.track ≡ take (last_end a.sectors) t)
      × (take (last_end a.sectors) q.marks ≡ take (last_end a.sectors) m)
      × (map end_of b.sectors ≡ map end_of a.sectors ++ add_end (gap_by rule) a.sectors key body ∷ [])
      × (gaps_of b.sectors ≡ gaps_before_last a.sectors ++ last_gap (gap_by rule) a.sectors ∷ (length t - add_end (gap_by rule) a.sectors key body) ∷ [])
  unfolding add
  add_pair ut uk ub n a acc q f =
      let c : List ℕ = cells t m in
      let r = accepted_pair t m a acc in
      let w = lent_length t m r.0 in
      let marked : length m ≡ length t = lent_marks t m r.0 in
      let u = require_good (both_lent t m l k) lent_wrong (as_pair (add_cells rule c b7 s key body)) q f in
      let j = written_pair (add_cells rule c b7 s key body) q u.1 in
      let e : List ℕ = j.0 in
      let z = add_accepted rule c a r.1 b7 s key body uk ub n e j.1 in
      let track : bytes_of e ≡ q.track = ap (λ (y : Pair). y.track) j.2 in
      let marks : marks_of e ≡ q.marks = ap (λ (y : Pair). y.marks) j.2 in
      let len : length e ≡ length t = z.4 ∙ w.0 in
      let end : ℕ = last_end a.sectors in (
        z.0,
        sym (ap₂ accept track marks) ∙ accept_pair e z.0 (ap length_right len ∙ w.1) z.1,
        z.2,
        z.3,
        ap length (sym track) ∙ length_bytes e ∙ len,
        ap length (sym marks) ∙ length_marks e ∙ len,
        ap (take end) (sym track) ∙ bytes_copied end e c z.5 ∙ ap (take end) (bytes_cells t m marked ut),
        ap (take end) (sym marks) ∙ marks_copied end e c z.5 ∙ ap (take end) (marks_cells t m marked ut),
        z.6,
        z.7 ∙ ap (λ (n : ℕ). gaps_before_last a.sectors ++ last_gap (gap_by rule) a.sectors ∷ (n - add_end (gap_by rule) a.sectors key body) ∷ []) w.0,
      )
