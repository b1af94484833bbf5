-- What Pair find gives.
use Rattle.std.specs.Prelude.{ℕ, List, eqb}
use Rattle.base.specs.Pick.{pick}
use Rattle.format.specs.PairFind.{Paired}
use Rattle.reader.specs.declared.pair.Paired.{Paired as PairedCode}
use Rattle.reader.specs.Finding.{judged_part, PartWithin, handed_out}

-- The outcome, and which track it speaks of.
abbrev pub as_paired : PairedCode → Paired
as_paired r = record { which = pick r.second 1 0; outcome = judged_part r.outcome }

-- A part that is found lies within the track that it speaks of, of n bytes the first and k the second.
abbrev pub PairWithin : PairedCode → ℕ → ℕ → Type 0
PairWithin r n k = PartWithin r.outcome (pick r.second k n)

-- The bytes that Pair find hands out, of the first track t or of the second u.
abbrev pub pair_handed_out : List ℕ → List ℕ → Paired → List ℕ
pair_handed_out t u x = handed_out (pick (eqb x.which 0) t u) x.outcome
