-- `judge_sectors` meets its contract: sector 0 by its own span, and what is left behind it by the later sectors' check.
use mathlib.Core.Path.{refl, sym, ◌∙◌}
use Rattle.std.proofs.lemmas.Result.{err_from_is_err_and}
use Rattle.format.proofs.Base.Judged.{refusal_number}
use Rattle.sector.specs.As.{as_address, as_home}
use Rattle.accepting.proofs.AcceptFirst.{first_front, first_missing, first_refused, first_good}
use Rattle.accepting.proofs.judge_sectors.Goals as goal

pub returns-then-not-opens_plain : goal.returns-then-not-opens_plain
returns-then-not-opens_plain c =
    let a = c.args in
    sym (first_missing (as_home a.h) a.p a.track.now a.marks.now a.starts.now c.requires (sym c.opens_plain.ensures ∙ c.if-not-opens_plain.true))

pub returns-in_err-judge_sector : goal.returns-in_err-judge_sector
returns-in_err-judge_sector c =
    let a = c.args in
    let s = c.listed_span-span in
    let f = first_front a.p a.track.now a.marks.now a.starts.now s.result.length c.requires (sym c.opens_plain.ensures ∙ c.if-not-opens_plain.false) s.ensures.0 in
    let r = err_from_is_err_and c.from_residual.result c.from_residual.ensures.1 in
    rw (r.1, r.2) (first_refused (as_home a.h) a.p s.result.length a.track.now a.marks.now a.starts.now f s.result.last s.ensures.1 _ c.in_err-judge_sector.ensures (refusal_number _))

pub judge_later-requires-clause-later_spans : goal.judge_later-requires-clause-later_spans
judge_later-requires-clause-later_spans c =
    let a = c.args in
    let s = c.listed_span-span in
    (first_front a.p a.track.now a.marks.now a.starts.now s.result.length c.requires (sym c.opens_plain.ensures ∙ c.if-not-opens_plain.false) s.ensures.0).rest

pub returns : goal.returns
returns c =
    let a = c.args in
    let s = c.listed_span-span in
    let f = first_front a.p a.track.now a.marks.now a.starts.now s.result.length c.requires (sym c.opens_plain.ensures ∙ c.if-not-opens_plain.false) s.ensures.0 in
    c.judge_later.ensures ∙ first_good (as_home a.h) a.p s.result.length a.track.now a.marks.now a.starts.now f s.result.last s.ensures.1 _ c.in_ok-judge_sector.ensures (as_address c.address_in-named.result) c.address_in-named.ensures refl
