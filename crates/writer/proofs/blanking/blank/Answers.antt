-- `blank` meets its contract: 1, 14 and 15 before anything is written, then home and sector 0.
use mathlib.Core.Path.{◌≡◌, refl, sym, ap, ◌∙◌}
use Prim.Native.Nat.{ℕ, ◌+◌, ◌-◌}
use mathlib.Core.List.{List, ◌++◌}
use native.Mathlib.Omega.{arith}
use lib.ListN.{length}
use Rattle.std.proofs.lemmas.Result.{err_from_is_err_and}
use Rattle.format.specs.Lent.{bytes_of, marks_of}
use Rattle.format.specs.Address.{Address}
use Rattle.format.specs.Blank.{named_by, written_head, blank_sector}
use Rattle.format.proofs.Written.Outcome.{after_refused, after_good}
use Rattle.format.proofs.Track.Pairs.{pair_of}
use Rattle.sector.specs.As.{as_address}
use Rattle.encode.specs.Room.{address_of}
use Rattle.writer.specs.Filled.{filled_span}
use Rattle.writer.proofs.Outcome.{room_done, room_short}
use Rattle.writer.proofs.Blanked.{blank_lent, blank_wanted, blank_short, blank_done}
use Rattle.writer.proofs.blanking.blank.Goals as goal

pub returns-then-not-lent_for_writing : goal.returns-then-not-lent_for_writing
returns-then-not-lent_for_writing c =
    let a = c.args in
    after_refused _ _ _ a.track.now a.marks.now
    (blank_lent (length a.track.now) (length a.marks.now) (address_of a.cylinder a.head) a.flag (address_of a.partner_cylinder a.partner_head) a.s a.key.now a.body.now
    (sym c.lent_for_writing.ensures ∙ c.if-not-lent_for_writing.true))
    refl

pub returns-then-not-blank_right : goal.returns-then-not-blank_right
returns-then-not-blank_right c =
    let a = c.args in
    after_refused _ _ _ a.track.now a.marks.now
    (blank_wanted (length a.track.now) (length a.marks.now) (address_of a.cylinder a.head) a.flag (address_of a.partner_cylinder a.partner_head) a.s a.key.now a.body.now
    (sym c.lent_for_writing.ensures ∙ c.if-not-lent_for_writing.false)
    (sym c.blank_right.ensures ∙ c.if-not-blank_right.true))
    refl

pub returns : goal.returns
unfolding blank_sector
returns c =
    let a = c.args in
    let room = room_done (55 + c.sector_size-n.result) (length a.track.now) c.in_ok-judge_room.ensures in
    let T = a.track.now in
    let M = a.marks.now in
    let own : Address = address_of a.cylinder a.head in
    let partner : Address = address_of a.partner_cylinder a.partner_head in
    let wrote = c.write_blank in
    let named : as_address c.named_by-named.result ≡ named_by a.flag own partner = c.named_by-named.ensures in
    let whole : Address → List ℕ = λ n. written_head a.flag own ++ filled_span (length T - 55) (blank_sector a.flag n a.s a.key.now a.body.now) in
    after_good _ _ (pair_of (whole (named_by a.flag own partner))) T M wrote.new.track wrote.new.marks
    (blank_done (length T) (length M) own a.flag partner a.s a.key.now a.body.now
    (sym c.lent_for_writing.ensures ∙ c.if-not-lent_for_writing.false)
    (sym c.blank_right.ensures ∙ c.if-not-blank_right.false)
    (omega (arith, room, c.sector_size-n.ensures)))
    refl
    (wrote.ensures.bytes ∙ ap (λ (n : Address). bytes_of (whole n)) named)
    (wrote.ensures.marks ∙ ap (λ (n : Address). marks_of (whole n)) named)

pub returns-in_err-judge_room : goal.returns-in_err-judge_room
returns-in_err-judge_room c =
    let a = c.args in
    let room = room_short _ (55 + c.sector_size-n.result) (length a.track.now) c.in_err-judge_room.ensures in
    let p = err_from_is_err_and c.from_residual.result c.from_residual.ensures.1 in
    rw (p.1, p.2) (after_refused _ _ _ a.track.now a.marks.now
    (blank_short (length a.track.now) (length a.marks.now) (address_of a.cylinder a.head) a.flag (address_of a.partner_cylinder a.partner_head) a.s a.key.now a.body.now
    (sym c.lent_for_writing.ensures ∙ c.if-not-lent_for_writing.false)
    (sym c.blank_right.ensures ∙ c.if-not-blank_right.false)
    (omega (arith, room.0, c.sector_size-n.ensures)))
    room.1)
