-- `write_later` meets its contract: what is written and what is left to write stay the same track.
use mathlib.Core.Path.{sym, ◌∙◌}
use Prim.Native.Nat.{◌+◌, ◌-◌, ◌≤◌}
use mathlib.Core.Bool.{false}
use mathlib.Core.List.{List, ◌++◌}
use native.Mathlib.Omega.{arith}
use lib.ListN.{length, take, drop}
use Rattle.format.specs.Lent.{bytes_of, marks_of}
use Rattle.format.specs.Accept.{Placed}
use Rattle.sectors.specs.From.{SectorsFrom}
use Rattle.encode.specs.Gap.{as_rule}
use Rattle.writer.specs.Remaining.{RoomFor, later_cells}
use Rattle.writer.proofs.Later.{Going, writing_now, cut_asks, going_start, going_within, going_end, going_lengths, going_parts, going_onward, going_room, going_next}
use Rattle.base.proofs.Lists.{cut_is, cut_length}
use Rattle.writer.proofs.correcting.write_later.Goals as goal
use Rattle.writer.proofs.correcting.write_later.Goals.{After-sector_at-x}

-- What is written and what is left to write.
going : (c : After-sector_at-x)
    → Going (as_rule c.args.rule) c.args.track.now c.args.marks.now c.loop-p.p c.loop-p.at c.loop-p.out c.loop-p.out_marks
    (take c.args.at c.args.out.now ++ bytes_of (later_cells (as_rule c.args.rule) (length c.args.track.now - c.args.at) c.requires.remaining_room.remaining.sectors))
    (take c.args.at c.args.out_marks.now ++ marks_of (later_cells (as_rule c.args.rule) (length c.args.track.now - c.args.at) c.requires.remaining_room.remaining.sectors))
going c =
    let a = c.args in
    let o = c.loop-p in
    writing_now (as_rule a.rule) a.track.now a.marks.now a.p a.at a.out.now a.out_marks.now o.p o.at o.out o.out_marks c.requires.remaining_room o.invariant

-- The key and the data lie on the old track.
parts : (c : After-sector_at-x)
    → (c.sector_at-x.result.key_place + c.sector_at-x.result.key_length ≤ length c.args.track.now) × (c.sector_at-x.result.data_place + c.sector_at-x.result.data_length ≤ length c.args.track.now)
parts c =
    let a = c.args in
    let o = c.loop-p in
    going_parts (as_rule a.rule) a.track.now a.marks.now o.p o.at o.out o.out_marks _ _ (going c) c.requires.remaining_room.remaining.cells_length c.loop-p-test.true c.sector_at-x.result c.sector_at-x.ensures

-- Their lengths fit.
lengths : (c : After-sector_at-x) → (c.sector_at-x.result.key_length ≤ 255) × (c.sector_at-x.result.data_length ≤ 65535)
lengths c =
    let a = c.args in
    let o = c.loop-p in
    going_lengths (as_rule a.rule) a.track.now a.marks.now o.p o.at o.out o.out_marks _ _ (going c) c.requires.remaining_room.remaining.cells_length c.loop-p-test.true c.sector_at-x.result c.sector_at-x.ensures

pub loop-p-init : goal.loop-p-init
loop-p-init c = let b = c.requires.out_len in (b.0, b.1, λ F G g. g)

pub span_end-to-requires : goal.span_end-to-requires
span_end-to-requires c =
    let a = c.args in
    let u = c.requires.remaining_room in
    let o = c.loop-p in
    let s = (goal.at.span_end-to-requires c).After-sector_at-x in
    let h = going_within (as_rule a.rule) a.track.now a.marks.now o.p o.at o.out o.out_marks _ _ (going s) u.remaining.cells_length in
    record { kl_bound = lengths s; at_bound = (omega (arith, h, u.remaining.length_most), u.right) }

pub overflow_add-k_end : goal.overflow_add-k_end
overflow_add-k_end c = omega (arith, parts (goal.at.overflow_add-k_end c).After-sector_at-x, c.requires.remaining_room.remaining.length_most)

pub overflow_add-d_end : goal.overflow_add-d_end
overflow_add-d_end c = omega (arith, parts (goal.at.overflow_add-d_end c).After-sector_at-x, c.requires.remaining_room.remaining.length_most)

pub slice_bounds-later-count : goal.slice_bounds-later-count
slice_bounds-later-count c = omega (arith, parts (goal.at.slice_bounds-later-count c).After-sector_at-x)

pub slice_bounds-later-start : goal.slice_bounds-later-start
slice_bounds-later-start c = omega (arith, parts (goal.at.slice_bounds-later-start c).After-sector_at-x)

pub slice_bounds-later-end : goal.slice_bounds-later-end
slice_bounds-later-end c = omega (arith, parts (goal.at.slice_bounds-later-end c).After-sector_at-x)

pub slice_bounds-later-count-in-loop-p : goal.slice_bounds-later-count-in-loop-p
slice_bounds-later-count-in-loop-p c = omega (arith, parts (goal.at.slice_bounds-later-count-in-loop-p c).After-sector_at-x)

pub slice_bounds-later-start-in-loop-p : goal.slice_bounds-later-start-in-loop-p
slice_bounds-later-start-in-loop-p c = omega (arith, parts (goal.at.slice_bounds-later-start-in-loop-p c).After-sector_at-x)

pub slice_bounds-later-end-in-loop-p : goal.slice_bounds-later-end-in-loop-p
slice_bounds-later-end-in-loop-p c = omega (arith, parts (goal.at.slice_bounds-later-end-in-loop-p c).After-sector_at-x)

pub put_span-requires : goal.put_span-requires
put_span-requires c =
    let a = c.args in
    let o = c.loop-p in
    let x = c.sector_at-x.result in
    let s = (goal.at.put_span-requires c).After-sector_at-x in
    let h = parts s in
    let r = going_room (as_rule a.rule) a.track.now a.marks.now o.p o.at o.out o.out_marks _ _ (going s) c.requires.remaining_room.remaining.cells_length c.loop-p-test.true x c.sector_at-x.ensures c.span_end-to.result c.span_end-to.ensures in
    let whole = cut_asks false o.at c.span_end-to.result x.key_length x.data_length (length a.track.now)
    (take (x.key_place + x.key_length - x.key_place) (drop x.key_place a.track.now))
    (take (x.data_place + x.data_length - x.data_place) (drop x.data_place a.track.now))
    o.out o.out_marks
    (cut_length x.key_place x.key_length a.track.now h.0)
    (cut_length x.data_place x.data_length a.track.now h.1)
    (lengths s) r o.invariant.0 o.invariant.1 in
    record { key_len_bound = whole.0; body_bound = whole.1.0; to_in_bounds = whole.1.1 }

pub loop-p-smaller : goal.loop-p-smaller
loop-p-smaller c =
    let a = c.args in
    let o = c.loop-p in
    let s = (goal.at.loop-p-smaller c).After-sector_at-x in
    omega (arith, going_onward (as_rule a.rule) a.track.now a.marks.now o.p o.at o.out o.out_marks _ _ (going s) c.requires.remaining_room.remaining.cells_length c.loop-p-test.true c.sector_at-x.result c.sector_at-x.ensures)

pub loop-p-preserved : goal.loop-p-preserved
loop-p-preserved c =
    let a = c.args in
    let rule = as_rule a.rule in
    let u = c.requires.remaining_room in
    let o = c.loop-p in
    let x = c.sector_at-x.result in
    let w = c.put_span in
    let t = a.track.now in (
      w.auto.track ∙ o.invariant.0,
      w.auto.marks ∙ o.invariant.1,
      λ F G g.
          going_next rule t a.marks.now o.p o.at o.out o.out_marks F G (o.invariant.2 F G g) u.remaining.cells_length c.loop-p-test.true x c.sector_at-x.ensures
          c.span_end-to.result c.span_end-to.ensures _ _ w.new.track w.new.marks
          (cut_is x.key_place x.key_length t) (cut_is x.data_place x.data_length t) o.invariant.0 o.invariant.1 w.ensures.bytes w.ensures.marks,
    )

pub shape_of-out : goal.shape_of-out
shape_of-out c = c.loop-p.invariant.0 ∙ sym c.requires.out_len.0

pub shape_of-out_marks : goal.shape_of-out_marks
shape_of-out_marks c = c.loop-p.invariant.1 ∙ sym c.requires.out_len.1

pub returns : goal.returns
returns c =
    let a = c.args in
    let rule = as_rule a.rule in
    let u = c.requires.remaining_room in
    let o = c.loop-p in
    let done : (xs : List Placed) (s : SectorsFrom a.track.now a.marks.now a.p xs) (r : RoomFor rule (length a.track.now) a.at xs) → _ =
    λ xs s r.
    let i = o.invariant.2 _ _ (going_start rule a.track.now a.marks.now a.p a.at a.out.now a.out_marks.now xs s u.behind r) in
    going_end rule a.track.now a.marks.now o.p o.at o.out o.out_marks _ _ i u.remaining.cells_length c.loop-p-test.false o.invariant.0 o.invariant.1 in
    record { bytes = λ xs s r. (done xs s r).0; marks = λ xs s r. (done xs s r).1 }
