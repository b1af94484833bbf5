-- `write_corrected` meets its contract: the corrected sector, those behind it, and the kept front.
use mathlib.Core.Path.{◌∙◌}
use Prim.Native.Nat.{◌≤◌}
use native.Mathlib.Omega.{arith}
use mathlib.Core.List.{List, ◌∷◌}
use lib.ListN.{length, take}
use lib.Seq.{length-take-le}
use Rattle.format.specs.Accept.{Placed}
use Rattle.sectors.specs.From.{SectorsFrom}
use Rattle.encode.specs.Gap.{as_rule}
use Rattle.writer.specs.Remaining.{RoomFor}
use Rattle.format.proofs.Written.Gap.{wanted_parts}
use Rattle.writer.proofs.Filled.{wanted_bounds}
use Rattle.writer.proofs.Corrected.{first_remaining, later_remaining, later_steps, content_room, content_bytes, content_marks}
use Rattle.writer.proofs.correcting.write_corrected.Goals as goal

pub put_span-requires : goal.put_span-requires
put_span-requires c =
    let a = c.args in
    let rule = as_rule a.rule in
    let long = c.requires.marks_len in
    let t = a.track.now in
    let m = a.marks.now in
    let first = c.opens_first-first in
    let to = c.span_end-to in
    let z = first_remaining t m a.q a.x c.requires.read_at in
    let r = content_room t m a.q z.sector z.later z.steps a.x c.requires.read_at.is_read rule first.result first.ensures a.key.now a.body.now
    (length t) to.result to.ensures (c.requires.ys_in_bounds z.sector z.later z.steps) in
    record { key_len_bound = wanted_bounds rule a.key.now a.body.now c.requires.body_value; body_bound = r.0; to_in_bounds = (omega (arith, r.1, long), omega (arith, r.1, long)) }

pub write_later-requires : goal.write_later-requires
write_later-requires c =
    let a = c.args in
    let rule = as_rule a.rule in
    let long = c.requires.marks_len in
    let t = a.track.now in
    let m = a.marks.now in
    let first = c.opens_first-first in
    let to = c.span_end-to in
    let one = c.put_span in
    let z = first_remaining t m a.q a.x c.requires.read_at in
    let r = content_room t m a.q z.sector z.later z.steps a.x c.requires.read_at.is_read rule first.result first.ensures a.key.now a.body.now
    (length t) to.result to.ensures (c.requires.ys_in_bounds z.sector z.later z.steps) in record {
      remaining_room = record {
        remaining = record {
          sectors = z.later;
          steps = later_steps t m a.q z.sector z.later z.steps a.x c.requires.read_at.is_read;
          cells_length = c.requires.read_at.remaining.cells_length;
          length_most = c.requires.read_at.remaining.length_most;
        };
        behind = (later_remaining t m a.q a.x c.requires.read_at).1;
        right = (wanted_parts rule a.key.now a.body.now c.requires.body_value).0;
        room = r.2;
      };
      out_len = (one.auto.track ∙ long.1, one.auto.marks ∙ long.2);
    }

pub returns : goal.returns
returns c =
    let a = c.args in
    let rule = as_rule a.rule in
    let long = c.requires.marks_len in
    let first = c.opens_first-first in
    let one = c.put_span in
    let two = c.write_later in
    let three = c.copy_kept in
    let t = a.track.now in
    let m = a.marks.now in
    let l = length t in
    let to = c.span_end-to in
    let low : a.q ≤ l = omega (arith, c.requires.read_at.inside) in
    let after : (y : Placed) (ys : List Placed) → SectorsFrom t m a.q (y ∷ ys) → RoomFor rule l to.result ys =
    λ y ys f.
    (content_room t m a.q y ys f a.x c.requires.read_at.is_read rule first.result first.ensures a.key.now a.body.now l to.result to.ensures (c.requires.ys_in_bounds y ys f)).2 in record {
      bytes = λ y ys f.
          content_bytes t m a.q y ys f a.x c.requires.read_at.is_read rule first.result first.ensures a.key.now a.body.now l to.result to.ensures (c.requires.ys_in_bounds y ys f)
          a.out.now one.new.track two.new.out three.new.out (take a.q t) (omega (arith, low, long))
          (length-take-le a.q t low) three.ensures.bytes one.ensures.bytes
          (two.ensures.bytes ys (later_steps t m a.q y ys f a.x c.requires.read_at.is_read) (after y ys f));
      marks = λ y ys f.
          content_marks t m a.q y ys f a.x c.requires.read_at.is_read rule first.result first.ensures a.key.now a.body.now l to.result to.ensures (c.requires.ys_in_bounds y ys f)
          a.out_marks.now one.new.marks two.new.out_marks three.new.out_marks (take a.q m) (omega (arith, low, long))
          (length-take-le a.q m (omega (arith, low, long))) three.ensures.marks one.ensures.marks
          (two.ensures.marks ys (later_steps t m a.q y ys f a.x c.requires.read_at.is_read) (after y ys f));
    }
