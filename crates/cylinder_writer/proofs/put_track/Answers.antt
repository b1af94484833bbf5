-- `put_track` meets its contract: the bytes of the track, and its packed marks behind them.
use mathlib.Core.Path.{◌≡◌, refl}
use mathlib.Core.List.{List, ◌++◌}
use Prim.Native.Nat.{ℕ}
use lib.ListN.{length, drop}
use Rattle.base.specs.Laid.{laid_over}
use Rattle.base.proofs.Laid.{laid_back, over_next}
use Rattle.cylinder.specs.Packed.{packed}
use Rattle.cylinder_writer.proofs.put_track.Goals as goal

pub returns : goal.returns
unfolding laid_over
returns c =
    let t = c.args.track.now in
    let m = packed c.args.marks.now in
    let old = c.args.out.now in
    let new : List ℕ = c.copy_from_slice.new.self ++ drop (length t) old in
    let e : new ≡ laid_over t old = rw c.copy_from_slice.ensures.after in
    let b = laid_back (length t) m new c.pack.new.out c.pack.ensures in
    over_next (length t) t m old new _ refl e b
