-- `spot_at` counts along the bytes before the place. Assumes nothing.
use native.Mathlib.Omega.{arith}
use lib.ListN.{length-take}
use lib.Seq.{take_all}
use Rattle.spots.proofs.spot_at.Goals as goal

pub slice_bounds-behind-end : goal.slice_bounds-behind-end
slice_bounds-behind-end c =
    omega (arith, length-take c.args.place c.args.s.now)

pub returns-then-place-s : goal.returns-then-place-s
returns-then-place-s c =
    c.behind.ensures

pub returns : goal.returns
returns c =
    rw (take_all c.args.place c.args.s.now c.if-place-s.false) c.behind-2.ensures
