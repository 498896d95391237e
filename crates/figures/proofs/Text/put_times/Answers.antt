-- `put_times` puts one byte again and again. Assumes nothing.
use native.Mathlib.Omega.{arith}
use Rattle.figures.proofs.Writing.{again, counted}
use Rattle.figures.proofs.Text.put_times.Goals as goal

pub loop-preserved : goal.loop-preserved
loop-preserved c =
    again c.loop.counter c.args.b c.loop.invariant c.put.ensures

pub returns : goal.returns
returns c =
    counted c.args.n c.args.b (omega arith) (omega arith) c.loop.invariant
