-- `put_all` puts a piece byte by byte. Assumes nothing.
use Rattle.figures.proofs.Writing.{more}
use Rattle.figures.proofs.Text.put_all.Goals as goal

pub loop-b-preserved : goal.loop-b-preserved
loop-b-preserved c = more _ _ c.loop-b-test.true c.loop-b.invariant c.put.ensures
