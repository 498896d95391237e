-- One of the two ends. Assumes nothing.
use Rattle.figures.proofs.Writing.{called}
use Rattle.differences.proofs.put_end.Goals as goal

pub returns-then-ends : goal.returns-then-ends
returns-then-ends c =
    called (rw c.if-ends.true) c.put_all.ensures

pub returns-else-ends : goal.returns-else-ends
returns-else-ends c =
    called (rw c.if-ends.false) c.put_all-else-ends.ensures
