-- By the sign of the step. Assumes nothing.
use borrow.Author.Tests.{le-leb, lt-leb}
use Rattle.emit.proofs.exit_mask.Goals as goal

pub returns-then-step-ge2147483648 : goal.returns-then-step-ge2147483648
returns-then-step-ge2147483648 c =
    rw (le-leb _ _ c.if-step-ge2147483648.true)

pub returns : goal.returns
returns c =
    rw (lt-leb _ _ c.if-step-ge2147483648.false)
