-- By whether one ends. Assumes nothing.
use Rattle.base.proofs.Tests.{told}
use Rattle.code.proofs.start_after.Goals as goal

pub returns-then-ends_here : goal.returns-then-ends_here
returns-then-ends_here c =
    rw (told c.ends_here.ensures c.if-ends_here.true)

pub returns : goal.returns
returns c =
    rw (told c.ends_here.ensures c.if-ends_here.false)
