-- `cap` keeps an end up to the limit, and past it only that. Assumes nothing.
use Rattle.layout.proofs.Along.{within-is, past_is}
use native.Mathlib.Omega.{arith}
use Rattle.layout.proofs.cap.Goals as goal

pub returns-then-end : goal.returns-then-end
returns-then-end c =
    (within-is c.args.end c.if-end.true, omega (arith, c.if-end.true))

pub returns : goal.returns
returns c =
    (past_is c.args.end c.if-end.false, omega arith)
