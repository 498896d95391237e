-- `after` is the definition's: a chain falls, or ends. Assumes nothing.
use Rattle.names.specs.Chains.{after}
use borrow.Author.Tests.{lt-ltb, le-ltb}
use native.Mathlib.Omega.{arith}
use Rattle.names.proofs.labels.after.Goals as goal

pub returns-then-next-t : goal.returns-then-next-t
unfolding after
returns-then-next-t c =
    ((λ a e. rw (← e, lt-ltb _ _ c.if-next-t.true)), c.requires)

pub returns-else-next-t : goal.returns-else-next-t
unfolding after
returns-else-next-t c =
    ((λ a e. rw (← e, le-ltb _ _ c.if-next-t.false)), omega arith)
