-- `rule` is the definition's, case by case. Assumes nothing.
use Rattle.scopes.specs.Broken.{rule}
use Rattle.scopes.proofs.rule.Goals as goal

pub returns-then-holds : goal.returns-then-holds
unfolding rule
returns-then-holds c =
    rw c.if-holds.true

pub returns-else-holds : goal.returns-else-holds
unfolding rule
returns-else-holds c =
    rw (c.if-holds.false, c.at.ensures)
