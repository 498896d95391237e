-- By the event. Assumes nothing.
use borrow.Author.Tests.{eq-eqb, ne_eqb}
use Rattle.emit.specs.Events.{goal_at}
use Rattle.emit.proofs.goal_at.Goals as goal

pub returns-then-family-eq-BASE : goal.returns-then-family-eq-BASE
unfolding goal_at
returns-then-family-eq-BASE c =
    (rw (eq-eqb _ _ c.if-family-eq-BASE.true) c.opens.ensures.0, c.opens.ensures.1)

pub returns-then-family-eq-CALL : goal.returns-then-family-eq-CALL
unfolding goal_at
returns-then-family-eq-CALL c =
    (rw (ne_eqb _ _ c.if-family-eq-BASE.false, eq-eqb _ _ c.if-family-eq-CALL.true) c.found.ensures.0, c.found.ensures.1)

pub returns : goal.returns
unfolding goal_at
returns c =
    (rw (ne_eqb _ _ c.if-family-eq-BASE.false, ne_eqb _ _ c.if-family-eq-CALL.false) c.goes.ensures.0, c.goes.ensures.1)
