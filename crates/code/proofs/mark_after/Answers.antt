-- By the event. Assumes nothing.
use borrow.Author.Tests.{eq-eqb, ne_eqb}
use Rattle.code.specs.Places.{mark_after}
use Rattle.code.proofs.mark_after.Goals as goal

pub returns-then-family-eq-LABEL : goal.returns-then-family-eq-LABEL
unfolding mark_after
returns-then-family-eq-LABEL c =
    rw (eq-eqb _ _ c.if-family-eq-LABEL.true) c.put_mark.ensures

pub returns-then-family-eq-LIMIT : goal.returns-then-family-eq-LIMIT
unfolding mark_after
returns-then-family-eq-LIMIT c =
    rw (ne_eqb _ _ c.if-family-eq-LABEL.false, eq-eqb _ _ c.if-family-eq-LIMIT.true) c.mark_limit.ensures

pub returns-then-family-eq-WHILE : goal.returns-then-family-eq-WHILE
unfolding mark_after
returns-then-family-eq-WHILE c =
    rw (
      ne_eqb _ _ c.if-family-eq-LABEL.false,
      ne_eqb _ _ c.if-family-eq-LIMIT.false,
      eq-eqb _ _ c.if-family-eq-WHILE.true,
    )
    c.put_mark-then-family-eq-WHILE.ensures

pub returns : goal.returns
unfolding mark_after
returns c =
    rw (
      ne_eqb _ _ c.if-family-eq-LABEL.false,
      ne_eqb _ _ c.if-family-eq-LIMIT.false,
      ne_eqb _ _ c.if-family-eq-WHILE.false,
    )
    c.mark_closing.ensures
