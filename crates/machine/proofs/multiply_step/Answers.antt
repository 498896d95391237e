-- `multiply_step` stops at an odd field, and else multiplies. Assumes nothing.
use borrow.Author.Tests.{eq-eqb, ne_eqb}
use Rattle.machine.proofs.multiply_step.Goals as goal

pub returns-then-g-ne0 : goal.returns-then-g-ne0
returns-then-g-ne0 c =
    rw (ne_eqb _ _ c.if-g-ne0.true, c.halt.ensures)

pub returns : goal.returns
returns c =
    rw (eq-eqb _ _ c.if-g-ne0.false) c.pair.ensures
