-- By the shape. Assumes nothing.
use borrow.Author.Tests.{eq-eqb, ne_eqb}
use Rattle.emit.specs.Events.{subscript_in}
use Rattle.emit.proofs.subscript.Goals as goal

pub returns-then-shape-eq1 : goal.returns-then-shape-eq1
unfolding subscript_in
returns-then-shape-eq1 c =
    rw (eq-eqb _ _ c.if-shape-eq1.true) c.value.ensures

pub returns : goal.returns
unfolding subscript_in
returns c =
    rw (ne_eqb _ _ c.if-shape-eq1.false)
