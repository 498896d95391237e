-- A number, or a place. Assumes nothing.
use borrow.Author.Tests.{eq-eqb, ne_eqb}
use Rattle.emit.specs.Events.{use_in}
use Rattle.emit.proofs.operand.Goals as goal

pub returns-then-shape-eq-NUMBER : goal.returns-then-shape-eq-NUMBER
unfolding use_in
returns-then-shape-eq-NUMBER c =
    rw (eq-eqb _ _ c.if-shape-eq-NUMBER.true, ← c.value.ensures)

pub returns : goal.returns
unfolding use_in
returns c =
    rw (ne_eqb _ _ c.if-shape-eq-NUMBER.false) c.place.ensures
