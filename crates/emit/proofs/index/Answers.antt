-- By the shape. Assumes nothing.
use borrow.Author.Tests.{eq-eqb, ne_eqb}
use Rattle.emit.specs.Events.{index_in}
use Rattle.emit.proofs.index.Goals as goal

pub returns-then-shape-eq-INDEXED : goal.returns-then-shape-eq-INDEXED
unfolding index_in
returns-then-shape-eq-INDEXED c =
    rw (eq-eqb _ _ c.if-shape-eq-INDEXED.true) c.register.ensures

pub returns-then-shape-eq-SUBSCRIPTED_INDEXED : goal.returns-then-shape-eq-SUBSCRIPTED_INDEXED
unfolding index_in
returns-then-shape-eq-SUBSCRIPTED_INDEXED c =
    rw (ne_eqb _ _ c.if-shape-eq-INDEXED.false, eq-eqb _ _ c.if-shape-eq-SUBSCRIPTED_INDEXED.true) c.register-then-shape-eq-SUBSCRIPTED_INDEXED.ensures

pub returns : goal.returns
unfolding index_in
returns c =
    rw (ne_eqb _ _ c.if-shape-eq-INDEXED.false, ne_eqb _ _ c.if-shape-eq-SUBSCRIPTED_INDEXED.false)
