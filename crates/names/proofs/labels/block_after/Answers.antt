-- `block_after` is the definition's, test by test. Assumes nothing.
use Rattle.tape.specs.Events as E
use Rattle.names.specs.Linking.{block_after}
use Rattle.ledger.proofs.Bounds.{block_noted}
use borrow.Author.Tests.{eq-eqb, ne_eqb}
use native.Mathlib.Omega.{arith}
use Rattle.names.proofs.labels.block_after.Goals as goal

pub returns-then-op-eq-BLOCK : goal.returns-then-op-eq-BLOCK
unfolding block_after
returns-then-op-eq-BLOCK c =
    (rw (eq-eqb _ E.BLOCK c.if-op-eq-BLOCK.true), c.requires.0 (block_noted c.args.op c.if-op-eq-BLOCK.true))

pub returns-then-op-eq-PROCEDURE : goal.returns-then-op-eq-PROCEDURE
unfolding block_after
returns-then-op-eq-PROCEDURE c =
    (rw (ne_eqb _ E.BLOCK c.if-op-eq-BLOCK.false, eq-eqb _ E.PROCEDURE c.if-op-eq-PROCEDURE.true), omega arith)

pub returns-then-op : goal.returns-then-op
unfolding block_after
returns-then-op c =
    (rw (ne_eqb _ E.BLOCK c.if-op-eq-BLOCK.false, ne_eqb _ E.PROCEDURE c.if-op-eq-PROCEDURE.false, c.if-op.true) c.written.ensures.0, c.written.ensures.1)

pub returns : goal.returns
unfolding block_after
returns c =
    (rw (ne_eqb _ E.BLOCK c.if-op-eq-BLOCK.false, ne_eqb _ E.PROCEDURE c.if-op-eq-PROCEDURE.false, c.if-op.false), c.requires.1)
