-- Where the walk is after an event: one law for each return. Assumes nothing.
use mathlib.Core.Path.{refl}
use Rattle.tape.specs.Events as E
use Rattle.meanings.specs.Along.{within_after}
use borrow.Author.Tests.{ne_eqb}
use Rattle.meanings.proofs.within_after.Goals as goal

pub returns-then-op-eq-BLOCK : goal.returns-then-op-eq-BLOCK
unfolding within_after
returns-then-op-eq-BLOCK c =
    λ under. rw c.if-op-eq-BLOCK.true
    (c.enter_block.ensures c.args.owners.now)

pub returns-then-op-eq-END_BLOCK : goal.returns-then-op-eq-END_BLOCK
unfolding within_after
returns-then-op-eq-END_BLOCK c =
    λ under. rw c.if-op-eq-END_BLOCK.true (c.leave_block.ensures c.args.owners.now)

pub returns-then-op-eq-BASE : goal.returns-then-op-eq-BASE
unfolding within_after
returns-then-op-eq-BASE c =
    λ under. rw c.if-op-eq-BASE.true (c.change_base.ensures under
    c.args.owners.now
    c.args.outer.now)

pub returns-then-op-eq-PROCEDURE : goal.returns-then-op-eq-PROCEDURE
unfolding within_after
returns-then-op-eq-PROCEDURE c =
    λ under. rw c.if-op-eq-PROCEDURE.true (c.enter_procedure.ensures c.args.outer.now)

pub returns-then-op-eq-END_PROCEDURE : goal.returns-then-op-eq-END_PROCEDURE
unfolding within_after
returns-then-op-eq-END_PROCEDURE c =
    λ under. rw c.if-op-eq-END_PROCEDURE.true (c.leave_procedure.ensures c.args.outer.now)

pub returns : goal.returns
unfolding within_after
returns c =
    λ under. rw (
      ne_eqb _ E.BLOCK c.if-op-eq-BLOCK.false,
      ne_eqb _ E.END-BLOCK c.if-op-eq-END_BLOCK.false,
      ne_eqb _ E.BASE c.if-op-eq-BASE.false,
      ne_eqb _ E.PROCEDURE c.if-op-eq-PROCEDURE.false,
      ne_eqb _ E.END-PROCEDURE c.if-op-eq-END_PROCEDURE.false,
    ) (record { is = refl; blocks-are = refl; procedures-are = refl })
