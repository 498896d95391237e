-- By the event. Assumes nothing.
use borrow.Author.Tests.{eq-eqb, ne_eqb}
use Rattle.emit.specs.Events.{register_at}
use Rattle.emit.proofs.register_at.Goals as goal

pub returns-then-family-eq-END_PROCEDURE : goal.returns-then-family-eq-END_PROCEDURE
unfolding register_at
returns-then-family-eq-END_PROCEDURE c =
    rw (eq-eqb _ _ c.if-family-eq-END_PROCEDURE.true) c.register.ensures

pub returns-then-family-eq-COMPARED : goal.returns-then-family-eq-COMPARED
unfolding register_at
returns-then-family-eq-COMPARED c =
    rw (
      ne_eqb _ _ c.if-family-eq-END_PROCEDURE.false,
      eq-eqb _ _ c.if-family-eq-COMPARED.true,
      ← c.less.ensures,
    )
    c.register-then-family-eq-COMPARED.ensures

pub returns-then-family-eq-CALL : goal.returns-then-family-eq-CALL
unfolding register_at
returns-then-family-eq-CALL c =
    rw (
      ne_eqb _ _ c.if-family-eq-END_PROCEDURE.false,
      ne_eqb _ _ c.if-family-eq-COMPARED.false,
      eq-eqb _ _ c.if-family-eq-CALL.true,
      ← c.meaning.ensures,
    )
    c.return_register.ensures

pub returns : goal.returns
unfolding register_at
returns c =
    rw (
      ne_eqb _ _ c.if-family-eq-END_PROCEDURE.false,
      ne_eqb _ _ c.if-family-eq-COMPARED.false,
      ne_eqb _ _ c.if-family-eq-CALL.false,
    )
    c.register-2.ensures
