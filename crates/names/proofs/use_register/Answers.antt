-- `use_register` uses the register that stands before or behind the event's token. Assumes nothing.
use Rattle.tape.specs.Events as E
use Rattle.names.specs.Naming.{use_register}
use Rattle.base.proofs.Tests.{same, other}
use borrow.Author.Tests.{eq-eqb, ne_eqb}
use Rattle.names.proofs.use_register.Goals as goal

pub returns-then-op-eq-PROCEDURE : goal.returns-then-op-eq-PROCEDURE
unfolding use_register
returns-then-op-eq-PROCEDURE c =
    rw c.if-op-eq-PROCEDURE.true c.use_name.ensures

pub returns-then-family-eq-COMPARED : goal.returns-then-family-eq-COMPARED
unfolding use_register
returns-then-family-eq-COMPARED c =
    rw (
      ne_eqb _ E.PROCEDURE c.if-op-eq-PROCEDURE.false,
      eq-eqb _ E.COMPARED (same c.family.ensures c.if-family-eq-COMPARED.true),
      ← c.saturating_sub.ensures,
    ) c.use_name-then-family-eq-COMPARED.ensures

pub returns-else-family-eq-COMPARED : goal.returns-else-family-eq-COMPARED
unfolding use_register
returns-else-family-eq-COMPARED c =
    rw (ne_eqb _ E.PROCEDURE c.if-op-eq-PROCEDURE.false, ne_eqb _ E.COMPARED (other c.family.ensures c.if-family-eq-COMPARED.false))
