-- What a declaration makes its name mean: one law for each return. Assumes nothing.
use native.Mathlib.Omega.{arith}
use Rattle.tape.specs.Events as E
use Rattle.meanings.proofs.Views as views
use Rattle.ledger.specs.Book.{wide_of, thin_of}
use Rattle.meanings.specs.Along.{declared_after}
use Rattle.ledger.proofs.Columns.{wide-length}
use borrow.Author.Tests.{ne_eqb}
use Rattle.meanings.proofs.declared_after.Goals as goal

pub returns-then-op-eq-REGISTER : goal.returns-then-op-eq-REGISTER
unfolding declared_after
returns-then-op-eq-REGISTER c = (
  rw (
    c.if-op-eq-REGISTER.true,
    c.put_mean.ensures,
  ) (views.register-declared
      (wide_of c.args.wide.now)
      (thin_of c.args.thin.now)
      c.args.bases
      c.args.t _ _ c.value.ensures
      c.packed_as.ensures),
  omega arith,
)

pub returns-then-op-eq-ITEM : goal.returns-then-op-eq-ITEM
unfolding declared_after
returns-then-op-eq-ITEM c = (
  rw (
    c.if-op-eq-ITEM.true,
    c.put_under.ensures,
    c.put_mean-then-op-eq-ITEM.ensures,
  )
      (views.item-declared (wide_of c.args.wide.now)
      (thin_of c.args.thin.now)
      c.args.bases
      c.args.t _ _ (omega (
        arith,
        wide-length 1 c.args.wide.now,
        wide-length 2 c.args.wide.now,
      ))),
  omega arith,
)

pub returns-then-op-eq-BASE : goal.returns-then-op-eq-BASE
unfolding declared_after
returns-then-op-eq-BASE c =
    (rw c.if-op-eq-BASE.true c.open_base.ensures.0, omega (arith, c.open_base.ensures.1))

pub returns-then-op-eq-PROCEDURE : goal.returns-then-op-eq-PROCEDURE
unfolding declared_after
returns-then-op-eq-PROCEDURE c = (
  rw c.if-op-eq-PROCEDURE.true
      (c.declare_routine.ensures c.args.bases),
  omega arith,
)

pub returns-then-op-eq-END_PROCEDURE : goal.returns-then-op-eq-END_PROCEDURE
unfolding declared_after
returns-then-op-eq-END_PROCEDURE c = (
  rw c.if-op-eq-END_PROCEDURE.true (c.write_text.ensures (wide_of c.args.wide.now) c.args.bases),
  omega arith,
)

pub returns : goal.returns
unfolding declared_after
returns c = (
  rw (
    ne_eqb _ E.REGISTER c.if-op-eq-REGISTER.false,
    ne_eqb _ E.ITEM c.if-op-eq-ITEM.false,
    ne_eqb _ E.BASE c.if-op-eq-BASE.false,
    ne_eqb _ E.PROCEDURE c.if-op-eq-PROCEDURE.false,
    ne_eqb _ E.END-PROCEDURE c.if-op-eq-END_PROCEDURE.false,
  ),
  omega arith,
)
