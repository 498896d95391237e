-- By the event. Assumes nothing.
use borrow.Author.Tests.{eq-eqb, ne_eqb}
use Rattle.emit.specs.Events.{written_after}
use Rattle.emit.proofs.written_after.Goals as goal

pub returns-then-family-eq-TARGET : goal.returns-then-family-eq-TARGET
unfolding written_after
returns-then-family-eq-TARGET c =
    rw (eq-eqb _ _ c.if-family-eq-TARGET.true)

pub returns-then-family-eq-CONTROL : goal.returns-then-family-eq-CONTROL
unfolding written_after
returns-then-family-eq-CONTROL c =
    rw (ne_eqb _ _ c.if-family-eq-TARGET.false, eq-eqb _ _ c.if-family-eq-CONTROL.true)

pub returns-then-family : goal.returns-then-family
unfolding written_after
returns-then-family c =
    rw (ne_eqb _ _ c.if-family-eq-TARGET.false, ne_eqb _ _ c.if-family-eq-CONTROL.false, c.if-family.true) (rw c.sign_at.ensures)

pub returns-then-family-eq-ARGUED : goal.returns-then-family-eq-ARGUED
unfolding written_after
returns-then-family-eq-ARGUED c =
    rw (
      ne_eqb _ _ c.if-family-eq-TARGET.false,
      ne_eqb _ _ c.if-family-eq-CONTROL.false,
      c.if-family.false,
      eq-eqb _ _ c.if-family-eq-ARGUED.true,
      ← c.more.ensures,
    )

pub returns-then-family-2 : goal.returns-then-family-2
unfolding written_after
returns-then-family-2 c =
    rw (
      ne_eqb _ _ c.if-family-eq-TARGET.false,
      ne_eqb _ _ c.if-family-eq-CONTROL.false,
      c.if-family.false,
      ne_eqb _ _ c.if-family-eq-ARGUED.false,
      c.if-family-2.true,
    )
    c.no_writing.ensures

pub returns-then-family-eq-LISTED : goal.returns-then-family-eq-LISTED
unfolding written_after
returns-then-family-eq-LISTED c =
    rw (
      ne_eqb _ _ c.if-family-eq-TARGET.false,
      ne_eqb _ _ c.if-family-eq-CONTROL.false,
      c.if-family.false,
      ne_eqb _ _ c.if-family-eq-ARGUED.false,
      c.if-family-2.false,
      eq-eqb _ _ c.if-family-eq-LISTED.true,
    )

pub returns : goal.returns
unfolding written_after
returns c =
    rw (
      ne_eqb _ _ c.if-family-eq-TARGET.false,
      ne_eqb _ _ c.if-family-eq-CONTROL.false,
      c.if-family.false,
      ne_eqb _ _ c.if-family-eq-ARGUED.false,
      c.if-family-2.false,
      ne_eqb _ _ c.if-family-eq-LISTED.false,
    )
