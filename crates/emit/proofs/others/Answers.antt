-- By the event. Assumes nothing.
use borrow.Author.Tests.{eq-eqb, ne_eqb}
use Rattle.emit.specs.Events.{other_codes}
use Rattle.emit.proofs.others.Goals as goal

pub returns-then-family-eq-BASE : goal.returns-then-family-eq-BASE
unfolding other_codes
returns-then-family-eq-BASE c =
    rw (eq-eqb _ _ c.if-family-eq-BASE.true, ← c.base.ensures)

pub returns-then-family-eq-END_PROCEDURE : goal.returns-then-family-eq-END_PROCEDURE
unfolding other_codes
returns-then-family-eq-END_PROCEDURE c =
    rw (ne_eqb _ _ c.if-family-eq-BASE.false, eq-eqb _ _ c.if-family-eq-END_PROCEDURE.true)

pub returns-then-family-eq-CALL : goal.returns-then-family-eq-CALL
unfolding other_codes
returns-then-family-eq-CALL c =
    rw (
      ne_eqb _ _ c.if-family-eq-BASE.false,
      ne_eqb _ _ c.if-family-eq-END_PROCEDURE.false,
      eq-eqb _ _ c.if-family-eq-CALL.true,
      ← c.mark.ensures.0,
      ← c.link.ensures,
    )

pub returns-then-family-eq-GOTO : goal.returns-then-family-eq-GOTO
unfolding other_codes
returns-then-family-eq-GOTO c =
    rw (
      ne_eqb _ _ c.if-family-eq-BASE.false,
      ne_eqb _ _ c.if-family-eq-END_PROCEDURE.false,
      ne_eqb _ _ c.if-family-eq-CALL.false,
      eq-eqb _ _ c.if-family-eq-GOTO.true,
      ← c.mark-then-family-eq-GOTO.ensures.0,
      ← c.branch-mark.ensures,
    )

pub returns-then-opens-family : goal.returns-then-opens-family
unfolding other_codes
returns-then-opens-family c =
    rw (
      ne_eqb _ _ c.if-family-eq-BASE.false,
      ne_eqb _ _ c.if-family-eq-END_PROCEDURE.false,
      ne_eqb _ _ c.if-family-eq-CALL.false,
      ne_eqb _ _ c.if-family-eq-GOTO.false,
      c.if-opens-family.true,
      ← c.mark-then-opens-family.ensures.0,
      ← c.branch-mark-then-opens-family.ensures,
    )

pub returns : goal.returns
unfolding other_codes
returns c =
    rw (
      ne_eqb _ _ c.if-family-eq-BASE.false,
      ne_eqb _ _ c.if-family-eq-END_PROCEDURE.false,
      ne_eqb _ _ c.if-family-eq-CALL.false,
      ne_eqb _ _ c.if-family-eq-GOTO.false,
      c.if-opens-family.false,
    )
