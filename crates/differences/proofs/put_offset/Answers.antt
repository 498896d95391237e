-- Content frames alone have an offset. Assumes nothing.
use borrow.Author.Tests.{eq-eqb, ne_eqb}
use Rattle.figures.proofs.Writing.{called, still, then}
use Rattle.differences.proofs.put_offset.Goals as goal

pub returns-else-byte-eq48 : goal.returns-else-byte-eq48
returns-else-byte-eq48 c =
    called (rw (← c.byte.ensures, ne_eqb _ _ c.if-byte-eq48.false)) still

pub returns-then-byte-eq48 : goal.returns-then-byte-eq48
returns-then-byte-eq48 c =
    called (rw (
      ← c.byte.ensures,
      eq-eqb _ _ c.if-byte-eq48.true,
      c.front.ensures,
      c.rest.ensures,
    ))
    (then c.put_all.ensures c.put_all-then-byte-eq48.ensures)
