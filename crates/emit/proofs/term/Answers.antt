-- By the operator's kind. Assumes nothing.
use mathlib.Core.Path.{refl}
use native.Mathlib.Omega.{arith}
use Rattle.translation.specs.Instructions.{times_row}
use borrow.Author.Tests.{eq-eqb, ne_eqb}
use Rattle.emit.specs.Codes.{term_codes}
use Rattle.emit.proofs.Tables.{shifted, unshifted}
use Rattle.emit.proofs.term.Goals as goal

pub returns-in-Some : goal.returns-in-Some
unfolding term_codes
returns-in-Some c =
    let (a, b) = shifted c.args.k c.in-Some.op c.in-Some.ensures in rw (a, ← c.held.ensures, ← c.amount.ensures, ← b)

pub returns-then-k-eq-TIMES : goal.returns-then-k-eq-TIMES
unfolding term_codes
returns-then-k-eq-TIMES c =
    rw (
      unshifted c.args.k c.in_default.ensures,
      eq-eqb _ _ c.if-k-eq-TIMES.true,
      ← c.product_register.ensures,
    )
    (c.applied.ensures times_row (omega arith, refl))

pub returns : goal.returns
unfolding term_codes
returns c =
    rw (unshifted c.args.k c.in_default.ensures, ne_eqb _ _ c.if-k-eq-TIMES.false)
    (c.applied-2.ensures _ c.row_of.ensures)
