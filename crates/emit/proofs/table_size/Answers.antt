-- By the event. Assumes nothing.
use native.Mathlib.Omega.{arith}
use borrow.Author.Tests.{eq-eqb, ne_eqb}
use borrow.Author.Rules.{rules}
use Rattle.emit.proofs.table_size.Goals as goal

pub returns-then-family-eq-CHOSEN : goal.returns-then-family-eq-CHOSEN
returns-then-family-eq-CHOSEN c =
    (rw (← c.family.ensures, eq-eqb _ _ c.if-family-eq-CHOSEN.true), search rules)

pub returns : goal.returns
returns c =
    (rw (← c.family.ensures, ne_eqb _ _ c.if-family-eq-CHOSEN.false), omega arith)
