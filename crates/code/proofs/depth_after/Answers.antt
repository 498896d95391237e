-- By the event. Assumes nothing.
use native.Mathlib.Omega.{arith}
use borrow.Author.Tests.{eq-eqb, ne_eqb}
use Rattle.code.proofs.depth_after.Goals as goal

pub returns-then-family-eq-CHOSEN : goal.returns-then-family-eq-CHOSEN
returns-then-family-eq-CHOSEN c =
    (rw (eq-eqb _ _ c.if-family-eq-CHOSEN.true), omega arith)

pub returns-then-family-eq-END_CASE : goal.returns-then-family-eq-END_CASE
returns-then-family-eq-END_CASE c =
    (rw (ne_eqb _ _ c.if-family-eq-CHOSEN.false, eq-eqb _ _ c.if-family-eq-END_CASE.true) c.less.ensures, omega (arith, c.less.ensures))

pub returns : goal.returns
returns c =
    (rw (ne_eqb _ _ c.if-family-eq-CHOSEN.false, ne_eqb _ _ c.if-family-eq-END_CASE.false), omega arith)
