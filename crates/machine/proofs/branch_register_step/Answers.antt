-- `branch_register_step` takes no branch by register 0, and else goes by the mask. Assumes nothing.
use borrow.Author.Tests.{eq-eqb, ne_eqb}
use Rattle.base.proofs.Tests.{told}
use Rattle.machine.proofs.branch_register_step.Goals as goal

pub returns-then-g-eq0 : goal.returns-then-g-eq0
returns-then-g-eq0 c =
    λ rs. rw (eq-eqb _ _ c.if-g-eq0.true, c.go.ensures)

pub returns-then-is_asked : goal.returns-then-is_asked
returns-then-is_asked c =
    λ rs. rw (ne_eqb _ _ c.if-g-eq0.false, told c.is_asked.ensures c.if-is_asked.true, c.go-then-is_asked.ensures)

pub returns : goal.returns
returns c =
    λ rs. rw (ne_eqb _ _ c.if-g-eq0.false, told c.is_asked.ensures c.if-is_asked.false, c.go-2.ensures)
