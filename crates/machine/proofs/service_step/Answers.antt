-- `service_step` follows the definition's test. Assumes nothing.
use borrow.Author.Tests.{eq-eqb, ne_eqb}
use Rattle.machine.proofs.service_step.Goals as goal

pub returns-then-g-eq0 : goal.returns-then-g-eq0
returns-then-g-eq0 c =
    λ rs. rw (eq-eqb _ _ c.if-g-eq0.true, c.halt.ensures)

pub returns-else-g-eq0 : goal.returns-else-g-eq0
returns-else-g-eq0 c =
    λ rs. rw (ne_eqb _ _ c.if-g-eq0.false, c.halt-else-g-eq0.ensures)
