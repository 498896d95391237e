-- `branch_step` goes by what `is_asked` says of the mask. Assumes nothing.
use Rattle.base.proofs.Tests.{told}
use Rattle.machine.proofs.branch_step.Goals as goal

pub returns-then-is_asked : goal.returns-then-is_asked
returns-then-is_asked c =
    λ rs. rw (told c.is_asked.ensures c.if-is_asked.true, c.go.ensures)

pub returns : goal.returns
returns c =
    λ rs. rw (told c.is_asked.ensures c.if-is_asked.false, c.go-2.ensures)
