-- `store_step` stores what a register holds. Assumes nothing.
use mathlib.Core.Path.{◌∙◌}
use Rattle.machine.proofs.store_step.Goals as goal

pub returns : goal.returns
returns c =
    c.put_step.ensures _ ∙ rw (c.get.ensures, c.upper.ensures.0)
