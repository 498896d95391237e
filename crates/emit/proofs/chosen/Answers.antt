-- By where the first statement stands, and the end. Assumes nothing.
use Rattle.emit.specs.Events.{chosen_codes}
use Rattle.emit.proofs.chosen.Goals as goal

pub returns : goal.returns
unfolding chosen_codes
returns c =
    rw (← c.mark.ensures.0, ← c.less-at.ensures, ← c.mark-end.ensures.0)
