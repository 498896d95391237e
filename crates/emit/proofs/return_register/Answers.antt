-- By the packed meaning. Assumes nothing.
use mathlib.Core.Path.{sym, ◌∙◌}
use Rattle.emit.specs.Events.{return_in}
use Rattle.emit.proofs.return_register.Goals as goal

pub returns-then-is_routine : goal.returns-then-is_routine
unfolding return_in
returns-then-is_routine c =
    rw (sym c.is_routine.ensures ∙ c.if-is_routine.true) c.number.ensures.0

pub returns : goal.returns
unfolding return_in
returns c =
    rw (sym c.is_routine.ensures ∙ c.if-is_routine.false)
