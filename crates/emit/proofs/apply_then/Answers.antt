-- By whether there is an instruction. Assumes nothing.
use Rattle.emit.specs.Codes.{apply_then}
use Rattle.emit.proofs.apply_then.Goals as goal

pub returns-in-None : goal.returns-in-None
unfolding apply_then
returns-in-None c =
    λ k h. rw (← (c.in-None.ensures k h))

pub returns-in-Some : goal.returns-in-Some
unfolding apply_then
returns-in-Some c =
    λ k h. rw (← (c.in-Some.ensures k h))
