-- By whether there is an instruction. Assumes nothing.
use Rattle.emit.specs.Codes.{apply_codes}
use Rattle.emit.proofs.applied.Goals as goal

pub returns-in-None : goal.returns-in-None
unfolding apply_codes
returns-in-None c =
    λ k h. rw (← (c.in-None.ensures k h))

pub returns-in-Some : goal.returns-in-Some
unfolding apply_codes
returns-in-Some c =
    λ k h. rw (← (c.in-Some.ensures k h))
