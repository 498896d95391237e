-- A target is written. Assumes nothing.
use Rattle.meanings.specs.Along.{write_target}
use Rattle.meanings.proofs.write_target.Goals as goal

pub returns-in-Some : goal.returns-in-Some
unfolding write_target
returns-in-Some c =
    λ w n. rw c.in-Some.is (c.write.ensures w n)

pub returns-in_default : goal.returns-in_default
unfolding write_target
returns-in_default c =
    λ w n. rw c.in_default.is
