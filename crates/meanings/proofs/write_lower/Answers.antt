-- A product writes the register below its target. Assumes nothing.
use Rattle.meanings.specs.Along.{write_lower}
use Rattle.meanings.proofs.write_lower.Goals as goal

pub returns-in-Some : goal.returns-in-Some
unfolding write_lower
returns-in-Some c =
    λ w n. rw (c.in-Some.is, ← c.saturating_sub.ensures) (c.write.ensures w n)

pub returns-in_default : goal.returns-in_default
unfolding write_lower
returns-in_default c =
    λ w n. rw c.in_default.is
