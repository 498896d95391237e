-- `shift_step` writes what `shifted` makes. Assumes nothing.
use Rattle.machine.proofs.shift_step.Goals as goal

pub returns : goal.returns
returns c =
    rw (c.go.ensures, c.shifted-v.ensures, c.get.ensures, c.upper-r.ensures.0)
