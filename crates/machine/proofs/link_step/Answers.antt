-- `link_step` writes the link after the address is formed. Assumes nothing.
use Rattle.machine.proofs.link_step.Goals as goal

pub returns : goal.returns
returns c =
    rw (c.go.ensures, c.upper-r.ensures.0)
