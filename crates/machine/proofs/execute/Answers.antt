-- `execute` writes what `apply` makes. Assumes nothing.
use Rattle.machine.proofs.execute.Goals as goal

pub returns : goal.returns
returns c =
    rw (c.go.ensures, c.apply-v.ensures, c.get.ensures, c.upper-r.ensures.0)
