-- `named` forms the address of the base and the displacement that the bytes hold. Assumes nothing.
use Rattle.instruction.proofs.named.Goals as goal

pub returns : goal.returns
returns c =
    rw (c.address.ensures, c.upper.ensures.0, c.displacement.ensures.0)
