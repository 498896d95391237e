-- `add` is the sum of the signed readings: the code from the biased readings' sum, the value wrapped. Assumes nothing.
use Rattle.std.proofs.Common.{rules}
use Rattle.alu.proofs.Signed.{add-made}
use Rattle.alu.proofs.add.Goals as goal

pub returns : goal.returns
returns c =
    add-made (search rules) (search rules) c.biased.ensures.0 c.biased-2.ensures.0
    (search rules) c.settled_code.ensures
