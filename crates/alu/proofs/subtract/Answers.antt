-- `subtract` is the difference of the signed readings, told like a sum. Assumes nothing.
use Rattle.std.proofs.Common.{rules}
use Rattle.alu.proofs.Signed.{subtract-made}
use Rattle.alu.proofs.subtract.Goals as goal

pub returns : goal.returns
returns c =
    subtract-made (search rules) (search rules) c.biased.ensures.0 c.biased-2.ensures.0
    (search rules) (search rules) c.settled_code.ensures
