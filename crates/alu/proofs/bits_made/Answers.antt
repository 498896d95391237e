-- `bits_made` puts the code beside the value. Assumes nothing.
use Rattle.std.proofs.Common.{refl}
use Rattle.alu.proofs.Signed.{made}
use Rattle.alu.proofs.bits_made.Goals as goal

pub returns : goal.returns
returns c =
    made refl c.zero_code.ensures.0
