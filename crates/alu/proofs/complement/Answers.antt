-- `complement` is the difference from zero. Assumes nothing.
use Rattle.alu.proofs.Signed.{complement-made}
use Rattle.alu.proofs.complement.Goals as goal

pub returns : goal.returns
returns c =
    complement-made c.args.b c.subtract.ensures
