-- No function takes more than two.
use Rattle.std.proofs.Common.{arith}
use Rattle.functions.proofs.Table as table
use Rattle.functions.proofs.takes.Goals as goal

pub returns-in_default : goal.returns-in_default
returns-in_default c =
    table.no_third c.args.m c.args.position (omega (arith, c.in_default))
