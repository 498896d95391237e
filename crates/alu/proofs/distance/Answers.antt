-- `distance` is the signed reading without its sign. Assumes nothing.
use Rattle.std.proofs.Common.{rules}
use Rattle.alu.proofs.Products.{near, far}
use Rattle.alu.proofs.distance.Goals as goal

pub returns-then-a-lt-TOP : goal.returns-then-a-lt-TOP
returns-then-a-lt-TOP c =
    (search (near, far, rules), search rules)

pub returns-else-a-lt-TOP : goal.returns-else-a-lt-TOP
returns-else-a-lt-TOP c =
    (search (near, far, rules), search rules)
