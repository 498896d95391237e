-- `subtract_logical` finds the borrow by a smaller first operand. Assumes nothing.
use Rattle.std.proofs.Common.{rules}
use Rattle.alu.proofs.Unsigned.{carries}
use Rattle.alu.proofs.subtract_logical.Goals as goal

pub returns-then-a-b : goal.returns-then-a-b
returns-then-a-b c =
    search (carries, rules)

pub returns : goal.returns
returns c =
    search (carries, rules)
