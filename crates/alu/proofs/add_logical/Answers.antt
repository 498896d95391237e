-- `add_logical` finds the carry by a sum below an operand. Assumes nothing.
use Rattle.std.proofs.Common.{rules}
use Rattle.alu.proofs.Unsigned.{carries}
use Rattle.alu.proofs.add_logical.Goals as goal

pub returns-then-v-a : goal.returns-then-v-a
returns-then-v-a c =
    search (carries, rules)

pub returns : goal.returns
returns c =
    search (carries, rules)
