-- `shift_right` shifts the distance from -1 of a word below zero. Assumes nothing.
use Rattle.std.proofs.Common.{rules}
use Rattle.alu.proofs.Shifts.{rights}
use Rattle.alu.proofs.shift_right.Goals as goal

pub returns-then-a-lt-TOP : goal.returns-then-a-lt-TOP
returns-then-a-lt-TOP c =
    search (rights, rules)

pub returns : goal.returns
returns c =
    search (rights, rules)
