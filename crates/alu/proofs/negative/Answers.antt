-- `negative` takes the complement of a word that is not below zero and keeps any other. Assumes nothing.
use Rattle.std.proofs.Common.{rules}
use Rattle.alu.proofs.Signed.{signs}
use Rattle.alu.proofs.negative.Goals as goal

pub returns-then-b-lt-TOP : goal.returns-then-b-lt-TOP
returns-then-b-lt-TOP c =
    search (signs, rules)

pub returns : goal.returns
returns c =
    search (signs, rules)
