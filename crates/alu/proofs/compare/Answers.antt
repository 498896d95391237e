-- `compare` orders signed readings as their biased readings are ordered. Assumes nothing.
use Rattle.std.proofs.Common.{rules}
use Rattle.alu.proofs.Signed.{compares}
use Rattle.alu.proofs.compare.Goals as goal

pub returns-then-x-y : goal.returns-then-x-y
returns-then-x-y c =
    search (compares, rules)

pub returns-then-x-y-2 : goal.returns-then-x-y-2
returns-then-x-y-2 c =
    search (compares, rules)

pub returns : goal.returns
returns c =
    search (compares, rules)
