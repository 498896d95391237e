-- `compare_logical` follows the definition's tests. Assumes nothing.
use Rattle.std.proofs.Common.{rules}
use Rattle.base.proofs.Tests.{picks}
use Rattle.alu.proofs.compare_logical.Goals as goal

pub returns-then-a-b : goal.returns-then-a-b
returns-then-a-b c =
    search (picks, rules) depth 9

pub returns-then-a-b-2 : goal.returns-then-a-b-2
returns-then-a-b-2 c =
    search (picks, rules) depth 9

pub returns : goal.returns
returns c =
    search (picks, rules) depth 9
