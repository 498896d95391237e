-- `digit` gives what a byte stands for, as the definition's tests do. Assumes nothing.
use Rattle.std.proofs.Common.{arith}
use Rattle.base.proofs.Tests.{tests}
use Rattle.scanner.proofs.Spelling.{low_byte}
use Rattle.scanner.proofs.digit.Goals as goal

pub returns-in-48-to-57 : goal.returns-in-48-to-57
returns-in-48-to-57 c =
    (search (tests, arith), omega arith)

pub returns-in-65-to-90 : goal.returns-in-65-to-90
returns-in-65-to-90 c =
    (search (tests, arith), omega arith)

pub returns-in_default : goal.returns-in_default
returns-in_default c =
    (low_byte c.args.b (omega arith), omega arith)

pub returns-in_default-2 : goal.returns-in_default-2
returns-in_default-2 c =
    (search (tests, arith), omega arith)

pub returns-in_default-3 : goal.returns-in_default-3
returns-in_default-3 c =
    (search (tests, arith), omega arith)
