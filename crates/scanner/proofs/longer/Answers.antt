-- `longer` goes by its one test; a key below the cut has room for a digit more. Assumes nothing.
use borrow.Author.Tests.{lt-ltb, le-ltb}
use Rattle.scanner.proofs.longer.Goals as goal

pub returns-then-i-lt-COUNTED : goal.returns-then-i-lt-COUNTED
returns-then-i-lt-COUNTED c =
    rw (lt-ltb _ 10 c.if-i-lt-COUNTED.true)

pub returns-else-i-lt-COUNTED : goal.returns-else-i-lt-COUNTED
returns-else-i-lt-COUNTED c =
    rw (le-ltb _ 10 c.if-i-lt-COUNTED.false)
