-- Up to three. Assumes nothing.
use borrow.Author.Tests.{lt-ltb, le-ltb}
use Rattle.emit.proofs.more.Goals as goal

pub returns-then-n-lt3 : goal.returns-then-n-lt3
returns-then-n-lt3 c =
    rw (lt-ltb _ _ c.if-n-lt3.true)

pub returns : goal.returns
returns c =
    rw (le-ltb _ _ c.if-n-lt3.false)
