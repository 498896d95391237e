-- `is_readable` looks at the page's entry; past the last page nothing is readable. Assumes nothing.
use native.Mathlib.Omega.{arith}
use borrow.Author.Tests.{lt-ltb, le-ltb}
use Rattle.base.proofs.Tests.{never_true}
use Rattle.machine.proofs.Operands.{no_bytes}
use Rattle.machine.proofs.is_readable.Goals as goal

pub returns-then-k-lt-PAGES : goal.returns-then-k-lt-PAGES
returns-then-k-lt-PAGES c =
    (rw (lt-ltb _ _ c.if-k-lt-PAGES.true), λ e. omega arith)

pub returns-else-k-lt-PAGES : goal.returns-else-k-lt-PAGES
returns-else-k-lt-PAGES c =
    (rw (le-ltb _ _ c.if-k-lt-PAGES.false) (no_bytes _ _ c.requires.0), λ e. never_true e)
