-- `is_writable` looks at the page's entries; past the last page nothing is writable. Assumes nothing.
use Prim.Native.Nat.{◌%◌}
use native.Mathlib.Omega.{arith}
use lib.Dec.{leb}
use borrow.Author.Tests.{lt-ltb, le-ltb}
use Rattle.base.proofs.Tests.{never_true}
use Rattle.machine.proofs.Operands.{no_room}
use Rattle.machine.specs.Space.{room}
use Rattle.machine.proofs.is_writable.Goals as goal

pub returns-then-k-lt-PAGES : goal.returns-then-k-lt-PAGES
returns-then-k-lt-PAGES c =
    (rw (lt-ltb _ _ c.if-k-lt-PAGES.true), λ e. omega arith)

pub returns-else-k-lt-PAGES : goal.returns-else-k-lt-PAGES
returns-else-k-lt-PAGES c =
    (rw (le-ltb _ _ c.if-k-lt-PAGES.false) (no_room (leb 0 (c.args.at % room)) (c.args.at % room) _ c.requires.0), λ e. never_true e)
