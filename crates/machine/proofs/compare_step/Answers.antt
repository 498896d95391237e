-- `compare_step` stops as the operand's test says; one byte is aligned wherever it is. Assumes nothing.
use native.Mathlib.Omega.{arith}
use borrow.Author.Rules.{rules}
use Rattle.base.proofs.Tests.{told}
use Rattle.machine.proofs.Operands.{byte-aligned}
use Rattle.machine.proofs.compare_step.Goals as goal

pub load-requires : goal.load-requires
load-requires c =
    (search rules, omega (arith, c.is_readable.ensures.1 c.if-is_readable.true))

pub returns-then-is_readable : goal.returns-then-is_readable
returns-then-is_readable c =
    λ rs.
    rw (byte-aligned _, told c.is_readable.ensures.0 c.if-is_readable.true)
    (rw (c.go.ensures, c.compare_logical.ensures, c.load.ensures.0))

pub returns : goal.returns
returns c =
    λ rs. rw (byte-aligned _, told c.is_readable.ensures.0 c.if-is_readable.false, c.halt.ensures)
