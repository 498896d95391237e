-- `load_step` stops as the operand's tests say; an aligned operand that begins in storage lies in it. Assumes nothing.
use mathlib.Core.Path.{◌∙◌}
use native.Mathlib.Omega.{arith}
use borrow.Author.Rules.{rules}
use borrow.Author.Tests.{eq-eqb, ne_eqb}
use Rattle.base.proofs.Tests.{told}
use Rattle.machine.proofs.Operands.{whole}
use Rattle.machine.specs.Space.{needed}
use Rattle.machine.proofs.load_step.Goals as goal

pub returns-then-w-n-ne0 : goal.returns-then-w-n-ne0
returns-then-w-n-ne0 c =
    rw (ne_eqb _ _ c.if-w-n-ne0.true, c.halt.ensures)

pub load-requires : goal.load-requires
load-requires c = (
  search rules,
  omega (
    arith,
    whole _ needed _ c.if-w-n-ne0.false c.requires.4
        (c.is_readable.ensures.1 c.if-is_readable.true),
  ),
)

pub execute-requires : goal.execute-requires
execute-requires c =
    rw c.on.ensures (search rules)

pub returns-then-is_readable : goal.returns-then-is_readable
returns-then-is_readable c =
    rw (eq-eqb _ _ c.if-w-n-ne0.false, told c.is_readable.ensures.0 c.if-is_readable.true)
    (c.execute.ensures ∙ rw (c.on.ensures, c.extend.ensures, c.load.ensures.0))

pub returns : goal.returns
returns c =
    rw (eq-eqb _ _ c.if-w-n-ne0.false, told c.is_readable.ensures.0 c.if-is_readable.false, c.halt-2.ensures)
