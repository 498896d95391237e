-- `multiply_word_step` stops at an odd field, then as the operand's tests say. Assumes nothing.
use mathlib.Core.Path.{◌∙◌, refl}
use native.Mathlib.Omega.{arith}
use borrow.Author.Rules.{rules}
use borrow.Author.Tests.{eq-eqb, ne_eqb}
use Rattle.base.proofs.Tests.{told}
use Rattle.machine.proofs.Operands.{whole}
use Rattle.machine.specs.Space.{needed}
use Rattle.machine.proofs.multiply_word_step.Goals as goal

pub returns-then-g-ne0 : goal.returns-then-g-ne0
returns-then-g-ne0 c =
    rw (ne_eqb _ _ c.if-g-ne0.true, c.halt.ensures)

pub returns-then-w-ne0 : goal.returns-then-w-ne0
returns-then-w-ne0 c =
    rw (eq-eqb _ _ c.if-g-ne0.false, ne_eqb _ _ c.if-w-ne0.true, c.halt-then-w-ne0.ensures)

pub load-requires : goal.load-requires
load-requires c =
    (search rules, omega (arith, whole _ needed 4 c.if-w-ne0.false refl (c.is_readable.ensures.1 c.if-is_readable.true)))

pub pair-requires : goal.pair-requires
pair-requires c =
    rw c.on.ensures (search rules)

pub returns-then-is_readable : goal.returns-then-is_readable
returns-then-is_readable c =
    rw (eq-eqb _ _ c.if-g-ne0.false, eq-eqb _ _ c.if-w-ne0.false, told c.is_readable.ensures.0 c.if-is_readable.true)
    (c.pair.ensures ∙ rw (c.on.ensures, c.load.ensures.0))

pub returns : goal.returns
returns c =
    rw (
      eq-eqb _ _ c.if-g-ne0.false,
      eq-eqb _ _ c.if-w-ne0.false,
      told c.is_readable.ensures.0
          c.if-is_readable.false,
      c.halt-2.ensures,
    )
