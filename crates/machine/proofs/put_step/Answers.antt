-- `put_step` stops as the operand's tests say; an aligned operand that begins in storage lies in it. Assumes nothing.
use native.Mathlib.Omega.{arith}
use borrow.Author.Tests.{eq-eqb, ne_eqb}
use Rattle.base.proofs.Tests.{told}
use Rattle.machine.proofs.Operands.{whole}
use Rattle.machine.specs.Space.{needed}
use Rattle.machine.proofs.put_step.Goals as goal

pub returns-then-w-n-ne0 : goal.returns-then-w-n-ne0
returns-then-w-n-ne0 c =
    λ rs. rw (ne_eqb _ _ c.if-w-n-ne0.true, c.halt.ensures)

pub store-requires : goal.store-requires
store-requires c =
    omega (
      arith,
      whole _ needed _ c.if-w-n-ne0.false c.requires.4
          (c.is_writable.ensures.1 c.if-is_writable.true),
    )

pub returns-then-is_writable : goal.returns-then-is_writable
returns-then-is_writable c =
    λ rs.
    rw (eq-eqb _ _ c.if-w-n-ne0.false, told c.is_writable.ensures.0 c.if-is_writable.true)
    (rw (c.go.ensures, c.store.ensures))

pub returns : goal.returns
returns c =
    λ rs. rw (eq-eqb _ _ c.if-w-n-ne0.false, told c.is_writable.ensures.0 c.if-is_writable.false, c.halt-2.ensures)
