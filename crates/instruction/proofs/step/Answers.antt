-- `step` makes the definition's tests of the counter in its order, then forms the second operand and calls `short`, `storage` or `plain`. Assumes nothing.
use mathlib.Core.Path.{◌∙◌}
use borrow.Author.Tests.{lt-ltb, le-ltb, le-leb, lt-leb, eq-eqb, ne_eqb}
use Rattle.machine.proofs.Operands.{kept}
use Rattle.machine.proofs.Rows.{step-storage, step-plain}
use Rattle.machine.specs.Space.{space_by}
use Rattle.machine.specs.Step.{cpu, step}
use Rattle.instruction.proofs.step.Goals as goal

pub returns-then-i-ne0 : goal.returns-then-i-ne0
unfolding step
returns-then-i-ne0 c =
    rw (ne_eqb _ _ c.if-i-ne0.true, c.halt.ensures)

pub returns-then-i-lt-ROOM : goal.returns-then-i-lt-ROOM
unfolding step
returns-then-i-lt-ROOM c =
    rw (eq-eqb _ _ c.if-i-ne0.false, lt-leb _ _ c.if-i-lt-ROOM.true, c.halt-then-i-lt-ROOM.ensures)

pub returns-then-program-i : goal.returns-then-program-i
unfolding step
returns-then-program-i c =
    rw (eq-eqb _ _ c.if-i-ne0.false, le-leb _ _ c.if-i-lt-ROOM.false, lt-leb _ _ c.if-program-i.true, c.halt-then-program-i.ensures)

pub returns-then-op-lt64 : goal.returns-then-op-lt64
unfolding step
returns-then-op-lt64 c =
    rw (eq-eqb _ _ c.if-i-ne0.false, le-leb _ _ c.if-i-lt-ROOM.false, le-leb _ _ c.if-program-i.false, lt-ltb _ _ c.if-op-lt64.true)
    (kept (c.short.ensures ∙ rw (c.get.ensures, c.lower.ensures.0)))

pub returns-then-program-i-2 : goal.returns-then-program-i-2
unfolding step
returns-then-program-i-2 c =
    rw (
      eq-eqb _ _ c.if-i-ne0.false,
      le-leb _ _ c.if-i-lt-ROOM.false,
      le-leb _ _ c.if-program-i.false,
      le-ltb _ _ c.if-op-lt64.false,
      lt-leb _ _ c.if-program-i-2.true,
      c.halt-then-program-i-2.ensures,
    )

pub returns-then-op-lt128 : goal.returns-then-op-lt128
returns-then-op-lt128 c =
    let a = c.args in
    let m = space_by a.program a.map.now in
    c.storage.ensures a.program
    ∙ rw (c.named.ensures, c.lower-then-op-lt128.ensures.0)
    (step-storage m (cpu a.regs.now a.code a.at) a.s.now c.if-i-ne0.false c.if-i-lt-ROOM.false c.if-op-lt64.false c.if-program-i-2.false c.if-op-lt128.true)

pub returns : goal.returns
returns c =
    let a = c.args in
    let m = space_by a.program a.map.now in
    c.plain.ensures a.program
    ∙ rw c.named-2.ensures
    (step-plain m (cpu a.regs.now a.code a.at) a.s.now c.if-i-ne0.false c.if-i-lt-ROOM.false c.if-op-lt64.false c.if-program-i-2.false c.if-op-lt128.false)
