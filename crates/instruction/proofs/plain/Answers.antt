-- `plain` stores or compares the number by the table's rows, and leaves any other opcode to `shift`. Assumes nothing.
use Rattle.machine.proofs.Operands.{kept}
use Rattle.machine.proofs.Rows.{row-rest}
use Rattle.machine.specs.Instructions.{immediate_rows, shift_kind}
use Rattle.machine.specs.Space.{space_by}
use Rattle.instruction.proofs.plain.Goals as goal

pub returns-in-146 : goal.returns-in-146
returns-in-146 c =
    λ p. rw c.in-146.is (c.put_step.ensures _)

pub returns-in-149 : goal.returns-in-149
returns-in-149 c =
    λ p. rw c.in-149.is (kept (c.compare_step.ensures _))

pub returns-in_default : goal.returns-in_default
returns-in_default c =
    λ p.
    let a = c.args in
    rw (row-rest a.op immediate_rows (shift_kind a.op) c.in_default.in_default-own.rest) (c.shift.ensures (space_by p a.map.now) a.s.now)
