-- Each arm of `shift` does what the table says of its opcode, and any other opcode is unlisted. Assumes nothing.
use Rattle.machine.proofs.Operands.{kept}
use Rattle.machine.proofs.Rows.{row-rest}
use Rattle.machine.specs.Instructions.{unlisted_long, shift_rows}
use Rattle.instruction.proofs.shift.Goals as goal

pub returns-in-136 : goal.returns-in-136
returns-in-136 c =
    λ m s. rw c.in-136.is (kept c.shift_step.ensures)

pub returns-in-137 : goal.returns-in-137
returns-in-137 c =
    λ m s. rw c.in-137.is (kept c.shift_step-in-137.ensures)

pub returns-in-138 : goal.returns-in-138
returns-in-138 c =
    λ m s. rw c.in-138.is (kept c.shift_step-in-138.ensures)

pub returns-in-139 : goal.returns-in-139
returns-in-139 c =
    λ m s. rw c.in-139.is (kept c.shift_step-in-139.ensures)

pub returns-in_default : goal.returns-in_default
returns-in_default c =
    λ m s. rw (row-rest c.args.op shift_rows unlisted_long c.in_default.in_default-own.rest, c.halt.ensures)
