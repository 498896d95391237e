-- `storage` stores by the table's rows, and leaves any other opcode to `reading`. Assumes nothing.
use Rattle.machine.proofs.Rows.{row-rest}
use Rattle.machine.specs.Instructions.{store_rows, read_kind}
use Rattle.instruction.proofs.storage.Goals as goal

pub returns-in-64 : goal.returns-in-64
returns-in-64 c =
    λ p. rw c.in-64.is c.store_step.ensures

pub returns-in-66 : goal.returns-in-66
returns-in-66 c =
    λ p. rw c.in-66.is c.store_step-in-66.ensures

pub returns-in-80 : goal.returns-in-80
returns-in-80 c =
    λ p. rw c.in-80.is c.store_step-in-80.ensures

pub returns-in_default : goal.returns-in_default
returns-in_default c =
    λ p.
    let op = c.args.op in
    rw (row-rest op store_rows (read_kind op) c.in_default.in_default-own.rest) (c.reading.ensures p)
