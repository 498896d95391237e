-- Each arm of `short` does what the table says of its opcode, and any other opcode is unlisted. Assumes nothing.
use Rattle.machine.proofs.Rows.{row-rest}
use Rattle.machine.specs.Instructions.{unlisted, register_rows}
use Rattle.instruction.proofs.short.Goals as goal

pub returns-in-7 : goal.returns-in-7
returns-in-7 c =
    rw c.in-7.is (c.branch_register_step.ensures _)

pub returns-in-10 : goal.returns-in-10
returns-in-10 c =
    rw (c.in-10.is, c.service_step.ensures)

pub returns-in-16 : goal.returns-in-16
returns-in-16 c =
    rw c.in-16.is c.execute.ensures

pub returns-in-17 : goal.returns-in-17
returns-in-17 c =
    rw c.in-17.is c.execute-in-17.ensures

pub returns-in-18 : goal.returns-in-18
returns-in-18 c =
    rw c.in-18.is c.execute-in-18.ensures

pub returns-in-19 : goal.returns-in-19
returns-in-19 c =
    rw c.in-19.is c.execute-in-19.ensures

pub returns-in-20 : goal.returns-in-20
returns-in-20 c =
    rw c.in-20.is c.execute-in-20.ensures

pub returns-in-22 : goal.returns-in-22
returns-in-22 c =
    rw c.in-22.is c.execute-in-22.ensures

pub returns-in-23 : goal.returns-in-23
returns-in-23 c =
    rw c.in-23.is c.execute-in-23.ensures

pub returns-in-24 : goal.returns-in-24
returns-in-24 c =
    rw c.in-24.is c.execute-in-24.ensures

pub returns-in-25 : goal.returns-in-25
returns-in-25 c =
    rw c.in-25.is c.execute-in-25.ensures

pub returns-in-26 : goal.returns-in-26
returns-in-26 c =
    rw c.in-26.is c.execute-in-26.ensures

pub returns-in-27 : goal.returns-in-27
returns-in-27 c =
    rw c.in-27.is c.execute-in-27.ensures

pub returns-in-28 : goal.returns-in-28
returns-in-28 c =
    rw c.in-28.is c.multiply_step.ensures

pub returns-in-30 : goal.returns-in-30
returns-in-30 c =
    rw c.in-30.is c.execute-in-30.ensures

pub returns-in-31 : goal.returns-in-31
returns-in-31 c =
    rw c.in-31.is c.execute-in-31.ensures

pub returns-in_default : goal.returns-in_default
returns-in_default c =
    rw (row-rest c.args.op register_rows unlisted c.in_default.in_default-own.rest, c.halt.ensures)
