-- Each arm of `reading` does what the table says of its opcode, and any other opcode is unlisted. Assumes nothing.
use Rattle.machine.proofs.Rows.{row-rest}
use Rattle.machine.proofs.Operands.{kept}
use Rattle.machine.specs.Instructions.{unlisted_long, read_rows}
use Rattle.instruction.proofs.reading.Goals as goal

pub returns-in-65 : goal.returns-in-65
returns-in-65 c =
    λ p. rw c.in-65.is (kept c.execute.ensures)

pub returns-in-67 : goal.returns-in-67
returns-in-67 c =
    λ p. rw c.in-67.is (kept c.load_step.ensures)

pub returns-in-69 : goal.returns-in-69
returns-in-69 c =
    λ p. rw c.in-69.is (kept c.link_step.ensures)

pub returns-in-71 : goal.returns-in-71
returns-in-71 c =
    λ p. rw c.in-71.is (kept (c.branch_step.ensures _))

pub returns-in-72 : goal.returns-in-72
returns-in-72 c =
    λ p. rw c.in-72.is (kept c.load_step-in-72.ensures)

pub returns-in-73 : goal.returns-in-73
returns-in-73 c =
    λ p. rw c.in-73.is (kept c.load_step-in-73.ensures)

pub returns-in-74 : goal.returns-in-74
returns-in-74 c =
    λ p. rw c.in-74.is (kept c.load_step-in-74.ensures)

pub returns-in-75 : goal.returns-in-75
returns-in-75 c =
    λ p. rw c.in-75.is (kept c.load_step-in-75.ensures)

pub returns-in-76 : goal.returns-in-76
returns-in-76 c =
    λ p. rw c.in-76.is (kept c.load_step-in-76.ensures)

pub returns-in-84 : goal.returns-in-84
returns-in-84 c =
    λ p. rw c.in-84.is (kept c.load_step-in-84.ensures)

pub returns-in-86 : goal.returns-in-86
returns-in-86 c =
    λ p. rw c.in-86.is (kept c.load_step-in-86.ensures)

pub returns-in-87 : goal.returns-in-87
returns-in-87 c =
    λ p. rw c.in-87.is (kept c.load_step-in-87.ensures)

pub returns-in-88 : goal.returns-in-88
returns-in-88 c =
    λ p. rw c.in-88.is (kept c.load_step-in-88.ensures)

pub returns-in-89 : goal.returns-in-89
returns-in-89 c =
    λ p. rw c.in-89.is (kept c.load_step-in-89.ensures)

pub returns-in-90 : goal.returns-in-90
returns-in-90 c =
    λ p. rw c.in-90.is (kept c.load_step-in-90.ensures)

pub returns-in-91 : goal.returns-in-91
returns-in-91 c =
    λ p. rw c.in-91.is (kept c.load_step-in-91.ensures)

pub returns-in-92 : goal.returns-in-92
returns-in-92 c =
    λ p. rw c.in-92.is (kept c.multiply_word_step.ensures)

pub returns-in-94 : goal.returns-in-94
returns-in-94 c =
    λ p. rw c.in-94.is (kept c.load_step-in-94.ensures)

pub returns-in-95 : goal.returns-in-95
returns-in-95 c =
    λ p. rw c.in-95.is (kept c.load_step-in-95.ensures)

pub returns-in_default : goal.returns-in_default
returns-in_default c =
    λ p. rw (row-rest c.args.op read_rows unlisted_long c.in_default.in_default-own.rest, c.halt.ensures)
