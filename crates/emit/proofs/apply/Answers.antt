-- By the cases of the operand; the opcode is the table's. Assumes nothing.
use native.Mathlib.Omega.{arith}
use Rattle.emit.proofs.Tables.{opcode-is}
use Rattle.emit.specs.Codes.{apply_code}
use Rattle.emit.proofs.apply.Goals as goal

pub returns-in-Absent : goal.returns-in-Absent
unfolding apply_code
returns-in-Absent c =
    λ k h. rw c.in-Absent.is

pub returns-in-Held : goal.returns-in-Held
unfolding apply_code
returns-in-Held c =
    λ k h. rw (c.in-Held.is, ← (opcode-is k _ 0 h (omega arith)), ← c.opcode.ensures.0)

pub returns-in-Number : goal.returns-in-Number
unfolding apply_code
returns-in-Number c =
    λ k h. rw (c.in-Number.is, ← (opcode-is k _ 1 h (omega arith)), ← c.opcode-in-Number.ensures.0)

pub returns-in-Stored : goal.returns-in-Stored
unfolding apply_code
returns-in-Stored c =
    λ k h. rw (c.in-Stored.is, ← c.column_of.ensures.0, ← (opcode-is k _ _ h c.column_of.ensures.1), ← c.opcode-in-Stored.ensures.0)
